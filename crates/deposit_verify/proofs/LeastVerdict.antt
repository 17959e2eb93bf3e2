-- The verdict that is computed is the least check that fails.
use Rattle.std.proofs.Common.{◌≡◌, ◌+◌, ◌∷◌, [], ℕ, Bool, true, false, List, Option, Some, None, ap, arith, if◌then◌else◌, refl, subst, sym}
use Rattle.std.specs.Bool.{Decides}
use Rattle.std.proofs.lemmas.Bool.Decides.{Decides-and, Decides-at, Decides-not, not_from_Decides}
use Rattle.std.proofs.lemmas.Slice.Eq.{bytes_eq-Decides}
use Rattle.desk.specs.Checks.{check_number}
use Rattle.desk.specs.declared.checks.Check.{Check}
use Rattle.desk.specs.declared.checks.Check.TheVariants as check
use Rattle.deposit_name.specs.declared.kinds.Kind.TheVariants.{Full}
use Rattle.dnrd_csv.specs.Readers.{IsTableReader}
use Rattle.envelope.specs.Envelope.{Env, env_text}
use Rattle.envelope.specs.Frame.{IsFrame}
use Rattle.envelope.specs.Readers.{AreReaders, envelope_at, frame_at}
use Rattle.deposit_verify.specs.Checks.{AreRowCounts, PassesBelow, PassesCheck, IsLeast, IsVerdict, CheckSays}
use Rattle.deposit_verify.specs.Deposit.{AreFiles, all_entries, HasFiles, IsDeposit}
use Rattle.deposit_verify.specs.Known.{Known}
use Rattle.deposit_verify.specs.References.{AreReferencesKept}
use Rattle.deposit_verify.specs.Verdict.{are_row_counts, are_references_kept, checks_inside, files_reading_at, envelope_verdict, first_failing, frame_verdict, passes_check, verdict, with_tables}
use Rattle.deposit_verify.specs.declared.verdict.Verdict.TheVariants.{Fail}
use Rattle.deposit_verify.proofs.FilesDecided.{counts_decide, deletes_decide, files_are, files_decide, full_decides, references_decide, table_decides, unless_decides}
use Rattle.deposit_verify.proofs.CountsDecided.{chain_decides}
use Rattle.deposit_name.proofs.KindLemmas.{same_kind_decides}
use Rattle.deposit_verify.proofs.HeaderDecided.{contains_decides, menu_decides, name_decides, passed_decides, weekday_decides}
use Rattle.deposit_verify.specs.inside.Reading.{OneReading}
use Rattle.deposit_verify.proofs.Lifted.{least}
use Rattle.deposit_verify.proofs.Uniques.{OneText}
use Rattle.deposit_verify.proofs.Verdicts.{below_all, below_more, below_none}

-- ---- the first of checks in the order of their numbers that fails is the least

-- the checks have the numbers from n on, up to the last
abbrev AreFrom : ℕ → List Check → Type 0
AreFrom n [] = n ≡ 14
AreFrom n (c ∷ cs) = (check_number c ≡ n) × AreFrom (n + 1) cs

first_least : (P : Check → Type 0) (test : Check → Bool) → ((c : Check) → PassesBelow P (check_number c) → Decides (test c) (P c))
    → (n : ℕ) (cs : List Check) → AreFrom n cs → PassesBelow P n → IsLeast P (first_failing test cs)
first_least P test decides n [] from below = below_all P (subst (PassesBelow P) from below)
first_least P test decides n (c ∷ cs) from below = by (test c) (decides c here) (first_least P test decides (n + 1) cs from.1)
  where
    here : PassesBelow P (check_number c)
    here = subst (PassesBelow P) (sym from.0) below

    by : (b : Bool) → Decides b (P c) → (PassesBelow P (n + 1) → IsLeast P (first_failing test cs)) → IsLeast P (if b then first_failing test cs else Fail c)
    by true d later = later (subst (λ (m : ℕ). PassesBelow P (m + 1)) from.0 (below_more P c here (d.0 refl)))
    by false d later = (not_from_Decides false d refl, here)

-- ---- each check

module _ (reader : IsTableReader) (one : OneText) (v : Env) (rest : List ℕ) (k : Known) where
  -- a check behind that of the files, by the files that there are
  behind_files : (c : Check) → HasFiles v rest (λ files. Unit {0})
      → ((files : List (List ℕ)) → AreFiles (all_entries v) rest files → Decides (passes_check v k (with_tables v (Some files)) c) (CheckSays v rest k c)) → Decides (passes_check v k (files_reading_at v rest) c) (CheckSays v rest k c)
  behind_files c has decides = Decides-at _ _ (ap (λ o. passes_check v k (with_tables v o) c) (files_are (all_entries v) rest has.0 has.1)) (decides has.0 has.1)

  check_decides : (c : Check) → PassesBelow (CheckSays v rest k) (check_number c) → Decides (passes_check v k (files_reading_at v rest) c) (CheckSays v rest k c)
  check_decides check.Frame below = (λ _. tt, λ _. refl)
  check_decides check.Envelope below = (λ _. tt, λ _. refl)
  check_decides check.Name below = name_decides v k.name
  check_decides check.Statement below = bytes_eq-Decides v.id k.id
  check_decides check.Weekday below = weekday_decides v
  check_decides check.PrevId below = passed_decides v.kind v.prev_id k
  check_decides check.IdTaken below = Decides-not _ (contains_decides k.passed v.id)
  check_decides check.Menu below = menu_decides v
  check_decides check.Files below = files_decide v rest
  check_decides check.Table below = behind_files check.Table (below check.Files (omega arith)) (table_decides reader v rest)
  check_decides check.Counts below = behind_files check.Counts (below check.Files (omega arith)) (λ files are.
      Decides-and _ _ (full_decides reader one v rest files (below check.Menu (omega arith)) are (below check.Table (omega arith)) (AreRowCounts v.count) (are_row_counts v.count) (counts_decide v))
      (unless_decides _ _ (same_kind_decides v.kind Full) (chain_decides reader v rest files (below check.Menu (omega arith)) are k (below check.Table (omega arith)))))
  check_decides check.References below = behind_files check.References (below check.Files (omega arith)) (λ files are.
      full_decides reader one v rest files (below check.Menu (omega arith)) are (below check.Table (omega arith)) AreReferencesKept are_references_kept references_decide)
  check_decides check.Deletes below = behind_files check.Deletes (below check.Files (omega arith)) (deletes_decide reader v rest)

  inside_least : IsLeast (CheckSays v rest k) (first_failing (passes_check v k (files_reading_at v rest)) checks_inside)
  inside_least =
      first_least (CheckSays v rest k) (passes_check v k (files_reading_at v rest)) check_decides 3 checks_inside
      (refl, (refl, (refl, (refl, (refl, (refl, (refl, (refl, (refl, (refl, (refl, refl)))))))))))
      (below_more (CheckSays v rest k) check.Envelope (below_more (CheckSays v rest k) check.Frame (below_none (CheckSays v rest k)) tt) tt)

-- ---- frame and envelope

module _ (readers : AreReaders) (reader : IsTableReader) (one_reading : OneReading) (one_text : OneText) (joined : List ℕ) (k : Known) where
  no_envelope : (envelope rest : List ℕ) → frame_at joined ≡ Some (envelope, rest) → envelope_at envelope ≡ None → PassesCheck joined k check.Envelope → ⊥
  no_envelope envelope rest framed none holds =
      let deposit = holds.2 in
      let same = one_reading.frame joined envelope (env_text holds.0) rest holds.1 ((readers.frame_read joined envelope rest).0 framed) deposit.framed in
      (readers.no_envelope envelope).0 none holds.0 deposit.in_form same.0

  by_envelope : (envelope rest : List ℕ) → frame_at joined ≡ Some (envelope, rest) → (o : Option Env) → envelope_at envelope ≡ o → IsVerdict joined k (envelope_verdict k rest o)
  by_envelope envelope rest framed None none =
      (no_envelope envelope rest framed none, below_more (PassesCheck joined k) check.Frame (below_none (PassesCheck joined k)) (envelope, rest, (readers.frame_read joined envelope rest).0 framed))
  by_envelope envelope rest framed (Some v) read =
      let spelled = (readers.envelope_read envelope v).0 read in
      let deposit : IsDeposit joined v rest = record { in_form = spelled.0; framed = subst (λ (t : List ℕ). IsFrame joined t rest) spelled.1 ((readers.frame_read joined envelope rest).0 framed) } in
      least one_reading joined k v rest deposit (first_failing (passes_check v k (files_reading_at v rest)) checks_inside) (inside_least reader one_text v rest k)

  by_frame : (o : Option (List ℕ × List ℕ)) → frame_at joined ≡ o → IsVerdict joined k (frame_verdict k o)
  by_frame None none = (λ holds. (readers.no_frame joined).0 none holds.0 holds.1 holds.2, below_none (PassesCheck joined k))
  by_frame (Some parts) framed = by_envelope parts.0 parts.1 framed (envelope_at parts.0) refl

  pub verdict_is : IsVerdict joined k (verdict joined k)
  unfolding verdict
  verdict_is = by_frame (frame_at joined) refl
