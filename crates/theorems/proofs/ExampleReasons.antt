-- Why the deposit of the example has failed: its five bytes do not begin as a frame.
use Rattle.std.proofs.Common.{◌≡◌, ℕ, List, [], ◌∷◌, ◌++◌, Some, None, cond, codes, refl, sym, ◌∙◌, ap, subst, arith}
use Rattle.std.specs.Prelude.{slice_index}
use Rattle.std.specs.Ordering.{eq_by_cmp}
use Rattle.std.specs.FinMap as fin
use Rattle.std.specs.FinMap.{entries, get, get-empty, get-insert, entries-insert}
use Rattle.desk.specs.declared.checks.Check.TheVariants as check
use Rattle.envelope.specs.Frame.{frame_head}
use Rattle.envelope.specs.declared.frame.FrameError.TheVariants.{Head}
use Rattle.deposit_verify.specs.declared.reason.Reason.TheVariants as reason
use Rattle.deposit_verify.specs.declared.verdict.Verdict.TheVariants.{Fail}
use Rattle.deposit_verify.specs.Checks.{PassesCheck, IsVerdict}
use Rattle.deposit_verify.specs.Known.{Known}
use Rattle.deposit_verify.specs.Reasons.{IsReason}
use Rattle.deposit_verify.proofs.Verdicts.{below_none}
use Rattle.custody_records.specs.Keys.{NoticeKey, PartKey, notice_cmp, part_cmp}
use Rattle.custody_records.specs.inside.Orders.{notice_total, part_total, text_total}
use Rattle.custody_records.specs.Records.{Notice}
use Rattle.custody_machine.specs.State.{State}
use Rattle.custody_machine.specs.Machine.{Statement, OfNotice, Reply, Accept, first_part, joined_bytes, state_with_notice, step}
use Rattle.custody_machine.specs.Explaining.{IsFailureOf, explain_refusal, known_before}
use Rattle.custody_machine.specs.ExampleLife.{example_notice_key, example_part_key, example_statement, example_tld, new_reply}
use Rattle.custody_machine.proofs.Accepting.{accept_inj, insert_here}
use Rattle.custody.specs.Explaining.{IsExplanation}
use Rattle.theorems.specs.ExampleService.{example_explanation, example_failure, example_part, example_failure_notice, state_of_part}
use Rattle.theorems.proofs.ExampleStates.{effect_is, nothing}

-- the state after the statement
abbrev pub failed_state : State
failed_state = state_with_notice state_of_part (example_notice_key 1) example_failure_notice

pub is_failed : (new : State) (now : ℕ) → step state_of_part (Statement example_statement) now ≡ Accept (new_reply example_failure) new → new ≡ failed_state
is_failed new now is =
    let same = accept_inj _ _ _ _ (effect_is state_of_part new (Statement example_statement) now example_failure is) in
    let entry = ap (λ (reply : Reply). reply.entry) same.0 in
    sym same.1 ∙ by _ _ entry
  where
    by : (key : NoticeKey) (notice : Notice) → OfNotice key notice ≡ example_failure → state_with_notice state_of_part key notice ≡ failed_state
    by key notice e =
        let keys : key ≡ example_notice_key 1 = cc in
        let notices : notice ≡ example_failure_notice = cc in
        λ i. state_with_notice state_of_part (keys i) (notices i)

first_day : get failed_state.registries example_tld ≡ Some 20_667
first_day = insert_here text_total fin.empty example_tld 20_667

one_part : (q : PartKey) → get failed_state.parts q ≡ cond (eq_by_cmp part_cmp q example_part_key) (Some example_part) None
one_part q = get-insert part_total fin.empty example_part_key example_part q ∙ ap (cond (eq_by_cmp part_cmp q example_part_key) (Some example_part)) (get-empty part_cmp q)

one_notice : entries failed_state.notices ≡ (example_notice_key 1, example_failure_notice) ∷ []
one_notice = entries-insert notice_total fin.empty (example_notice_key 1) example_failure_notice ∙ ap (fin.put notice_cmp (example_notice_key 1) example_failure_notice) (nothing notice_cmp)

-- its first byte is another than that of a frame
hello_differs : (more : List ℕ) → codes "hello" ≡ frame_head ++ more → ⊥
hello_differs more is = let first : 104 ≡ 82 = ap (λ (t : List ℕ). slice_index t 0) is in absurd (omega (arith, first))

hello_fails : (known : Known) → IsVerdict (codes "hello") known (Fail check.Frame)
hello_fails known = (λ holds. let first : 104 ≡ 82 = ap (λ (t : List ℕ). slice_index t 0) holds.2.1 in absurd (omega arith), below_none (PassesCheck (codes "hello") known))

hello_is_no_frame : (known : Known) → IsReason (codes "hello") known (reason.Frame Head)
hello_is_no_frame known = record { fails = hello_fails known; place = hello_differs }

joined_is : joined_bytes failed_state (first_part example_statement) ≡ codes "hello"
joined_is = simp one_part

failure_is : IsFailureOf failed_state (example_notice_key 1) example_failure_notice example_statement check.Frame
failure_is = record { found = simp one_notice; told = refl; kind = simp one_part; parts = simp one_part }

pub not_refused : explain_refusal failed_state example_tld 20_667 0 ≡ None
not_refused = simp (first_day, one_part, one_notice)

pub is_explained : IsExplanation failed_state example_tld 20_667 0 example_explanation
is_explained = let known = known_before failed_state (example_notice_key 1) example_statement in record {
  key = example_notice_key 1;
  notice = example_failure_notice;
  stated = example_statement;
  registry = refl;
  day_right = refl;
  rev_right = refl;
  failed = failure_is;
  reason = (subst (λ joined. IsReason joined known (reason.Frame Head)) (sym joined_is) (hello_is_no_frame known), refl);
  passed_on = refl;
}
