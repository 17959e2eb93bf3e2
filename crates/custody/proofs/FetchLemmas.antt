-- A part that is fetched.
use Rattle.std.proofs.Common.{◌≡◌, ℕ, ◌+◌, List, Some, true, false, refl, sym, ◌∙◌, ap, subst, arith, Result, Err, Vec, Global}
use Rattle.std.specs.Prelude.{is_none}
use Rattle.std.specs.FinMap.{get}
use Rattle.deposit_name.specs.Name.{Name}
use Rattle.sqlite.specs.Store.{Ghosts}
use Rattle.vault_volume.specs.declared.volume.Volume as volume
use Rattle.custody_records.specs.Records.{PartRecord, Records, key_of}
use Rattle.custody_machine.specs.declared.answers.Failure.TheVariants.{Damaged}
use Rattle.custody_rules.specs.Judging.{part_under}
use Rattle.custody.specs.declared.answers.Refused.{Refused}
use Rattle.custody.specs.declared.answers.Refused.TheVariants as refused
use Rattle.custody.specs.declared.custody.Custody.{Custody}
use Rattle.custody.specs.Answers.{closing_failure, stays_open}
use Rattle.custody.specs.Custody.{failure_of, open_custody_of, is_open}
use Rattle.custody.specs.Fetching.{IsFetchDecided, IsFetched, HasFetched, answered_bytes, bytes_if_answered}
use Rattle.custody.specs.OpenCustody.{current_records, image_of, failures_of}
use Rattle.custody.specs.Reading.{ReadsVault}
use Rattle.custody.proofs.Rested.{reads_rested}

-- a part that is recorded under a name stands at its place
pub stands_at : (records : Records) (name : Name) (part : PartRecord) → part_under records name ≡ Some part → get records.parts (key_of name) ≡ Some part
stands_at records name part e = grind arith

-- a failure is told whatever the bytes are
pub told_err : {T : Type 0} (result : Result T Refused) (e : Refused) (bytes : List ℕ) → result ≡ Err e → bytes_if_answered result bytes ≡ Err e
told_err result e bytes is = ap (λ r. bytes_if_answered r bytes) is

closing_alike : (answer : Result (Vec ℕ Global) Refused) → closing_failure answer ≡ closing_failure (answered_bytes answer)
closing_alike (Err (refused.Failure (Damaged damage))) = refl
closing_alike answer = refl

module _ {V S : Type 0} {g : volume.Ghosts V} {database : Ghosts S} (old new : Custody V S g database) (serving : is_open old ≡ true) (same : current_records (open_custody_of new) ≡ current_records (open_custody_of old)) (store_same : (open_custody_of new).store ≡ (open_custody_of old).store)
    (read : ReadsVault (open_custody_of old).vault (open_custody_of new).vault) (reference name : List ℕ) where
  pub has_fetched : (answer : Result (Vec ℕ Global) Refused) → failure_of new ≡ closing_failure answer → IsFetchDecided (current_records (open_custody_of old)) reference name (answered_bytes answer)
      → (g.tells → IsFetched (current_records (open_custody_of old)) (image_of (open_custody_of old)) reference name (answered_bytes answer))
      → (stays_open answer ≡ false → failures_of (open_custody_of new) ≡ failures_of (open_custody_of old) + 1) → (stays_open answer ≡ true → failures_of (open_custody_of new) ≡ failures_of (open_custody_of old))
      → (told : Result (List ℕ) Refused) → told ≡ answered_bytes answer → HasFetched old reference name told new
  has_fetched answer closes decided bytes failed not_failed told is = let opened : is_open new ≡ stays_open answer = ap is_none closes in subst (λ t. HasFetched old reference name t new) (sym is) record {
    closed = λ shut. let clash : true ≡ false = sym serving ∙ shut in cc;
    closes = λ _. closes ∙ closing_alike answer;
    decided = λ _. decided;
    bytes = λ _. bytes;
    rested = λ _. reads_rested database (open_custody_of old) (open_custody_of new) (old.order serving) same store_same read.free read.size (λ tells. (read.image tells, read.any_moment tells)) (is_open new)
        (λ shut. let one = failed (sym opened ∙ shut) in omega (arith, one)) (λ stays. not_failed (sym opened ∙ stays));
    unwritten = λ _ tells. (read.image tells, read.any_moment tells);
  }
