use Rattle.std.proofs.Common.{◌≡◌, List, ℕ, Result, Ok, Err, sym, subst}
use Rattle.std.specs.Prelude.{IfOk}
use Rattle.custody_records.specs.MemoryRecords.{records_of}
use Rattle.custody_machine.specs.Releases.{AreRecordedNames}
use Rattle.custody_rules.specs.inside.Releases.{held_part_names}
use Rattle.custody_rules.proofs.Releases.{rows_held, rows_recorded}
use Rattle.custody_rules.proofs.release_rules.held_names.Goals as goal

-- what is so of the names that are listed
of_names : {E : Type 0} (r : Result (List (List ℕ)) E) (names : List (List ℕ)) (InForm : Type 0) (P : List (List ℕ) → Type 0) → IfOk r (λ listed. listed ≡ names) → IfOk r (λ _. InForm) → (InForm → P names) → IfOk r P
of_names (Ok listed) names InForm P is in_form holds = subst P (sym is) (holds in_form)
of_names (Err e) names InForm P is in_form holds = tt

pub returns : goal.returns
returns c =
    let records = records_of c.args.records.now in
    let rows = c.parts_of.result.now in
    let listed = c.held_part_names in
    record {
      names = of_names listed.result (held_part_names rows) _ _ listed.ensures.names listed.ensures.in_form (λ _. rows_held records c.args.tld.now rows c.parts_of.ensures);
      recorded = of_names listed.result (held_part_names rows) _ (AreRecordedNames records c.args.tld.now) listed.ensures.names listed.ensures.in_form
          (λ in_form. rows_recorded records c.args.tld.now rows c.parts_of.ensures in_form);
    }
