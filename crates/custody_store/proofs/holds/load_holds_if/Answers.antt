use Rattle.std.proofs.Common.{◌≡◌, false, ◌∙◌, sym, ap, rules}
use Rattle.sqlite.specs.Held.{state}
use Rattle.custody_records.specs.Form.{holds_in, keyed_map}
use Rattle.custody_records.specs.Keys.{text_cmp}
use Rattle.custody_records.specs.TypedRecords.{hold_key, hold_value}
use Rattle.custody_store.proofs.MissingLemmas.{holds_missing}
use Rattle.custody_store.proofs.holds.load_holds_if.Goals as goal

pub returns-else-has_holds-clause-found : goal.returns-else-has_holds-clause-found
returns-else-has_holds-clause-found g c clean first there =
    let without : c.args.has_holds ≡ false = search rules in
    let none = holds_missing (state g.S.Store c.args.db.now) first (there ∙ without) in
    (λ i. holds_in (without i) (none i)) ∙ sym (ap (keyed_map text_cmp hold_key hold_value) c.new.ensures.items)
