use Rattle.std.proofs.Common.{◌∙◌, sym, ap, subst}
use Rattle.std.specs.Prelude.{is_some}
use Rattle.std.specs.FinMap.{get}
use Rattle.deposit_name.specs.Name.{Name}
use Rattle.custody_records.specs.MemoryRecords.{records_of}
use Rattle.custody_machine.specs.Rulings.{AddsPart, GoRuling, DecidesPart}
use Rattle.custody_rules.proofs.Judged.{first_in_records, new_in_state, refuses, refuses_registry, goes}
use Rattle.custody_rules.proofs.judging.judge_named.Goals as goal

pub returns-in_default : goal.returns-in_default
returns-in_default c = λ text named.
    refuses_registry (records_of c.args.records.now) text c.args.name.now c.args.len c.args.now named (ap (λ (n : Name). get (records_of c.args.records.now).registries n.tld) (sym c.name.view_is) ∙ sym c.first_day.ensures ∙ c.in_default.is)

pub returns-in-Some-part_under : goal.returns-in-Some-part_under
returns-in-Some-part_under c = λ text named. c.judge_recorded.ensures (records_of c.args.records.now) text c.args.name.now c.args.now (record {
  named = named;
  known = ap is_some (ap (λ (n : Name). get (records_of c.args.records.now).registries n.tld) (sym c.name.view_is) ∙ sym c.first_day.ensures ∙ c.in-Some.is);
  place = c.in-Some-part_under.ensures.key;
  recorded = sym c.in-Some-part_under.ensures.found;
})

pub returns-in-Some-refusal_of_new : goal.returns-in-Some-refusal_of_new
returns-in-Some-refusal_of_new c = λ text named.
    let records = records_of c.args.records.now in
    let refused = c.in-Some-refusal_of_new in
    let known = ap (λ (n : Name). get records.registries n.tld) (sym c.name.view_is) ∙ sym c.first_day.ensures ∙ c.in-Some.is in
    refuses records text c.args.name.now c.args.len c.args.now named refused.refusal refused.ensures.early.0 refused.ensures.early.1
    (λ image bytes sized. first_in_records records image c.args.name.now bytes c.args.len c.args.now c.in-Some.first_day sized known (new_in_state records image c.args.name.now (sym c.in-None.ensures.found)) ∙ sym refused.ensures.first)

pub returns-in-None-refusal_of_new : goal.returns-in-None-refusal_of_new
returns-in-None-refusal_of_new c = λ text named.
    let records = records_of c.args.records.now in
    let new = sym c.in-None.ensures.found in
    let known = ap (λ (n : Name). get records.registries n.tld) (sym c.name.view_is) ∙ sym c.first_day.ensures ∙ c.in-Some.is in
    subst (λ n. DecidesPart (GoRuling (AddsPart n)) records text c.args.len c.args.now) (sym c.name.view_is) (goes records text c.args.name.now c.args.len c.args.now named new
    (λ image bytes sized. first_in_records records image c.args.name.now bytes c.args.len c.args.now c.in-Some.first_day sized known (new_in_state records image c.args.name.now new) ∙ sym c.in-None-refusal_of_new.ensures.first))
