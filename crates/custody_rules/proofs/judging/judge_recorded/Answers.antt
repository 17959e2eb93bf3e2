use Rattle.std.proofs.Common.{Some, Vec, Global, ◌∙◌, sym, ap}
use Rattle.std.specs.Prelude.{option_map}
use Rattle.extent_map.specs.declared.extent.Extent.{Extent}
use Rattle.custody_rules.proofs.Judged.{refuses_size, refuses_dropped, compares}
use Rattle.custody_rules.proofs.judging.judge_recorded.Goals as goal

pub returns-then-is_out_of_size : goal.returns-then-is_out_of_size
returns-then-is_out_of_size c = λ records text name now under. refuses_size records text name c.args.part.now c.args.len now under (sym c.is_out_of_size.ensures ∙ c.if-is_out_of_size.true)

pub returns-in-Some : goal.returns-in-Some
returns-in-Some c = λ records text name now under. compares records text name c.args.part.now c.args.len now under (sym c.is_out_of_size.ensures ∙ c.if-is_out_of_size.false) _ (ap (option_map (λ (v : Vec Extent Global). v.items)) c.in-Some.is ∙ ap Some (sym c.deref.ensures.value))

pub returns-in-None : goal.returns-in-None
returns-in-None c = λ records text name now under. refuses_dropped records text name c.args.part.now c.args.len now under (sym c.is_out_of_size.ensures ∙ c.if-is_out_of_size.false) (ap (option_map (λ (v : Vec Extent Global). v.items)) c.in-None.is)
