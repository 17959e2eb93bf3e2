-- The calls of the deeds that are written out.
use Rattle.std.proofs.Common.{◌≡◌, ◌-◌, ℕ, List, [], ◌∷◌, map, not, true, None, Some, codes, refl, sym, ◌∙◌, ap, subst}
use Rattle.std.specs.FinMap as fin
use Rattle.std.specs.FinMap.{entries, entries-insert}
use Rattle.std.specs.List.{filter, flat_map, list_any, range_with_len}
use Rattle.schedule.specs.Schedule.{day_of}
use Rattle.custody_records.specs.Keys.{NoticeKey, notice_cmp, text_cmp}
use Rattle.custody_records.specs.Records.{Notice}
use Rattle.custody_records.specs.inside.Orders.{text_total}
use Rattle.custody_machine.specs.State.{is_notice_of}
use Rattle.custody_machine.specs.Machine.{Check, Receive}
use Rattle.custody_machine.specs.ExampleLife.{clock_moment, example_tld}
use Rattle.custody_rules.specs.DueDays.{due_days, due_days_of}
use Rattle.agent_cli.specs.Acts.{file_name}
use Rattle.theorems.specs.CustodyCalls.{Applies}
use Rattle.theorems.specs.Deeds.{AreSweepCalls}
use Rattle.theorems.specs.ExampleDeeds.{DeedsHappen, checks_of_both, registry_records, sweep_moment}
use Rattle.theorems.proofs.ExampleStates.{nothing}

abbrev both_days : List (List ℕ × ℕ)
both_days = (example_tld, 20_667) ∷ (example_tld, 20_668) ∷ []

one_registry : entries registry_records.registries ≡ (example_tld, 20_667) ∷ []
one_registry = entries-insert text_total fin.empty example_tld 20_667 ∙ ap (fin.put text_cmp example_tld 20_667) (nothing text_cmp)

-- the days of a registry that have none of these notices
abbrev days_without : List (NoticeKey × Notice) → List ℕ × ℕ → List (List ℕ × ℕ)
days_without notices registry = filter (λ (day : List ℕ × ℕ). not (list_any (is_notice_of day.0 day.1 (λ kind. true)) notices)) (map (λ day. (registry.0, day)) (range_with_len registry.1 (day_of sweep_moment - registry.1)))

both_due : due_days registry_records sweep_moment ≡ both_days
both_due = ap (flat_map (due_days_of registry_records sweep_moment)) one_registry ∙ ap (λ notices. flat_map (days_without notices) ((example_tld, 20_667) ∷ [])) (nothing notice_cmp)

pub deeds_happen : DeedsHappen
deeds_happen = record {
  sweep = λ first second. subst (λ days. AreSweepCalls None days sweep_moment (checks_of_both first second)) (sym both_due) ((first, refl), ((second, refl), tt));
  first_alone = λ first. subst (λ days. AreSweepCalls None days sweep_moment (Applies (Check example_tld 20_667) sweep_moment first ∷ [])) (sym both_due) ((first, refl), tt);
  too_many = λ calls are. subst (λ days. AreSweepCalls (Some 1) days sweep_moment calls) both_due are;
  put = λ file answer is. (answer, ap (λ path. Applies (Receive (file_name path) (codes "hello")) (clock_moment 20_667 10 0) answer ∷ []) (sym is));
  state = λ calls none. none;
}
