use Rattle.std.proofs.Common.{◌≡◌, ◌∙◌, sym, ap, subst, map}
use Rattle.std.specs.Prelude.{option_map}
use Rattle.std.specs.Option.{IfSome}
use Rattle.std.specs.FinMap.{from_entries}
use Rattle.custody_records.specs.declared.releases.Release as given
use Rattle.custody_records.specs.TypedRecords.{release_entry, release_value}
use Rattle.plain_machine.specs.Plain.{state_view}
use Rattle.plain_machine.proofs.PlainSteps.{as_answered}
use Rattle.plain_machine.proofs.PlainReleases.{refuses_release, release_pushed, releases_new, repeats_release}
use Rattle.plain_machine.proofs.state.PlainState.release.Goals as goal

pub returns-in-Some-clause-step : goal.returns-in-Some-clause-step
returns-in-Some-clause-step c = refuses_release (state_view c.args.self.now) c.args.reference c.args.tld c.args.reason c.args.now c.in-Some.refusal (sym c.in_ok-refusal.ensures ∙ c.in-Some.is)

pub returns-in-Some-release_of-clause-step : goal.returns-in-Some-release_of-clause-step
returns-in-Some-release_of-clause-step c =
    as_answered _ _ _ _ _ c.release_answer.ensures (repeats_release (state_view c.args.self.now) c.args.reference c.args.tld c.args.reason c.args.now c.in-Some-release_of.release.now (sym c.in_ok-refusal.ensures ∙ c.in_default.is)
    (sym c.release_of.ensures.found ∙ ap (option_map (λ r. release_value r.now)) c.in-Some-release_of.is)
    (subst (λ o. IfSome o (λ r. r.now.reference ≡ c.args.reference)) c.in-Some-release_of.is c.release_of.ensures.key))

pub returns-clause-step : goal.returns-clause-step
returns-clause-step c =
    let old = state_view c.args.self.now in
    let at = sym c.release_of.ensures.found ∙ ap (option_map (λ r. release_value r.now)) c.in_default-release_of.is in
    let added : given.Release = record { reference = c.args.reference; tld = c.args.tld; reason = c.args.reason; at = c.args.now; names = c.in_ok-held_names.field-0 } in
    as_answered _ _ _ _ _ c.release_answer-answer.ensures (releases_new old c.args.reference c.args.tld c.args.reason c.args.now c.in_ok-held_names.field-0 _ (sym c.in_ok-refusal.ensures ∙ c.in_default.is) at c.in_ok-held_names.ensures
    (ap (λ m. record old { releases = m }) (ap (λ items. from_entries (map release_entry items)) c.in_ok-push.ensures.items ∙ release_pushed c.args.self.now.releases.items added at)))
