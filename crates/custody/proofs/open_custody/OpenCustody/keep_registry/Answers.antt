use Rattle.std.proofs.Common.{false, refl, sym, ◌∙◌, ap, subst, Ok, Err, inl, inr}
use Rattle.std.specs.FinMap.{get}
use Rattle.custody_records.specs.inside.Orders.{text_total}
use Rattle.custody_machine.proofs.Accepting.{insert_here}
use Rattle.custody_records.specs.Records.{with_registry}
use Rattle.custody_machine.specs.Machine.{Register}
use Rattle.custody_machine.proofs.Composed.{register_adds}
use Rattle.custody.specs.declared.answers.Reply.{Reply}
use Rattle.custody.specs.declared.answers.Record.TheVariants as of
use Rattle.custody.specs.OpenCustody.{current_records, store_state_of, image_of, HasExecuted}
use Rattle.custody_machine.specs.Rulings.{AddsRegistry, GoRuling}
use Rattle.custody_rules.proofs.Judged.{registry_is_new}
use Rattle.custody.proofs.OpenCustodyLemmas.{registry_means}
use Rattle.custody.proofs.Done.{failed_as, no_memory_done, commits_done, commits_in_doubt}
use Rattle.custody.proofs.Registered.{registry_change}
use Rattle.custody.proofs.open_custody.OpenCustody.keep_registry.Goals as goal

pub returns-in_err-reserve_registry : goal.returns-in_err-reserve_registry
returns-in_err-reserve_registry g c = λ now. failed_as c.from_residual.ensures.1 (
    let old = c.args.self.now in
    no_memory_done g.S.Store old c.requires.order (Register c.args.registry.tld c.args.registry.first_day) now c.reserve_registry.new.self c.in_err-reserve_registry.ensures.same _ _
    (register_adds (current_records old) (image_of old) c.args.registry.tld c.args.registry.first_day now c.requires.new)
    (GoRuling (AddsRegistry c.args.registry.tld c.args.registry.first_day), registry_is_new (current_records old) c.args.registry.tld c.args.registry.first_day now c.requires.new, inl refl))

pub returns-in_err-insert_registry : goal.returns-in_err-insert_registry
returns-in_err-insert_registry g c = λ now.
    let old = c.args.self.now in
    commits_in_doubt g.S.Store old c.requires.order (Register c.args.registry.tld c.args.registry.first_day) now (record { vault = old.vault; store = c.insert_registry.new.self; records = c.reserve_registry.new.self }) _ _
    (registry_change g.S.Store old c.requires.order c.args.registry.tld c.args.registry.first_day now c.requires.new c.insert_registry.new.self c.reserve_registry.new.self).change
    (Err c.in_err-insert_registry.field-0.0) _ c.in_err-insert_registry.ensures.commits
    (λ is. (registry_means (store_state_of g.S.Store old).rows (current_records old) c.args.registry.tld c.args.registry.first_day is.0 c.in_err-insert_registry.ensures.in_form.0 c.in_err-insert_registry.ensures.in_form.1 c.requires.new, is.1))
    c.in_err-insert_registry.ensures.kind c.from_residual-in_err-insert_registry.ensures.1
    (GoRuling (AddsRegistry c.args.registry.tld c.args.registry.first_day), registry_is_new (current_records old) c.args.registry.tld c.args.registry.first_day now c.requires.new, inr refl)

pub returns : goal.returns
returns g c = λ now.
    let old = c.args.self.now in
    let answer : Reply = record { «record» = of.Registry c.args.registry.tld c.args.registry.first_day; is_repeat = false } in
    let same = c.add_registry.ensures ∙ ap (λ r. with_registry r c.args.registry.tld c.args.registry.first_day) c.in_ok-reserve_registry.ensures.same in
    subst (λ told. HasExecuted g.S.Store old (Register c.args.registry.tld c.args.registry.first_day) now (Ok (record { «record» = told; is_repeat = false })) (record { vault = old.vault; store = c.insert_registry.new.self; records = c.add_registry.new.self })) (sym c.from.ensures)
    (commits_done g.S.Store old c.requires.order (Register c.args.registry.tld c.args.registry.first_day) now (record { vault = old.vault; store = c.insert_registry.new.self; records = c.add_registry.new.self }) _ _
    (registry_change g.S.Store old c.requires.order c.args.registry.tld c.args.registry.first_day now c.requires.new c.insert_registry.new.self c.add_registry.new.self)
    (Ok tt) _ c.in_ok-insert_registry.ensures.commits
    (λ is. (registry_means (store_state_of g.S.Store old).rows (current_records old) c.args.registry.tld c.args.registry.first_day is.0 c.in_ok-insert_registry.ensures.in_form.0 c.in_ok-insert_registry.ensures.in_form.1 c.requires.new, is.1))
    refl same answer refl refl
    (GoRuling (AddsRegistry c.args.registry.tld c.args.registry.first_day), registry_is_new (current_records old) c.args.registry.tld c.args.registry.first_day now c.requires.new, (refl, same)) (ap (λ r. get r.registries c.args.registry.tld) same ∙ insert_here text_total (current_records old).registries c.args.registry.tld c.args.registry.first_day) (λ _. tt))
