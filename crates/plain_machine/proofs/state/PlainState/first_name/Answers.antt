use Rattle.std.proofs.Common.{ap, sym, ◌∙◌}
use Rattle.std.specs.Prelude.{option_map}
use Rattle.custody_machine.specs.Machine.{first_part}
use Rattle.plain_machine.specs.declared.state.PlainPart.{PlainPart}
use Rattle.plain_machine.proofs.PlainMaps.{is_of_revision, none_counted}
use Rattle.plain_machine.proofs.state.PlainState.first_name.Goals as goal

pub returns-in-Some-clause-name : goal.returns-in-Some-clause-name
returns-in-Some-clause-name c =
    let name = first_part c.args.stated.now in
    let same = is_of_revision name c.args.self.now.parts.items c.in-Some.part.now (sym c.find_in.ensures ∙ ap (option_map (λ p. p.now)) c.in-Some.is) in
    λ i. record {
      tld = (ap (λ (p : PlainPart). p.name.tld) c.part.view_is ∙ same.0) i;
      day = (ap (λ (p : PlainPart). p.name.day) c.part.view_is ∙ same.1.0) i;
      kind = c.args.stated.now.kind;
      part = 1;
      rev = (ap (λ (p : PlainPart). p.name.rev) c.part.view_is ∙ same.1.1) i;
    }

pub returns-in-None-clause-none : goal.returns-in-None-clause-none
returns-in-None-clause-none c =
    none_counted (first_part c.args.stated.now) c.args.self.now.parts.items (sym c.find_in.ensures ∙ ap (option_map (λ p. p.now)) c.in-None.is)
