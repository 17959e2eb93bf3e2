use Rattle.std.proofs.Common.{◌∙◌, ◌≡◌, ap, inl, length, refl, sym, true}
use Rattle.std.proofs.lemmas.List.{length-map}
use Rattle.custody.specs.Custody.{open_custody_of}
use Rattle.custody.specs.OpenCustody.{current_records}
use Rattle.custody_rules.specs.DueDays.{due_day_pair, due_days}
use Rattle.agent_cli.specs.Acts.{is_over}
use Rattle.agent_cli.proofs.sweeping.sweep.Goals as goal

pub returns-then-is_over-clause-sweeps : goal.returns-then-is_over-clause-sweeps
returns-then-is_over-clause-sweeps g c =
    let found = c.in-Ok.ensures.found in
    let days = due_days (current_records (open_custody_of c.args.custody.now)) c.args.now in
    let due = c.in-Ok-due.ensures ∙ ap (λ r. due_days r c.args.now) found.1 in
    let count = c.in-Ok-due.days.ok.0 ∙ sym (length-map c.in-Ok-due.days.items due_day_pair) ∙ ap length due in
    let tested : c.len.result ≡ length days = c.len.ensures ∙ count in
    let told : c.len-then-is_over.result ≡ length days = c.len-then-is_over.ensures ∙ count in
    let over : is_over c.args.at_most (length days) ≡ true = ap (is_over c.args.at_most) (sym tested) ∙ sym c.is_over.ensures ∙ c.if-is_over.true in
    record {
      swept = λ _. inl (rw (over, sym told) (refl, c.tell_too_many_absences.ensures.status, (c.tell_too_many_absences.ensures.printed, c.tell_too_many_absences.ensures.begun), refl));
      while_closed = λ closed. absurd (cc);
    }
