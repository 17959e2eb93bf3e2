use Rattle.std.proofs.Common.{◌≡◌, Some, None, sym, ◌∙◌, ap}
use Rattle.custody_records.proofs.MetaLemmas.{number_reads}
use Rattle.answer_lines.proofs.number.VolumeNumber.parse.Goals as goal

pub returns-in_err-number-clause-only : goal.returns-in_err-number-clause-only
returns-in_err-number-clause-only c = λ n (lt, same).
    let clash : Some n ≡ None = number_reads c.args.t.now n lt same ∙ sym c.read_number.ensures ∙ c.in_err-number.was in
    absurd (cc)

pub returns-clause-only : goal.returns-clause-only
returns-clause-only c = λ n (lt, same).
    ap (λ x. Some x) c.new.ensures ∙ sym c.in_ok-number.was ∙ c.read_number.ensures ∙ sym (number_reads c.args.t.now n lt same)
