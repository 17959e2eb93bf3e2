use Rattle.std.proofs.Common.{◌≡◌, true, false, sym, ◌∙◌, ap}
use Rattle.std.specs.Prelude.{is_some, is_ok}
use Rattle.std.proofs.lemmas.Result.{MatchResult-at_ok}
use Rattle.custody_records.specs.Form.{number_in}
use Rattle.custody_records.proofs.MetaLemmas.{decodes_digits, number_not_read}
use Rattle.custody_records.proofs.meta.read_number.Goals as goal

pub returns-in_err-ok : goal.returns-in_err-ok
returns-in_err-ok c =
    let text = c.args.text.now in
    c.from_residual.ensures ∙ number_not_read text (λ same.
    let decoded = MatchResult-at_ok _ _ _ (decodes_digits text (number_in text) same) c.decode_to_slice.ensures.value in
    let clash : false ≡ true = sym (ap is_some c.in_err-ok.was) ∙ c.ok.ensures.variant ∙ ap is_ok decoded.0 in
    cc)
