use Rattle.std.proofs.Common.{cond, None, Some, ◌∙◌, sym, ap, rules, SFits, w64, to_z-of_z}
use Rattle.custody_records.specs.Form.{natural, is_within, check_in}
use Rattle.custody_records.proofs.FieldLemmas.{check_read}
use Rattle.custody_records.proofs.ReadLemmas.{cond_is, some_same}
use Rattle.custody_records.proofs.notices.read_check.Goals as goal

pub returns : goal.returns
returns c =
    let number = c.args.number in
    let fits : SFits w64 number = search rules in
    let within = cond_is (is_within 1 13 number) (Some (natural number)) c.in_ok-number_within.field-0 (sym (c.in_ok-number_within.ensures ∙ ap (λ z. cond (is_within 1 13 z) (Some (natural z)) None) (to_z-of_z fits))) in
    check_read c.in_ok-number_within.field-0 c.from_number.result c.from_number.ensures.value c.from_number.ensures.only
    ∙ ap check_in (sym (some_same _ _ within.1))
