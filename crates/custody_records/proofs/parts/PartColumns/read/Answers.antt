use Rattle.std.proofs.Common.{cond, None, Some, ◌∙◌, sym, ap, rules, SFits, w64, to_z-of_z}
use Rattle.std.specs.Result.{result_ok}
use Rattle.std.proofs.lemmas.Result.{MatchResult-from_err, err_from_is_err_and}
use Rattle.custody_records.specs.Form.{natural, is_within}
use Rattle.custody_records.specs.TypedRecords.{part_row}
use Rattle.custody_records.proofs.ReadLemmas.{cond_none, part_without_name, part_without_received, part_without_len, part_without_extents, part_found}
use Rattle.custody_records.proofs.parts.PartColumns.read.Goals as goal

pub returns-in_err-name : goal.returns-in_err-name
returns-in_err-name c = MatchResult-from_err _ _ _ c.from_residual.ensures.0 (λ e is.
    part_without_name (part_row c.args.self.now) (sym c.read_name.ensures ∙ c.ok_or.ensures.ok_part ∙ ap result_ok c.in_err-name.was))

pub returns-in_err-received : goal.returns-in_err-received
returns-in_err-received c = MatchResult-from_err _ _ _ c.from_residual-in_err-received.ensures.0 (λ e is.
    part_without_received (part_row c.args.self.now) (sym c.read_received.ensures ∙ c.ok_or-2.ensures.ok_part ∙ ap result_ok c.in_err-received.was))

pub returns-in_err-len : goal.returns-in_err-len
returns-in_err-len c = MatchResult-from_err _ _ _ c.from_residual-in_err-len.ensures.0 (λ e is.
    let len = c.args.self.now.len in
    let fits : SFits w64 len = search rules in
    part_without_len (part_row c.args.self.now) (cond_none (is_within 1 1_048_576 len) (natural len) (sym (c.ok_or-3.ensures.ok_part ∙ ap result_ok c.in_err-len.was) ∙ c.number_within.ensures ∙ ap (λ z. cond (is_within 1 1_048_576 z) (Some (natural z)) None) (to_z-of_z fits))))

pub returns-in_err-extents : goal.returns-in_err-extents
returns-in_err-extents c =
    let p = err_from_is_err_and c.from_residual-in_err-extents.result c.from_residual-in_err-extents.ensures.1 in
    rw (p.1, p.2) (λ is. part_without_extents (part_row c.args.self.now) (c.in_err-extents.ensures is))

pub returns : goal.returns
returns c =
    let len = c.args.self.now.len in
    let fits : SFits w64 len = search rules in
    part_found (part_row c.args.self.now) c.in_ok-name.name c.in_ok-received.received c.in_ok-len.field-0 c.in_ok-digest.digest _
    (sym c.read_name.ensures ∙ c.ok_or.ensures.ok_part ∙ ap result_ok c.in_ok-name.was)
    (sym c.read_received.ensures ∙ c.ok_or-2.ensures.ok_part ∙ ap result_ok c.in_ok-received.was)
    (sym (c.number_within.ensures ∙ ap (λ z. cond (is_within 1 1_048_576 z) (Some (natural z)) None) (to_z-of_z fits)) ∙ c.ok_or-3.ensures.ok_part ∙ ap result_ok c.in_ok-len.was)
    (sym c.digest_of.ensures ∙ c.ok_or-4.ensures.ok_part ∙ ap result_ok c.in_ok-digest.was)
    c.in_ok-extents.ensures
