use Rattle.std.proofs.Common.{◌∙◌, ℕ, List, ap, not}
use Rattle.std.specs.Set.{is_member}
use Rattle.std.specs.Str.{bytes_eq}
use Rattle.std.proofs.lemmas.Bool.Decides.{same_from_decides}
use Rattle.dnrd_csv.specs.inside.RowKeys.{borrowed_texts}
use Rattle.deposit_verify.proofs.KeyCounts.{member_decides}
use Rattle.deposit_tables.proofs.rows.is_row_kept.Goals as goal

pub returns : goal.returns
returns c =
    let renewed = borrowed_texts c.args.renewed.now in
    ap not (same_from_decides _ _ c.has_key.ensures (member_decides renewed c.field.result.now))
    ∙ ap (λ (key : List ℕ). not (is_member bytes_eq renewed key)) c.field.ensures
