use Rattle.std.proofs.Common.{◌∙◌}
use Rattle.dnrd_csv.proofs.KeyLemmas.{by_texts}
use Rattle.dnrd_csv.specs.inside.RowKeys.{borrowed_texts}
use Rattle.deposit_tables.specs.Restored.{row_cmp}
use Rattle.deposit_tables.proofs.order.compare_to.Goals as goal

pub returns : goal.returns
returns c = c.cmp.ensures ∙ by_texts c.fields_at.result c.args.fields.now ∙ (λ i. row_cmp (c.fields_at.ensures i) (borrowed_texts c.args.fields.now))
