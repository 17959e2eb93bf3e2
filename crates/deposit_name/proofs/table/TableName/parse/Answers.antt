use Rattle.std.proofs.Common.{ap, ◌∙◌}
use Rattle.deposit_name.specs.Tables.{table_of_name}
use Rattle.deposit_name.proofs.TableLemmas.{table_at-table_text, table_at-some}
use Rattle.deposit_name.proofs.table.TableName.parse.Goals as goal

pub returns-clause-text : goal.returns-clause-text
returns-clause-text c = rw c.named.ensures (table_at-some c.args.t.now)

pub returns-clause-only : goal.returns-clause-only
returns-clause-only c = λ n e. c.named.ensures ∙ ap table_of_name e ∙ table_at-table_text n
