use Rattle.std.proofs.Common.{◌∙◌, ap}
use Rattle.std.specs.Prelude.{flat_map}
use Rattle.custody_records.specs.Tables.{table_map}
use Rattle.custody_records.proofs.TableLemmas.{empty_table}
use Rattle.custody_records.proofs.registry_rows.RowsByRegistry.new.Goals as goal

pub returns : goal.returns
returns g c =
    ap (λ registries. table_map g.T.Keyed.order g.T.Keyed.key_of g.T.Keyed.value_of (flat_map (λ registry. registry.rows.rows.items) registries)) c.new.ensures.items
    ∙ empty_table g.T.Keyed.order g.T.Keyed.key_of g.T.Keyed.value_of
