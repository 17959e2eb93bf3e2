use Rattle.std.proofs.Common.{None, Some, ap, ◌∙◌}
use Rattle.std.specs.FinMap.{get}
use Rattle.std.specs.Prelude.{option_map, option_copied}
use Rattle.custody_records.specs.Tables.{table_map}
use Rattle.custody_records.proofs.RegistryTables.{tables, found_in}
use Rattle.custody_records.proofs.registry_rows.RowsByRegistry.find.Goals as goal

pub returns-in_err-rows_of-clause-found : goal.returns-in_err-rows_of-clause-found
returns-in_err-rows_of-clause-found g c =
    ap (λ found. option_map g.T.Keyed.value_of (option_copied found)) c.from_residual.ensures
    ∙ found_in g.met.T.Keyed.total g.met.T.Keyed.exact g.met.T.OfRegistry.by_registry c.args.self.now c.args.sought.now None
    (c.in_err-rows_of.ensures ∙ ap (get (tables g.met.T.Keyed.total g.met.T.Keyed.exact g.met.T.OfRegistry.by_registry c.args.self.now)) c.registry.ensures)

pub returns-clause-found : goal.returns-clause-found
returns-clause-found g c =
    c.find.ensures.found
    ∙ found_in g.met.T.Keyed.total g.met.T.Keyed.exact g.met.T.OfRegistry.by_registry c.args.self.now c.args.sought.now
    (Some (table_map g.T.Keyed.order g.T.Keyed.key_of g.T.Keyed.value_of c.in_ok-rows_of.field-0.now.rows.items))
    (c.in_ok-rows_of.ensures ∙ ap (get (tables g.met.T.Keyed.total g.met.T.Keyed.exact g.met.T.OfRegistry.by_registry c.args.self.now)) c.registry.ensures)
