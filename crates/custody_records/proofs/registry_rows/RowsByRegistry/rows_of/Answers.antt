use Rattle.std.proofs.Common.{sym}
use Rattle.custody_records.proofs.RegistryTables.{table_at, absent_table}
use Rattle.custody_records.proofs.registry_rows.RowsByRegistry.rows_of.Goals as goal

pub returns-in-Ok : goal.returns-in-Ok
returns-in-Ok g c =
    sym (table_at g.met.T.Keyed.total g.met.T.Keyed.exact g.met.T.OfRegistry.by_registry c.args.self.now c.args.tld.now c.in-Ok.place c.index.result.now c.in-Ok.ensures.range c.in-Ok.ensures.place c.index.ensures)

pub returns-in-Err : goal.returns-in-Err
returns-in-Err g c =
    sym (absent_table g.met.T.Keyed.total g.met.T.Keyed.exact g.met.T.OfRegistry.by_registry c.args.self.now c.args.tld.now c.in-Err.field-0 c.in-Err.ensures.place)
