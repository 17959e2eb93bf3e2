use Rattle.std.proofs.Common.{None, Some, ap, ◌∙◌}
use Rattle.std.specs.FinMap.{get}
use Rattle.custody_records.specs.Tables.{table_map}
use Rattle.custody_records.proofs.RegistryTables.{tables, group_in}
use Rattle.custody_records.proofs.registry_rows.RowsByRegistry.group.Goals as goal

pub returns-in-Some : goal.returns-in-Some
returns-in-Some g c =
    let group = c.args.group.now in
    c.group.ensures
    ∙ group_in g.met.T.Keyed.total g.met.T.Keyed.exact g.met.T.OfRegistry.by_registry c.args.self.now (g.G.Group.place group) (g.G.Group.group_registry group) (g.met.G.Group.of_one group)
    (Some (table_map g.T.Keyed.order g.T.Keyed.key_of g.T.Keyed.value_of c.in-Some.rows.now.rows.items))
    (c.in-Some.ensures ∙ ap (get (tables g.met.T.Keyed.total g.met.T.Keyed.exact g.met.T.OfRegistry.by_registry c.args.self.now)) c.registry.ensures)

pub returns-in-None : goal.returns-in-None
returns-in-None g c =
    let group = c.args.group.now in
    group_in g.met.T.Keyed.total g.met.T.Keyed.exact g.met.T.OfRegistry.by_registry c.args.self.now (g.G.Group.place group) (g.G.Group.group_registry group) (g.met.G.Group.of_one group) None
    (c.in-None.ensures ∙ ap (get (tables g.met.T.Keyed.total g.met.T.Keyed.exact g.met.T.OfRegistry.by_registry c.args.self.now)) c.registry.ensures)
