use Rattle.std.proofs.Common.{◌≡◌, true, sym, subst}
use Rattle.std.specs.Prelude.{flat_map}
use Rattle.custody_records.specs.Tables.{is_rising}
use Rattle.custody_records.proofs.RegistryTables.{all_rising}
use Rattle.custody_records.proofs.registry_rows.RowsByRegistry.all.Goals as goal

pub returns-clause-rising : goal.returns-clause-rising
returns-clause-rising g c =
    subst (λ registries. is_rising g.T.Keyed.order g.T.Keyed.key_of (flat_map (λ registry. registry.rows.rows.items) registries) ≡ true) (sym c.deref.ensures.value)
    (all_rising g.met.T.Keyed.total g.met.T.Keyed.exact g.met.T.OfRegistry.by_registry c.args.self.now)
