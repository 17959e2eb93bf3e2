use Rattle.std.proofs.Common.{IsSome, None, refl, sym, ap, ◌∙◌, subst}
use Rattle.std.specs.FinMap.{get}
use Rattle.custody_records.proofs.RegistryTables.{tables, own_tld, get_at, found_in, rising_set, whole_set, own_inserted, absent_table}
use Rattle.custody_records.proofs.registry_rows.RowsByRegistry.replace.Goals as goal

pub replace-requires : goal.replace-requires
replace-requires g c = record {
  there = subst IsSome (get_at g.met.T.Keyed.total g.met.T.Keyed.exact g.met.T.OfRegistry.by_registry c.args.self.now c.registry.result c.in-Ok.place c.index_mut.result.now c.in-Ok.ensures.range c.in-Ok.ensures.place c.index_mut.ensures.value
      (g.T.Keyed.key_of c.args.row) (sym (c.registry.ensures ∙ ap g.T.OfRegistry.registry_of c.key.ensures))) c.requires.there;
}

pub invariant_of-index_mut : goal.invariant_of-index_mut
invariant_of-index_mut g c = record {
  own = own_inserted g.met.T.Keyed.total g.met.T.Keyed.exact g.met.T.OfRegistry.by_registry c.args.self.now c.index_mut.result.now c.replace.new.self (g.T.Keyed.key_of c.args.row) (g.T.Keyed.value_of c.args.row)
      (sym (c.registry.ensures ∙ ap g.T.OfRegistry.registry_of c.key.ensures)
      ∙ sym (own_tld g.met.T.Keyed.total g.met.T.Keyed.exact g.met.T.OfRegistry.by_registry c.args.self.now c.registry.result c.in-Ok.place c.index_mut.result.now c.in-Ok.ensures.range c.in-Ok.ensures.place c.index_mut.ensures.value))
      c.replace.ensures;
}

pub invariant_of-self : goal.invariant_of-self
invariant_of-self g c = record {
  rising = rising_set g.met.T.Keyed.total g.met.T.Keyed.exact g.met.T.OfRegistry.by_registry c.args.self.now c.registry.result c.in-Ok.place c.index_mut.result.now c.in-Ok.ensures.range c.in-Ok.ensures.place c.index_mut.ensures.value _ refl;
}

pub unreachable-requires : goal.unreachable-requires
unreachable-requires g c =
    let of_it = sym (c.registry.ensures ∙ ap g.T.OfRegistry.registry_of c.key.ensures) in
    let absent = found_in g.met.T.Keyed.total g.met.T.Keyed.exact g.met.T.OfRegistry.by_registry c.args.self.now (g.T.Keyed.key_of c.args.row) None
    (sym (absent_table g.met.T.Keyed.total g.met.T.Keyed.exact g.met.T.OfRegistry.by_registry c.args.self.now c.registry.result c.in-Err.field-0 c.in-Err.ensures.place)
    ∙ ap (get (tables g.met.T.Keyed.total g.met.T.Keyed.exact g.met.T.OfRegistry.by_registry c.args.self.now)) (sym of_it)) in
    let clash = subst IsSome (sym absent) c.requires.there in cc

pub returns : goal.returns
returns g c =
    whole_set g.met.T.Keyed.total g.met.T.Keyed.exact g.met.T.OfRegistry.by_registry c.args.self.now c.registry.result c.in-Ok.place c.index_mut.result.now c.in-Ok.ensures.range c.in-Ok.ensures.place c.index_mut.ensures.value _ refl
    (g.T.Keyed.key_of c.args.row) (g.T.Keyed.value_of c.args.row) (sym (c.registry.ensures ∙ ap g.T.OfRegistry.registry_of c.key.ensures)) c.replace.ensures
