use Rattle.std.proofs.Common.{refl, sym, ap, ◌∙◌, subst}
use Rattle.custody_records.specs.RegistryRows.{HasRoomOf}
use Rattle.custody_records.proofs.RegistryTables.{own_tld, get_at, room_at, rising_set, whole_set, own_inserted, no_room}
use Rattle.custody_records.proofs.registry_rows.RowsByRegistry.add.Goals as goal

pub add-requires-clause-room : goal.add-requires-clause-room
add-requires-clause-room g c =
    room_at g.met.T.Keyed.total g.met.T.Keyed.exact g.met.T.OfRegistry.by_registry c.args.self.now c.registry.result c.in-Ok.place c.index_mut.result.now c.in-Ok.ensures.range c.in-Ok.ensures.place c.index_mut.ensures.value
    (subst (λ tld. HasRoomOf tld c.args.self.now) (sym (c.registry.ensures ∙ ap g.T.OfRegistry.registry_of c.key.ensures)) c.requires.room)

pub add-requires-clause-new : goal.add-requires-clause-new
add-requires-clause-new g c =
    sym (get_at g.met.T.Keyed.total g.met.T.Keyed.exact g.met.T.OfRegistry.by_registry c.args.self.now c.registry.result c.in-Ok.place c.index_mut.result.now c.in-Ok.ensures.range c.in-Ok.ensures.place c.index_mut.ensures.value
    (g.T.Keyed.key_of c.args.row) (sym (c.registry.ensures ∙ ap g.T.OfRegistry.registry_of c.key.ensures)))
    ∙ c.requires.new

pub invariant_of-index_mut : goal.invariant_of-index_mut
invariant_of-index_mut g c = record {
  own = own_inserted g.met.T.Keyed.total g.met.T.Keyed.exact g.met.T.OfRegistry.by_registry c.args.self.now c.index_mut.result.now c.add.new.self (g.T.Keyed.key_of c.args.row) (g.T.Keyed.value_of c.args.row)
      (sym (c.registry.ensures ∙ ap g.T.OfRegistry.registry_of c.key.ensures)
      ∙ sym (own_tld g.met.T.Keyed.total g.met.T.Keyed.exact g.met.T.OfRegistry.by_registry c.args.self.now c.registry.result c.in-Ok.place c.index_mut.result.now c.in-Ok.ensures.range c.in-Ok.ensures.place c.index_mut.ensures.value))
      c.add.ensures;
}

pub invariant_of-self : goal.invariant_of-self
invariant_of-self g c = record {
  rising = rising_set g.met.T.Keyed.total g.met.T.Keyed.exact g.met.T.OfRegistry.by_registry c.args.self.now c.registry.result c.in-Ok.place c.index_mut.result.now c.in-Ok.ensures.range c.in-Ok.ensures.place c.index_mut.ensures.value _ refl;
}

pub unreachable-requires : goal.unreachable-requires
unreachable-requires g c =
    no_room g.met.T.Keyed.total g.met.T.Keyed.exact g.met.T.OfRegistry.by_registry c.args.self.now c.registry.result c.in-Err.field-0 c.in-Err.ensures.place
    (subst (λ tld. HasRoomOf tld c.args.self.now) (sym (c.registry.ensures ∙ ap g.T.OfRegistry.registry_of c.key.ensures)) c.requires.room)

pub returns : goal.returns
returns g c =
    whole_set g.met.T.Keyed.total g.met.T.Keyed.exact g.met.T.OfRegistry.by_registry c.args.self.now c.registry.result c.in-Ok.place c.index_mut.result.now c.in-Ok.ensures.range c.in-Ok.ensures.place c.index_mut.ensures.value _ refl
    (g.T.Keyed.key_of c.args.row) (g.T.Keyed.value_of c.args.row) (sym (c.registry.ensures ∙ ap g.T.OfRegistry.registry_of c.key.ensures)) c.add.ensures
