use Rattle.std.proofs.Common.{refl, ap, ◌∙◌}
use Rattle.std.specs.Prelude.{flat_map}
use Rattle.custody_records.specs.Tables.{table_map}
use Rattle.custody_records.proofs.RegistryTables.{room_at, room_set, rising_set, rising_wider, room_wider, own_bare, whole_same, whole_wider, no_room, on_ok, on_err, always_on_err}
use Rattle.custody_records.proofs.registry_rows.RowsByRegistry.try_reserve.Goals as goal

pub invariant_of-self : goal.invariant_of-self
invariant_of-self g c = record {
  rising = rising_set g.met.T.Keyed.total g.met.T.Keyed.exact g.met.T.OfRegistry.by_registry c.args.self.now c.args.tld.now c.in-Ok.place c.index_mut.result.now c.in-Ok.ensures.range c.in-Ok.ensures.place c.index_mut.ensures.value _ refl;
}

pub returns-in_err-try_reserve-in-Err-clause-no_memory :
    goal.returns-in_err-try_reserve-in-Err-clause-no_memory
returns-in_err-try_reserve-in-Err-clause-no_memory g c =
    always_on_err c.from_residual.result (no_room g.met.T.Keyed.total g.met.T.Keyed.exact g.met.T.OfRegistry.by_registry c.args.self.now c.args.tld.now c.in-Err.place c.in-Err.ensures.place)

pub invariant_of-insert : goal.invariant_of-insert
invariant_of-insert g c = record {
  own = own_bare g.met.T.Keyed.total g.met.T.Keyed.exact g.met.T.OfRegistry.by_registry c.args.self.now c.try_reserve-in-Err.new.self c.args.tld.now (ap (table_map g.T.Keyed.order g.T.Keyed.key_of g.T.Keyed.value_of) c.try_reserve-in-Err.ensures.same ∙ c.new-rows.ensures);
}

pub invariant_of-self-in-Err : goal.invariant_of-self-in-Err
invariant_of-self-in-Err g c = record {
  rising = rising_wider g.met.T.Keyed.total g.met.T.Keyed.exact g.met.T.OfRegistry.by_registry c.args.self.now c.args.tld.now c.in-Err.place c.in-Err.ensures.place _ refl c.insert.new.self.items _ c.insert.ensures.items;
}

pub returns-in_err-insert-in-Err-clause-no_memory :
    goal.returns-in_err-insert-in-Err-clause-no_memory
returns-in_err-insert-in-Err-clause-no_memory g c =
    always_on_err c.from_residual-in_err-insert-in-Err.result (no_room g.met.T.Keyed.total g.met.T.Keyed.exact g.met.T.OfRegistry.by_registry c.args.self.now c.args.tld.now c.in-Err.place c.in-Err.ensures.place)

pub returns-in-Ok-clause-same : goal.returns-in-Ok-clause-same
returns-in-Ok-clause-same g c =
    whole_same g.met.T.Keyed.total g.met.T.Keyed.exact g.met.T.OfRegistry.by_registry c.args.self.now c.args.tld.now c.in-Ok.place c.index_mut.result.now c.in-Ok.ensures.range c.in-Ok.ensures.place c.index_mut.ensures.value _ refl
    (ap (table_map g.T.Keyed.order g.T.Keyed.key_of g.T.Keyed.value_of) c.try_reserve.ensures.same)

pub returns-in-Ok-clause-room : goal.returns-in-Ok-clause-room
returns-in-Ok-clause-room g c =
    on_ok c.try_reserve.result
    (room_set g.met.T.Keyed.total g.met.T.Keyed.exact g.met.T.OfRegistry.by_registry c.args.self.now c.args.tld.now c.in-Ok.place c.index_mut.result.now c.in-Ok.ensures.range c.in-Ok.ensures.place c.index_mut.ensures.value _ refl) c.try_reserve.ensures.room

pub returns-in-Ok-clause-no_memory : goal.returns-in-Ok-clause-no_memory
returns-in-Ok-clause-no_memory g c =
    on_err c.try_reserve.result
    (λ full room. full (room_at g.met.T.Keyed.total g.met.T.Keyed.exact g.met.T.OfRegistry.by_registry c.args.self.now c.args.tld.now c.in-Ok.place c.index_mut.result.now c.in-Ok.ensures.range c.in-Ok.ensures.place c.index_mut.ensures.value room))
    c.try_reserve.ensures.no_memory

pub returns-in_ok-insert-in-Err-clause-same : goal.returns-in_ok-insert-in-Err-clause-same
returns-in_ok-insert-in-Err-clause-same g c =
    ap (λ registries. table_map g.T.Keyed.order g.T.Keyed.key_of g.T.Keyed.value_of (flat_map (λ registry. registry.rows.rows.items) registries)) c.in_ok-insert-in-Err.ensures.items
    ∙ whole_wider g.met.T.Keyed.total g.met.T.Keyed.exact g.met.T.OfRegistry.by_registry c.args.self.now c.args.tld.now c.in-Err.place c.in-Err.ensures.place _ refl (ap (table_map g.T.Keyed.order g.T.Keyed.key_of g.T.Keyed.value_of) c.try_reserve-in-Err.ensures.same ∙ c.new-rows.ensures)

pub returns-in_ok-insert-in-Err-clause-room : goal.returns-in_ok-insert-in-Err-clause-room
returns-in_ok-insert-in-Err-clause-room g c =
    room_wider g.met.T.Keyed.total g.met.T.Keyed.exact g.met.T.OfRegistry.by_registry c.args.self.now c.args.tld.now c.in-Err.place c.in-Err.ensures.place _ refl c.in_ok-try_reserve-in-Err.ensures.room c.insert.new.self.items c.in_ok-insert-in-Err.ensures.items c.in-Err.ensures.range
