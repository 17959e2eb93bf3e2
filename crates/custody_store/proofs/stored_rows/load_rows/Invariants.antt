use Rattle.std.proofs.Common.{◌≡◌, false, List, [], map, Some}
use Rattle.sqlite.specs.Order.{Row}
use Rattle.sqlite.specs.State.{HasCleanDisk, IsUnchanged, Survives}
use Rattle.sqlite.specs.Held.{state}
use Rattle.sqlite.specs.Given.{HasGiven}
use Rattle.custody_store.proofs.stored_rows.load_rows.Given as goal

abbrev pub invariant-loop : goal.invariant-loop
invariant-loop g l =
    let old = state g.S.Store l.fn.db in
    let now = state g.S.Store l.rows.conn.now in
    let t = g.T.Stored in
    record {
      same_reference : l.rows.conn.ghost_name ≡ l.initial.rows.conn.ghost_name;
      survives : Survives old now (λ _. ⊥);
      mode : old.in_transaction ≡ false → now.in_transaction ≡ false;
      given : HasCleanDisk now → (given : List Row) × HasGiven g.S.Store l.sql [] l.rows.conn.now given × IsUnchanged old now
          × (map (λ row. t.read (t.answered row)) given ≡ map (λ it. Some (t.key_of it, t.value_of it)) l.list.items);
    }
