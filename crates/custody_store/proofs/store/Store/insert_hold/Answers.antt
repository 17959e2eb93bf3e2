use Rattle.std.proofs.Common.{pos, option_map, rules}
use Rattle.sqlite.specs.Held.{state}
use Rattle.custody_store.specs.TypedRows.{typed_hold_row}
use Rattle.custody_store.proofs.RowLemmas.{inserts_hold, bound_moment}
use Rattle.custody_store.proofs.store.Store.insert_hold.Goals as goal

pub returns : goal.returns
returns g c =
    let ran = rw (c.text.ensures, c.as_bytes.ensures.text, c.text-2.ensures, c.as_bytes-2.ensures.text, c.day.ensures.value, c.moment.ensures.value, c.moment_or_null.ensures.value, bound_moment (option_map pos c.args.hold.now.lifted)) at c.run.ensures.runs in
    rw (← c.self.view_is) (record {
      commits = inserts_hold (state g.S.Store c.self.inside.db) (state g.S.Store c.run.new.db) (typed_hold_row c.args.hold.now) _ ran;
      runs = ran;
      in_form = search rules;
      kind = search rules;
    })
