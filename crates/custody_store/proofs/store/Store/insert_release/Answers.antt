use Rattle.std.proofs.Common.{rules}
use Rattle.sqlite.specs.Held.{state}
use Rattle.custody_store.specs.TypedRows.{typed_release_row}
use Rattle.custody_store.proofs.RowLemmas.{inserts_handover}
use Rattle.custody_store.proofs.store.Store.insert_release.Goals as goal

pub returns : goal.returns
returns g c =
    let ran = rw (c.text.ensures, c.as_bytes.ensures.text, c.text-2.ensures, c.as_bytes-2.ensures.text, c.text-3.ensures, c.ground_of.ensures, c.moment.ensures.value, c.text-4.ensures, c.as_text.ensures.text) at c.run.ensures.runs in
    rw (← c.self.view_is) (record {
      commits = inserts_handover (state g.S.Store c.self.inside.db) (state g.S.Store c.run.new.db) (typed_release_row c.args.release.now) _ ran;
      runs = ran;
      in_form = search rules;
      kind = search rules;
    })
