use Rattle.std.proofs.Common.{rules}
use Rattle.sqlite.specs.Held.{state}
use Rattle.custody_records.specs.RowsOfRecords.{row_of_registry}
use Rattle.custody_store.proofs.RowLemmas.{inserts_registry}
use Rattle.custody_store.proofs.store.Store.insert_registry.Goals as goal

pub returns : goal.returns
returns g c =
    let ran = rw (c.text.ensures, c.as_bytes.ensures.text, c.day.ensures.value) at c.run.ensures.runs in
    rw (← c.self.view_is) (record {
      commits = inserts_registry (state g.S.Store c.self.inside.db) (state g.S.Store c.run.new.db) (row_of_registry c.args.registry.now.tld c.args.registry.now.first_day) _ ran;
      runs = ran;
      in_form = search rules;
      kind = search rules;
    })
