use Rattle.std.proofs.Common.{rules}
use Rattle.deposit_name.specs.Name.{Name}
use Rattle.sqlite.specs.Held.{state}
use Rattle.custody_store.specs.TypedRows.{staged_row}
use Rattle.custody_store.proofs.RowLemmas.{inserts_part}
use Rattle.custody_store.proofs.CommitLemmas.{commits_err, commits_ok, runs_err, runs_ok}
use Rattle.custody_store.proofs.store.Store.insert_part.Goals as goal

pub returns-in_err-run : goal.returns-in_err-run
returns-in_err-run g c =
    let name : Name = record { tld = c.name.inside.tld; day = c.name.inside.day; kind = c.name.inside.kind; part = c.name.inside.part; rev = c.name.inside.rev } in
    let ran = rw (c.text.ensures, c.as_bytes.ensures.text, c.day.ensures.value, c.small.ensures, c.small-2.ensures, c.text-2.ensures, c.as_bytes-2.ensures, c.moment.ensures.value, c.keep_day_value.ensures, c.day-2.ensures.value, c.number.ensures, c.blob.ensures, c.blob-2.ensures, c.deref-2.ensures.0, c.write_blob-bytes.ensures.bytes, c.deref.ensures.value, c.spend-extents.ensures.extents, c.spend-extents.ensures.len, c.spend-extents.ensures.digest) at c.in_err-run.ensures.runs in
    rw (← c.self.view_is, ← c.name.view_is) (record {
      handed = search rules;
      commits = commits_err _ _ _ _ _ c.from_residual.ensures.0 (inserts_part (state g.S.Store c.self.inside.db) (state g.S.Store c.run.new.db) (staged_row name c.args.received c.args.staged) _ ran);
      runs = runs_err _ _ _ _ _ _ c.from_residual.ensures.0 ran;
      in_form = search rules;
      kind = search rules;
    })

pub returns : goal.returns
returns g c =
    let name : Name = record { tld = c.name.inside.tld; day = c.name.inside.day; kind = c.name.inside.kind; part = c.name.inside.part; rev = c.name.inside.rev } in
    let ran = rw (c.text.ensures, c.as_bytes.ensures.text, c.day.ensures.value, c.small.ensures, c.small-2.ensures, c.text-2.ensures, c.as_bytes-2.ensures, c.moment.ensures.value, c.keep_day_value.ensures, c.day-2.ensures.value, c.number.ensures, c.blob.ensures, c.blob-2.ensures, c.deref-2.ensures.0, c.write_blob-bytes.ensures.bytes, c.deref.ensures.value, c.spend-extents.ensures.extents, c.spend-extents.ensures.len, c.spend-extents.ensures.digest) at c.in_ok-run.ensures.runs in
    rw (← c.self.view_is, ← c.name.view_is) (record {
      handed = search rules;
      commits = commits_ok _ _ _ _ _ (inserts_part (state g.S.Store c.self.inside.db) (state g.S.Store c.run.new.db) (staged_row name c.args.received c.args.staged) _ ran);
      runs = runs_ok _ _ _ _ _ _ ran;
      in_form = search rules;
      kind = search rules;
    })
