use Rattle.std.proofs.Common.{◌≡◌, ◌++◌, map}
use Rattle.std.proofs.lemmas.List.Elements.{Contains-append_left}
use Rattle.dnrd_csv.specs.inside.RowKeys.{borrowed_texts}
use Rattle.dnrd_csv.specs.Text.{key_rows}
use Rattle.envelope.specs.Envelope.{env_of}
use Rattle.deposit_verify.specs.Deposit.{deletes_of}
use Rattle.deposit_verify.specs.References.{column}
use Rattle.deposit_verify.specs.Rows.{rows_under}
use Rattle.deposit_verify.proofs.KeyCounts.{same_after}
use Rattle.deposit_verify.proofs.base.named_keys.Goals as goal

pub returns-clause-named : goal.returns-clause-named
returns-clause-named c =
    let v = env_of c.args.envelope.now in
    let sorted = rw (c.deref-4.ensures.value, c.deref-5.ensures.value) at c.in_ok-named.ensures in
    let contained : borrowed_texts c.in_ok-contained.contained.items ≡ column 0 (rows_under v.contents c.args.files.now.tables.items c.args.name) = rw (c.deref.ensures.value, c.deref-2.ensures.value) at c.in_ok-contained.ensures in
    record {
      once = rw contained (c.requires.files.once c.args.name c.requires.name);
      among = λ text has. (sorted.same text).1 (Contains-append_left (borrowed_texts c.in_ok-contained.contained.items) (borrowed_texts c.in_ok-deleted.deleted.items) text has);
      sorted = sorted.sorted;
    }

pub returns-clause-after : goal.returns-clause-after
returns-clause-after c = λ before.
    let v = env_of c.args.envelope.now in
    let inside = column 0 (rows_under v.contents c.args.files.now.tables.items c.args.name) in
    let outside = column 0 (rows_under (deletes_of v) (map key_rows c.args.files.now.deleted.items) c.args.name) in
    let contained : borrowed_texts c.in_ok-contained.contained.items ≡ inside = rw (c.deref.ensures.value, c.deref-2.ensures.value) at c.in_ok-contained.ensures in
    let deleted : borrowed_texts c.in_ok-deleted.deleted.items ≡ outside = rw (c.deletes_of.ensures, c.deref-3.ensures.value) at c.in_ok-deleted.ensures in
    let sorted = rw (c.deref-4.ensures.value, c.deref-5.ensures.value, contained, deleted) at c.in_ok-named.ensures in
    rw contained (same_after before inside (borrowed_texts c.in_ok-named.named.items) (inside ++ outside) sorted.same)
