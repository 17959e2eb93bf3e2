use Rattle.std.proofs.Common.{rules}
use Rattle.sqlite.specs.Held.{state}
use Rattle.custody_store.specs.TypedRows.{typed_notice_row}
use Rattle.custody_store.proofs.RowLemmas.{inserts_notice}
use Rattle.custody_store.proofs.CommitLemmas.{commits_none}
use Rattle.custody_store.proofs.store.Store.insert_notice.Goals as goal

pub returns-in_default-clause-commits : goal.returns-in_default-clause-commits
returns-in_default-clause-commits g c = commits_none (state g.S.Store c.args.self.now) _ _

pub returns : goal.returns
returns g c =
    let ran = rw (c.text.ensures, c.as_bytes.ensures.text, c.in-Some.ensures.some, c.small.ensures, c.kind_columns-kind.ensures.number, c.day.ensures.value, c.small-2.ensures, c.kind_columns-kind.ensures.rev, c.text-2.ensures, c.kind_columns-kind.ensures.id, c.moment.ensures.value) at c.run.ensures.runs in
    rw (← c.self.view_is) (record {
      commits = inserts_notice (state g.S.Store c.self.inside.db) (state g.S.Store c.run.new.db) (typed_notice_row c.args.notice.now) _ ran;
      runs = λ few. ran;
      in_form = search rules;
      large = search rules;
      kind = search rules;
    })
