use Rattle.std.proofs.Common.{◌≡◌, ◌≤◌, ◌++◌, ◌∷◌, ◌∙◌, [], ℕ, List, ap, arith, length, map, subst, sym, take}
use Rattle.deposit_verify.specs.Chain.{IsLaterOfChain}
use Rattle.deposit_verify.specs.Tables.{table_of}
use Rattle.deposit_tables.specs.Restored.{HasRowsOf}
use Rattle.deposit_tables.proofs.ChainTables.{all_links, all_rows, links_more, no_chain, rows_more}
use Rattle.deposit_tables.proofs.restoring.tables_of_chain.Goals as goal

pub loop-joined-init : goal.loop-joined-init
loop-joined-init c =
    let is : c.deref.result.now ≡ c.args.first.items = c.deref.ensures.value in
    let first = rw c.in-Some.is at c.in_ok-found.ensures.first in
    let rows = rw c.in-Some.is at c.in_ok-found.ensures.rows in
    record {
      first = rw is at first;
      all = rw c.in-Some.is at c.in_ok-found.ensures.tables;
      rows = rw is at rows;
      links = λ k d inside. absurd (omega (arith, inside));
    }

pub tables_then-requires : goal.tables_then-requires
tables_then-requires c = c.loop-joined.invariant.all

pub returns-in-None-clause-chained : goal.returns-in-None-clause-chained
returns-in-None-clause-chained c =
    let none = rw c.in-None.is at c.in_ok-then.ensures.later in
    let text = c.deref-in-loop-joined.ensures.value ∙ ap (λ d. d.items) c.joined-item.is in
    no_chain c.args.first.items c.args.later.now c.loop-joined.joined-index c.joined-item.result c.loop-joined-test.true (λ is. none (subst IsLaterOfChain (sym text) is))

pub loop-joined-preserved : goal.loop-joined-preserved
loop-joined-preserved c =
    let first = c.args.first.items in
    let later = c.args.later.now in
    let i = c.loop-joined.joined-index in
    let text = c.deref-in-loop-joined.ensures.value ∙ ap (λ d. d.items) c.joined-item.is in
    let then = rw c.in-Some-2.is at c.in_ok-then.ensures.rows in
    let link = rw c.in-Some-2.is at c.in_ok-then.ensures.later in
    let has = then (first ∷ take i (map (λ d. d.items) later)) c.loop-joined.invariant.rows in
    record {
      first = c.loop-joined.invariant.first;
      all = rw c.in-Some-2.is at c.in_ok-then.ensures.tables;
      rows = rows_more first later i c.joined-item.result c.loop-joined-test.true (table_of c.in-Some-2.then.items)
          (subst (λ (joined : List ℕ). HasRowsOf ((first ∷ take i (map (λ d. d.items) later)) ++ joined ∷ []) (table_of c.in-Some-2.then.items)) text has);
      links = links_more first later i c.joined-item.result c.loop-joined-test.true c.loop-joined.invariant.links (subst IsLaterOfChain text link);
    }

pub returns-clause-chained : goal.returns-clause-chained
returns-clause-chained c =
    let over : length c.args.later.now ≤ c.loop-joined.joined-index = c.loop-joined-test.false in
    (c.loop-joined.invariant.first, all_links c.args.first.items c.args.later.now c.loop-joined.joined-index over c.loop-joined.invariant.links)

pub returns-clause-tables : goal.returns-clause-tables
returns-clause-tables c = c.loop-joined.invariant.all

pub returns-clause-rows : goal.returns-clause-rows
returns-clause-rows c =
    let over : length c.args.later.now ≤ c.loop-joined.joined-index = c.loop-joined-test.false in
    all_rows c.args.first.items c.args.later.now c.loop-joined.joined-index (table_of c.loop-joined.tables.items) over c.loop-joined.invariant.rows
