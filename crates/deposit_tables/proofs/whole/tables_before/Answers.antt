use Rattle.std.proofs.Common.{◌<◌, ◌++◌, ◌∷◌, ◌∙◌, [], List, ap, arith, length, map, rules, subst, sym}
use Rattle.std.proofs.Math.ListN.{get_or-map}
use Rattle.std.proofs.lemmas.List.{get_or_default, length-map}
use denote.Enum.Bare.{same_false, same_true}
use Rattle.std.specs.List.{AllZip}
use Rattle.deposit_name.specs.contracts.kinds.Kind.{the_type}
use Rattle.deposit_verify.specs.Tables.{table_of}
use Rattle.deposit_tables.specs.Restored.{AreTablesOf}
use Rattle.deposit_tables.specs.Whole.{chains_before}
use Rattle.deposit_tables.proofs.ChainsBefore.{all_before, both_before}
use Rattle.deposit_tables.proofs.whole.tables_before.Goals as goal
use Rattle.deposit_tables.proofs.whole.tables_before.Goals.{then-eq+then-len-gt1+in_ok-tables+in-Some+in_ok-push-in-Some, else-eq, else-eq-via-then-eq+else-len-gt1, else-eq-via-else-eq}

pub returns-clause-restored : goal.returns-clause-restored
returns-clause-restored c =
    let chain = map (λ d. d.items) c.args.chain.items in
    let whole = rw c.in-Some-2.is at c.in_ok-tables-2.ensures.restored in
    let all = c.in-Some-2.tables in
    elim c.if-eq.branch [
      | then-eq+then-len-gt1+in_ok-tables+in-Some+in_ok-push-in-Some w ↦
          let full = w.in-Some.tables in
          let alone = rw w.in-Some.is at w.in_ok-tables.ensures.restored in
          let some : 1 < length c.args.chain.items = omega (arith, w.if-len-gt1.true, w.len.ensures) in
          let many : 1 < length chain = omega (arith, some, length-map c.args.chain.items (λ d. d.items)) in
          let first = w.deref.ensures.value ∙ ap (λ d. d.items) w.index.ensures ∙ sym (get_or-map (λ d. d.items) c.args.chain.items 0 w.index.result.now)
          ∙ get_or_default chain 0 w.index.result.now.items [] (omega (arith, many)) in
          let pushed = c.in_ok-push-in-Some-2.ensures.items ∙ (λ i. (w.olds-is i).items ++ all ∷ []) ∙ (λ i. (w.in_ok-push-in-Some.ensures.items i) ++ all ∷ []) ∙ (λ i. (c.in_ok-olds.ensures.items i ++ full ∷ []) ++ all ∷ []) in
          subst (λ (olds : List _). AllZip AreTablesOf (chains_before c.args.kind chain) (map (λ old. table_of old.items) olds)) (sym pushed)
          (both_before c.args.kind chain w.deref.result.now (table_of full.items) (table_of all.items) (same_true the_type (search rules) _ _ (sym w.if-eq.ensures)) many first alone whole)
      | else-eq w ↦
          let pushed = c.in_ok-push-in-Some-2.ensures.items ∙ (λ i. (w.olds-is i).items ++ all ∷ []) ∙ (λ i. c.in_ok-olds.ensures.items i ++ all ∷ []) in
          subst (λ (olds : List _). AllZip AreTablesOf (chains_before c.args.kind chain) (map (λ old. table_of old.items) olds)) (sym pushed)
          (all_before c.args.kind chain (table_of all.items)
          (λ is many. elim w.else-eq.branch [
            | else-eq-via-then-eq+else-len-gt1 v ↦
                let few = v.if-len-gt1.false in
                absurd (omega (arith, few, v.len.ensures, many, length-map c.args.chain.items (λ d. d.items)))
            | else-eq-via-else-eq v ↦ same_false the_type _ _ (sym v.if-eq.ensures) is
          ])
          whole)
    ]
