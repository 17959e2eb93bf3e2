use Rattle.std.proofs.Common.{◌∙◌, ◌++◌, [], Some, None, Bool, cond, sym, ap, append-nil}
use Rattle.std.specs.List.{cons_option}
use Rattle.deposit_name.specs.Name.{name_text}
use Rattle.plain_machine.proofs.PlainReleases.{next_listed}
use Rattle.plain_machine.proofs.listing.names_in.Goals as goal
use Rattle.plain_machine.proofs.listing.names_in.Goals.{then-is_held_of+in_ok-push, else-is_held_of}

pub loop-row-preserved : goal.loop-row-preserved
loop-row-preserved c =
    let row = c.row-item.result in
    let names = c.loop-row.names in
    let name_if = λ (b : Bool). names ++ cons_option (cond b (Some (name_text row.name)) None) [] in
    elim c.if-is_held_of.branch [
      | then-is_held_of+in_ok-push w ↦
          next_listed c.args.tld.now c.args.rows.now c.loop-row.row-index row names c.if-is_held_of.names c.loop-row-test.true c.row-item.is c.loop-row.invariant
          (w.names-is ∙ w.in_ok-push.ensures.added ∙ ap name_if (sym (sym c.is_held_of.ensures ∙ w.if-is_held_of.true)))
      | else-is_held_of w ↦
          next_listed c.args.tld.now c.args.rows.now c.loop-row.row-index row names c.if-is_held_of.names c.loop-row-test.true c.row-item.is c.loop-row.invariant
          (w.names-is ∙ sym (append-nil names) ∙ ap name_if (sym (sym c.is_held_of.ensures ∙ w.if-is_held_of.false)))
    ]
