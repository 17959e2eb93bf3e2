use Rattle.std.proofs.Common.{◌≡◌, ◌∙◌, ◌++◌, [], Some, None, Bool, true, false, cond, sym, ap, append-nil}
use Rattle.std.specs.Prelude.{is_some}
use Rattle.std.specs.List.{cons_option}
use Rattle.deposit_name.specs.Name.{name_text}
use Rattle.custody_rules.proofs.Releases.{next_part}
use Rattle.custody_rules.proofs.release_rules.held_part_names.Goals as goal
use Rattle.custody_rules.proofs.release_rules.held_part_names.Goals.{then-is_some+in_ok-push, else-is_some}

pub loop-part-preserved : goal.loop-part-preserved
loop-part-preserved c =
    let part = c.part-item.result in
    let names = c.loop-part.names in
    let name_if = λ (b : Bool). names ++ cons_option (cond b (Some (name_text part.name)) None) [] in
    elim c.if-is_some.branch [
      | then-is_some+in_ok-push w ↦
          let held : is_some part.extents ≡ true = sym c.is_some.ensures ∙ w.if-is_some.true in
          let next = next_part c.args.parts.now c.loop-part.part-index part names c.if-is_some.names c.loop-part-test.true c.part-item.is c.loop-part.invariant.names c.loop-part.invariant.in_form
          (w.names-is ∙ w.in_ok-push.ensures.added ∙ ap name_if (sym held)) (λ _. w.push.ensures.in_form) in
          record { names = next.0; in_form = next.1 }
      | else-is_some w ↦
          let dropped : is_some part.extents ≡ false = sym c.is_some.ensures ∙ w.if-is_some.false in
          let next = next_part c.args.parts.now c.loop-part.part-index part names c.if-is_some.names c.loop-part-test.true c.part-item.is c.loop-part.invariant.names c.loop-part.invariant.in_form
          (w.names-is ∙ sym (append-nil names) ∙ ap name_if (sym dropped)) (λ held. let clash : true ≡ false = sym held ∙ dropped in cc) in
          record { names = next.0; in_form = next.1 }
    ]
