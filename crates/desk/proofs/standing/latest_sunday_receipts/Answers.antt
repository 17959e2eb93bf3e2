use Rattle.std.proofs.Common.{◌≡◌, ℕ, Bool, Some, max, true, false, cond, ◌∙◌, sym, ap, nat_lt, ◌||◌, take, arith}
use Rattle.std.proofs.lemmas.Grind.{common_steps}
use Rattle.std.proofs.lemmas.List.Folds.{list_any_more}
use Rattle.std.specs.BTreeMap.{BTreeMap, get}
use Rattle.std.specs.List.{list_any}
use Rattle.std.specs.Ordering.{nat_cmp, is_eq}
use Rattle.schedule.specs.Schedule.{is_sunday}
use Rattle.desk.specs.Standing.{is_receipt, is_made_good_by}
use Rattle.desk.specs.declared.notices.Notice.{Notice}
use Rattle.desk.specs.inside.Receipts.{latest_number}
use Rattle.desk.proofs.standing.latest_sunday_receipts.Goals as goal
use Rattle.desk.proofs.standing.latest_sunday_receipts.Goals.{then-is_receipt+then-is_sunday+in_ok-insert, else-is_receipt, else-is_receipt-via-then-is_receipt+else-is_sunday, else-is_receipt-via-else-is_receipt}

-- the map has the number of one receipt more
one_receipt : (before after : BTreeMap ℕ ℕ) (n m : Notice) (number : ℕ) → is_receipt m.kind ≡ true → get nat_cmp after n.day ≡ cond (is_eq (nat_cmp m.day n.day)) (Some number) (get nat_cmp before n.day) → number ≡ max m.number (latest_number before m.day)
    → nat_lt n.number (latest_number after n.day) ≡ (nat_lt n.number (latest_number before n.day) || is_made_good_by n m)
one_receipt before after n m number receipt updated greatest = grind (arith, common_steps)

-- no notice of another day makes a Sunday's good
other_day : (n m : Notice) (b : Bool) → is_sunday n.day ≡ true → is_sunday m.day ≡ false → b ≡ (b || is_made_good_by n m)
other_day n m b sunday other = grind (arith, common_steps)

-- no failure or absence makes one good
no_receipt : (n m : Notice) (b : Bool) → is_receipt m.kind ≡ false → b ≡ (b || is_made_good_by n m)
no_receipt n m b none = grind (arith, common_steps)

pub loop-notice-preserved : goal.loop-notice-preserved
loop-notice-preserved c = λ n sunday.
    let m = c.notice-item.result in
    let before = c.loop-notice.latest in
    let is_above = λ (latest : BTreeMap ℕ ℕ). nat_lt n.number (latest_number latest n.day) in
    let step : is_above c.if-is_receipt.latest ≡ (is_above before || is_made_good_by n m) = elim c.if-is_receipt.branch [
      | then-is_receipt+then-is_sunday+in_ok-insert w ↦
          ap is_above w.latest-is ∙ one_receipt before w.insert.new.self n m _ (sym w.if-is_receipt.ensures) (w.in_ok-insert.ensures.updates.0 n.day) (cc)
      | else-is_receipt w ↦ elim w.else-is_receipt.branch [
        | else-is_receipt-via-then-is_receipt+else-is_sunday v ↦ ap is_above w.latest-is ∙ other_day n m (is_above before) sunday (sym v.if-is_sunday.ensures)
        | else-is_receipt-via-else-is_receipt v ↦ ap is_above w.latest-is ∙ no_receipt n m (is_above before) (sym v.if-is_receipt.ensures)
      ]
    ] in
    step ∙ ap (λ b. b || is_made_good_by n m) (c.loop-notice.invariant n sunday) ∙ ap (λ item. list_any (is_made_good_by n) (take c.loop-notice.notice-index c.args.notices.now) || is_made_good_by n item) c.notice-item.is
    ∙ sym (list_any_more (is_made_good_by n) c.args.notices.now c.loop-notice.notice-index m c.loop-notice-test.true)
