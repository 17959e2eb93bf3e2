use Rattle.std.proofs.Common.{◌≡◌, ◌<◌, ◌≤◌, ◌-◌, ◌++◌, ◌∷◌, [], ◌⊎◌, ℕ, map, not, true, false, cond, is_lt, nat_cmp, sym, ◌∙◌, ap, inl, inr, arith}
use Rattle.std.proofs.lemmas.Grind.{common_steps}
use Rattle.std.specs.List.{filter, range_with_len}
use Rattle.std.proofs.lemmas.List.{append-nil, append_assoc, map-append}
use Rattle.custody_records.specs.MemoryRecords.{records_of}
use Rattle.custody_machine.specs.State.{has_notice}
use Rattle.custody_rules.specs.DueDays.{due_day_pair, is_unnoticed}
use Rattle.custody_rules.proofs.DueDays.{due_more, noticed_day}
use Rattle.custody_rules.proofs.days_due.add_due.Goals as goal
use Rattle.custody_rules.proofs.days_due.add_due.Goals.{then-not-contains+in_ok-push, else-not-contains}

-- what the order of numbers says of them
is_below : (a b : ℕ) → is_lt (nat_cmp a b) ≡ true → a < b
is_below a b e = grind (arith, common_steps)

is_not_below : (a b : ℕ) → is_lt (nat_cmp a b) ≡ false → b ≤ a
is_not_below a b e = grind (arith, common_steps)

pub loop-tld-preserved : goal.loop-tld-preserved
loop-tld-preserved c =
    let records = records_of c.args.records.now in
    let tld = c.args.registry.now.tld in
    let first = c.args.registry.now.first_day in
    let day = c.loop-tld.day in
    let before = c.loop-tld.invariant in
    let low : day < c.day-today.result = is_below _ _ (sym c.lt.ensures ∙ c.loop-tld-test.true) in
    let noticed : c.contains.result ≡ has_notice records.notices tld day (λ kind. true) = c.contains.ensures ∙ c.in_ok-noticed.ensures day ∙ noticed_day records tld c.notices_of.result.now c.notices_of.ensures day in
    let items : map due_day_pair c.if-not-contains.due.items ≡ map due_day_pair c.loop-tld.due.items ++ cond (is_unnoticed records (tld, day)) ((tld, day) ∷ []) [] = elim c.if-not-contains.branch [
      | then-not-contains+in_ok-push w ↦
          ap (λ v. map due_day_pair v.items) w.due-is ∙ ap (map due_day_pair) w.in_ok-push.ensures.items ∙ map-append due_day_pair c.loop-tld.due.items _
          ∙ ap (λ b. map due_day_pair c.loop-tld.due.items ++ cond b ((tld, day) ∷ []) []) (sym (ap not (sym noticed ∙ w.if-not-contains.true)))
      | else-not-contains w ↦
          ap (λ v. map due_day_pair v.items) w.due-is ∙ sym (append-nil (map due_day_pair c.loop-tld.due.items))
          ∙ ap (λ b. map due_day_pair c.loop-tld.due.items ++ cond b ((tld, day) ∷ []) []) (sym (ap not (sym noticed ∙ w.if-not-contains.false)))
    ] in
    let more = due_more records tld first day before.0 in
    let sooner : first ≤ c.day_after-day.result = omega (arith, before.0, c.day_after-day.ensures) in
    let in_time : c.day_after-day.result ≤ c.day-today.result = omega (arith, low, c.day_after-day.ensures) in (
      sooner,
      inr in_time,
      items ∙ ap (λ l. l ++ cond (is_unnoticed records (tld, day)) ((tld, day) ∷ []) []) before.2
          ∙ append_assoc (map due_day_pair c.args.due.now.items) (filter (is_unnoticed records) (map (λ d. (tld, d)) (range_with_len first (day - first)))) (cond (is_unnoticed records (tld, day)) ((tld, day) ∷ []) [])
          ∙ ap (λ l. map due_day_pair c.args.due.now.items ++ l) (sym more ∙ ap (λ d. filter (is_unnoticed records) (map (λ d. (tld, d)) (range_with_len first (d - first)))) (sym c.day_after-day.ensures)),
    )

pub returns : goal.returns
returns c =
    let first = c.args.registry.now.first_day in
    let over : c.day-today.result ≤ c.loop-tld.day = is_not_below _ _ (sym c.lt.ensures ∙ c.loop-tld-test.false) in
    let same : c.loop-tld.day - first ≡ c.day-today.result - first = by c.loop-tld.day c.day-today.result first over c.loop-tld.invariant.0 c.loop-tld.invariant.1 in
    c.loop-tld.invariant.2 ∙ ap (λ n. map due_day_pair c.args.due.now.items ++ filter (is_unnoticed (records_of c.args.records.now)) (map (λ d. (c.args.registry.now.tld, d)) (range_with_len first n))) (same ∙ ap (λ t. t - first) c.day-today.ensures.value)
  where
    by : (day today first : ℕ) → today ≤ day → first ≤ day → (day ≡ first) ⊎ (day ≤ today) → day - first ≡ today - first
    by day today first over low (inl e) = omega (arith, over, low, e)
    by day today first over low (inr e) = omega (arith, over, low, e)
