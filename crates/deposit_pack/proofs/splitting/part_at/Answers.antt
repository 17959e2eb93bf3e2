use Rattle.std.proofs.Common.{◌≡◌, ◌≤◌, ◌∙◌, ◌*◌, ◌-◌, List, ℕ, ap, arith, drop, length, length-drop, min, take, take_all}
use Rattle.std.proofs.lemmas.List.{take_min}
use Rattle.deposit_pack.proofs.splitting.part_at.Goals as goal

-- the front of what is left, no longer than it is
clipped : (most end kept : ℕ) (rest : List ℕ) → length rest ≤ kept → end ≡ min most (length (take kept rest)) → take end (take kept rest) ≡ take most rest
clipped most end kept rest long is =
    let whole = take_all kept rest long in
    ap (λ n. take n (take kept rest)) is ∙ ap (λ xs. take (min most (length xs)) xs) whole ∙ take_min most rest

pub returns-clause-bytes : goal.returns-clause-bytes
returns-clause-bytes c =
    clipped 1048576 c.min.result (length c.args.deposit.now - c.args.place * 1048576) (drop (c.args.place * 1048576) c.args.deposit.now)
    (omega (arith, length-drop (c.args.place * 1048576) c.args.deposit.now)) c.min.ensures
