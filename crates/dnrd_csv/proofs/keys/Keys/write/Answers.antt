use Rattle.std.proofs.Common.{List, ℕ, ◌<◌, ◌≡◌, ◌+◌, ◌-◌, ◌++◌, ◌∷◌, ◌∙◌, [], ap, append_assoc, arith, drop, drop-cons, get_or, length, sym, take}
use Rattle.std.proofs.lemmas.List.{map_more}
use Rattle.dnrd_csv.specs.Text.{key_rows, row_text, table_text}
use Rattle.dnrd_csv.proofs.WritingLemmas.{table_text-push}
use Rattle.dnrd_csv.proofs.keys.Keys.write.Goals as goal

pub loop-i-preserved : goal.loop-i-preserved
loop-i-preserved c =
    let before = c.args.out.now.items in
    let keys = c.args.self.now in
    let i = c.loop-i.i in
    let inside : i < length keys = omega (arith, c.loop-i-test.true, c.len-i-end.ensures) in
    let one : i + 1 - i ≡ 1 = omega arith in
    let row : take (i + 1 - i) (drop i keys) ≡ get_or keys i [] ∷ [] = ap (λ (n : ℕ). take n (drop i keys)) one ∙ ap (take 1) (drop-cons keys i [] inside) in
    let more : table_text (key_rows (take (i + 1) keys)) ≡ table_text (key_rows (take i keys)) ++ row_text (get_or keys i [] ∷ []) =
    ap table_text (map_more (λ (key : List ℕ). key ∷ []) keys i [] inside) ∙ table_text-push (key_rows (take i keys)) (get_or keys i [] ∷ []) in
    c.in_ok-write_row.ensures
    ∙ ap (λ (k : List (List ℕ)). c.loop-i.out.items ++ row_text (take (i + 1 - i) (drop i k))) c.self.view_is
    ∙ ap (λ (r : List (List ℕ)). c.loop-i.out.items ++ row_text r) row
    ∙ ap (λ (t : List ℕ). t ++ row_text (get_or keys i [] ∷ [])) c.loop-i.invariant
    ∙ append_assoc before (table_text (key_rows (take i keys))) (row_text (get_or keys i [] ∷ []))
    ∙ ap (λ (t : List ℕ). before ++ t) (sym more)
