-- The line of an error of a file, in pieces as it is formatted, and whole.
use Rattle.std.proofs.Common.{◌≡◌, ◌∙◌, ◌++◌, ◌∷◌, [], List, ℕ, Option, None, Some, IfSome, append_assoc, codes, sym}
use Rattle.std.specs.Fmt.{◌++?◌}
use Rattle.answer_lines.specs.Printing.{as_line}

in_one : (a b c d e : List ℕ) → a ++ (b ++ (c ++ (d ++ e))) ≡ (a ++ b ++ c ++ d) ++ e
in_one a b c d e = sym (append_assoc (a ++ b ++ c) d e ∙ append_assoc (a ++ b) c (d ++ e) ∙ append_assoc a b (c ++ (d ++ e)))

pub file_line : (path : List ℕ) (known : Option (List ℕ)) (line : List ℕ)
    → IfSome (Some (codes "file failed: ") ++? (Some path ++? (Some (codes ": ") ++? (known ++? Some (10 ∷ []))))) (λ bytes. line ≡ bytes)
    → IfSome known (λ cause. line ≡ as_line (codes "file failed: " ++ path ++ codes ": " ++ cause))
file_line path None line is = tt
file_line path (Some cause) line is = is ∙ in_one (codes "file failed: ") path (codes ": ") cause (10 ∷ [])
