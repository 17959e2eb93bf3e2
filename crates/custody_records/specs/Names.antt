-- The names of a release as one text: each is a line, up to its line feed.
use Rattle.std.specs.Prelude.{ℕ, List, [], ◌∷◌, ◌++◌, ◌==◌, if◌then◌else◌}

-- the lines of a text, after the bytes of the first; what stands behind the last line feed is no line
abbrev pub lines_after : List ℕ → List ℕ → List (List ℕ)
lines_after line [] = []
lines_after line (byte ∷ text) = if byte == 10 then line ∷ lines_after [] text else lines_after (line ++ byte ∷ []) text

abbrev pub lines_of : List ℕ → List (List ℕ)
lines_of = lines_after []
