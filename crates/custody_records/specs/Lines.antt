-- The lines that are left of a text.
use Rattle.std.specs.Prelude.{ℕ, List}
use Rattle.custody_records.specs.Names.{lines_of}
use Rattle.custody_records.specs.declared.lines.Lines.{Lines}

abbrev pub lines_left : Lines → List (List ℕ)
lines_left lines = lines_of lines.rest.now
