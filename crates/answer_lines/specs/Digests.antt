-- The lines of `digests`: the SHA-256 of each part of a registry that was received, held or dropped, in the order of `state` (FIPS 180-4).
use Rattle.std.specs.Prelude.{ℕ, List, map}
use Rattle.custody_records.specs.Keys.{PartKey}
use Rattle.custody_records.specs.Records.{PartRecord, Records, name_of, parts_of}
use Rattle.answer_lines.specs.declared.lines.Line.{Line}
use Rattle.answer_lines.specs.declared.lines.Line.TheVariants as line
use Rattle.answer_lines.specs.State.{lines_text}

abbrev pub digest_line : PartKey × PartRecord → Line
digest_line e = line.Digest e.1.digest (name_of e.0 e.1.kind)

abbrev pub digests_text : Records → List ℕ → List ℕ
digests_text records tld = lines_text (map digest_line (parts_of records tld))
