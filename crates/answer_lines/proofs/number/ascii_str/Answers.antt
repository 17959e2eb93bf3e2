use Rattle.std.proofs.Common.{rules}
use Rattle.std.proofs.lemmas.Str.{IsUtf8-from_ascii}
use Rattle.answer_lines.proofs.number.ascii_str.Goals as goal

pub unwrap-requires : goal.unwrap-requires
unwrap-requires c = search (rules, IsUtf8-from_ascii)
