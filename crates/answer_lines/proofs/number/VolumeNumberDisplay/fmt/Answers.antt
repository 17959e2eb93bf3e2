use Rattle.answer_lines.proofs.NumberLemmas.{IsAscii-digits_of}
use Rattle.answer_lines.proofs.number.VolumeNumberDisplay.fmt.Goals as goal

pub ascii_str-requires : goal.ascii_str-requires
ascii_str-requires g c = rw c.write_number.ensures (IsAscii-digits_of _)
