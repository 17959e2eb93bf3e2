use Rattle.schedule.proofs.AsciiLemmas.{IsAscii-moment_text}
use Rattle.schedule.proofs.moments.SecDisplay.fmt.Goals as goal

pub ascii_str-requires : goal.ascii_str-requires
ascii_str-requires g c = rw c.text.ensures.value (IsAscii-moment_text c.args.self.now c.text.ensures.in_range)
