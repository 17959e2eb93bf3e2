use Rattle.schedule.proofs.AsciiLemmas.{IsAscii-day_text}
use Rattle.schedule.proofs.days.DayDisplay.fmt.Goals as goal

pub ascii_str-requires : goal.ascii_str-requires
ascii_str-requires g c = rw c.text.ensures.value (IsAscii-day_text c.args.self.now c.text.ensures.in_range)
