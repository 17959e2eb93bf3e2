use Rattle.deposit_name.proofs.AsciiLemmas.{IsAscii-name_text}
use Rattle.deposit_name.proofs.writing.DepositNameDisplay.fmt.Goals as goal

pub ascii_str-requires : goal.ascii_str-requires
ascii_str-requires g c = rw (c.deref.ensures.0, c.write_name.ensures.text) (IsAscii-name_text c.args.self.now c.write_name.ensures.in_form)
