use Rattle.deposit_name.proofs.AsciiLemmas.{IsAscii-reference}
use Rattle.deposit_name.proofs.reference.Reference.as_str.Goals as goal

pub ascii_str-requires : goal.ascii_str-requires
ascii_str-requires c = rw c.as_bytes.ensures.text (IsAscii-reference c.args.self.now c.as_bytes.ensures.in_form)
