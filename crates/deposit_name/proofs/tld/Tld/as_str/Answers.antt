use Rattle.deposit_name.proofs.AsciiLemmas.{IsAscii-tld}
use Rattle.deposit_name.proofs.tld.Tld.as_str.Goals as goal

pub ascii_str-requires : goal.ascii_str-requires
ascii_str-requires c = rw c.as_bytes.ensures.text (IsAscii-tld c.args.self.now c.as_bytes.ensures.in_form)
