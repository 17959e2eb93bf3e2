use Rattle.deposit_name.proofs.AsciiLemmas.{IsAscii-deposit_id}
use Rattle.deposit_name.proofs.deposit_id.DepositId.as_str.Goals as goal

pub ascii_str-requires : goal.ascii_str-requires
ascii_str-requires c = rw c.as_bytes.ensures.text (IsAscii-deposit_id c.args.self.now c.as_bytes.ensures.in_form)
