use Rattle.std.proofs.Common.{◌≡◌, ◌≤◌, vec_len, vec_capacity}
use Rattle.deposit_pack.proofs.PartLemmas.{AreFirstParts}
use Rattle.deposit_pack.proofs.splitting.split.Given as goal

abbrev pub invariant-loop-place : goal.invariant-loop-place
invariant-loop-place l = record {
  len : vec_len l.parts ≡ l.place;
  room : l.count ≤ vec_capacity l.parts;
  parts : AreFirstParts 1_048_576 l.fn.name l.deposit l.parts.items l.place;
}
