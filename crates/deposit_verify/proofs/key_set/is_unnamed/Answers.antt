use Rattle.std.proofs.Common.{ap, not}
use Rattle.std.proofs.lemmas.Bool.Decides.{same_from_decides}
use Rattle.dnrd_csv.specs.inside.RowKeys.{borrowed_texts}
use Rattle.deposit_verify.proofs.KeyCounts.{member_decides}
use Rattle.deposit_verify.proofs.key_set.is_unnamed.Goals as goal

pub returns : goal.returns
returns c = ap not (same_from_decides _ _ c.has_key.ensures (member_decides (borrowed_texts c.args.named.now) c.args.key.now))
