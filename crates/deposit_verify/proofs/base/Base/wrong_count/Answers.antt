use Rattle.std.proofs.Common.{map}
use Rattle.dnrd_csv.specs.Text.{key_rows}
use Rattle.envelope.specs.Envelope.{env_of}
use Rattle.deposit_verify.proofs.WrongCounts.{none_wrong}
use Rattle.deposit_verify.proofs.base.Base.wrong_count.Goals as goal

pub returns-clause-right : goal.returns-clause-right
returns-clause-right c =
    none_wrong (env_of c.args.envelope.now) c.args.self.now c.args.files.now.tables.items (map key_rows c.args.files.now.deleted.items) c.deref.result.now _ c.first.result c.deref.ensures.value c.in_ok-there.ensures c.first.ensures
