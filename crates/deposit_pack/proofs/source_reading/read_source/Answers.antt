use Rattle.std.proofs.Common.{refl}
use Rattle.deposit_pack.specs.PackErrors.{IsPackError}
use Rattle.deposit_pack.proofs.SourceLemmas.{error_kept, may_delete_files}
use Rattle.deposit_pack.proofs.source_reading.read_source.Goals as goal

pub returns-in_err-tables-clause-refused : goal.returns-in_err-tables-clause-refused
returns-in_err-tables-clause-refused c = λ a base.
    error_kept (IsPackError a c.args.source.now base) c.from_residual.result c.in_err-tables.field-0.0 c.from_residual.ensures.1 (c.in_err-tables.ensures.refused a c.args.source.now base refl refl)

pub read_deletes-requires : goal.read_deletes-requires
read_deletes-requires c = may_delete_files c.args.source.now.has_headers c.args.source.now.deletes.now c.requires

pub returns-in_err-deleted-clause-refused : goal.returns-in_err-deleted-clause-refused
returns-in_err-deleted-clause-refused c = λ a base.
    error_kept (IsPackError a c.args.source.now base) c.from_residual-in_err-deleted.result c.in_err-deleted.field-0.0 c.from_residual-in_err-deleted.ensures.1 (c.in_err-deleted.ensures.refused a c.args.source.now base refl refl)
