use Rattle.std.proofs.Common.{◌∙◌, sym}
use Rattle.custody_records.specs.TypedRecords.{part_row}
use Rattle.custody_records.proofs.FieldLemmas.{kind_read}
use Rattle.custody_records.proofs.ReadLemmas.{name_without_kind}
use Rattle.custody_records.proofs.parts.PartColumns.read_name.Goals as goal

pub returns-in_err-kind : goal.returns-in_err-kind
returns-in_err-kind c =
    c.from_residual-in_err-kind.ensures
    ∙ sym (name_without_kind (part_row c.args.self.now) (sym (kind_read c.args.self.now.kind.now _ c.in_err-kind.ensures.text c.in_err-kind.ensures.only)))
