-- What lacks order, of one list of files.
use Rattle.std.specs.Prelude.{◌≡◌, List}
use Rattle.deposit_name.specs.declared.table.TableName.{TableName}
use Rattle.deposit_verify.specs.declared.files_reason.FileList.{FileList}
use Rattle.deposit_verify.specs.declared.header_reason.MenuReason.{MenuReason}
use Rattle.deposit_verify.specs.declared.header_reason.MenuReason.TheVariants.{Order}
use Rattle.deposit_verify.specs.HeaderReasons.{IsOutOfOrder}

-- the reason is that the tables of this list do not stand in order
abbrev pub IsOrderReason : FileList → List TableName → MenuReason → Type 0
IsOrderReason files names (Order list place before here) = (list ≡ files) × IsOutOfOrder names place before here
IsOrderReason files names _ = ⊥
