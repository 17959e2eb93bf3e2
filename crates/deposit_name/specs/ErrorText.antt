-- The numbers of the faults of names.
use Rattle.std.specs.Prelude.{ℕ, List, codes}
use Rattle.deposit_name.specs.declared.errors.NameError.{NameError}
use Rattle.deposit_name.specs.declared.errors.NameError.TheVariants.{Suffix, Pieces, Tld, Date, Kind, Part, Revision}

abbrev pub name_error_text : NameError → List ℕ
name_error_text Suffix = codes "N1"
name_error_text Tld = codes "N2"
name_error_text Date = codes "N3"
name_error_text Kind = codes "N4"
name_error_text Part = codes "N5"
name_error_text Revision = codes "N6"
name_error_text Pieces = codes "N7"
