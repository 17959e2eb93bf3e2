use Rattle.std.proofs.Common.{◌∙◌, ap, sym}
use Rattle.std.specs.List.{list_all}
use Rattle.custody_records.specs.RowsOfRecords.{is_line}
use Rattle.custody_records.proofs.LineLemmas.{lines_of-lines}
use Rattle.custody_records.proofs.names.Names.as_text.Goals as goal

pub returns-clause-lines : goal.returns-clause-lines
returns-clause-lines c = ap (list_all is_line) (sym c.self.view_is) ∙ lines_of-lines c.self.inside.text.items
