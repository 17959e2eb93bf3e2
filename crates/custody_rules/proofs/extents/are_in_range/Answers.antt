use Rattle.std.proofs.Common.{sym, subst}
use Rattle.std.specs.Prelude.{All}
use Rattle.std.proofs.lemmas.Bool.{iff_false}
use Rattle.custody_records.specs.MemoryRecords.{records_of}
use Rattle.custody_records.specs.RegistryRows.{rows_left}
use Rattle.custody_rules.specs.Blocks.{IsInRange}
use Rattle.custody_rules.proofs.PartBlocks.{in_range_rows, rows_in_range}
use Rattle.custody_rules.proofs.extents.are_in_range.Goals as goal

pub returns-clause-in_range : goal.returns-clause-in_range
returns-clause-in_range c = λ yes.
    rows_in_range (records_of c.args.records.now) (rows_left c.parts.result) c.parts.ensures.all c.parts.ensures.rising (subst (λ n. All (IsInRange n) (rows_left c.parts.result)) c.blocks-2.ensures (c.all_in_range.ensures.0 yes))

pub returns-clause-broken : goal.returns-clause-broken
returns-clause-broken c = λ no range.
    iff_false c.all_in_range.ensures no (subst (λ n. All (IsInRange n) (rows_left c.parts.result)) (sym c.blocks-2.ensures) (in_range_rows (records_of c.args.records.now) (rows_left c.parts.result) c.parts.ensures.all c.parts.ensures.rising range))
