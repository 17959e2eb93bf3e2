use Rattle.std.proofs.Common.{rules, tests}
use Rattle.std.proofs.lemmas.Iterator.{YieldsList-from_map_by, YieldsList-from_slice}
use Rattle.std.proofs.lemmas.Iterator.Consumers.{map_from_collect}
use Rattle.deposit_pack.specs.Packing.{named_rows}
use Rattle.deposit_tables.specs.inside.Packing.{text_rows}
use Rattle.std.specs.Prelude.{false}
use Rattle.deposit_tables.proofs.whole.table_files.Goals as goal

pub returns : goal.returns
returns c =
    map_from_collect c.collect.result c.collect.ensures.ran
    (YieldsList-from_map_by _ (named_rows false) text_rows (YieldsList-from_slice c.args.texts.now cc) c.map.ensures.closure (λ x r q k. search (rules, tests)))
