use Rattle.std.proofs.Common.{ℕ, List, rules, tests}
use Rattle.std.specs.Str.{bytes_eq}
use Rattle.std.proofs.lemmas.Iterator.Consumers.{YieldsList-from_first}
use Rattle.std.proofs.lemmas.Iterator.Search.{any_from_yields_List}
use Rattle.custody_records.specs.Lines.{lines_left}
use Rattle.custody_rules.proofs.fetching.has_name.Goals as goal

pub returns : goal.returns
returns c =
    any_from_yields_List (λ (listed : List ℕ). bytes_eq listed c.args.name.now) c.any.new.self _ _ c.any.ensures.ran (YieldsList-from_first (λ x. x.now) lines_left {s = c.lines.result} c.args.names.now c.lines.ensures) (λ x b q k. search (rules, tests))
