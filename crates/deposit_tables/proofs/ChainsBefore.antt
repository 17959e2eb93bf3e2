-- The tables after each of the chains that a deposit continues.
use Rattle.std.proofs.Common.{◌≡◌, ◌<◌, ◌∷◌, [], ℕ, List, arith, get_or, length, refl, subst}
use Rattle.std.specs.List.{AllZip}
use Rattle.deposit_name.specs.declared.kinds.Kind.{Kind}
use Rattle.deposit_name.specs.declared.kinds.Kind.TheVariants.{Full, Diff, Incr}
use Rattle.deposit_tables.specs.Restored.{AreTablesOf}
use Rattle.deposit_tables.specs.Whole.{chains_before}
use Rattle.deposit_tables.proofs.Decisions.{Tables}

-- of an incremental deposit, where others follow the full one: those after this one alone, and those after all
pub both_before : (kind : Kind) (chain : List (List ℕ)) (first : List ℕ) (full all : Tables) → kind ≡ Incr → 1 < length chain → first ≡ get_or chain 0 [] → AreTablesOf (first ∷ []) full → AreTablesOf chain all
    → AllZip AreTablesOf (chains_before kind chain) (full ∷ all ∷ [])
both_before Full chain first full all incremental some is alone whole = cc incremental
both_before Diff chain first full all incremental some is alone whole = cc incremental
both_before Incr [] first full all incremental some is alone whole = absurd (omega (arith, some))
both_before Incr (x ∷ []) first full all incremental some is alone whole = absurd (omega (arith, some))
both_before Incr (x ∷ y ∷ later) first full all incremental some is alone whole = (subst (λ (joined : List ℕ). AreTablesOf (joined ∷ []) full) is alone, (whole, tt))

-- of any other: those after all
pub all_before : (kind : Kind) (chain : List (List ℕ)) (all : Tables) → (kind ≡ Incr → 1 < length chain → ⊥) → AreTablesOf chain all → AllZip AreTablesOf (chains_before kind chain) (all ∷ [])
all_before Full chain all other whole = (whole, tt)
all_before Diff chain all other whole = (whole, tt)
all_before Incr [] all other whole = (whole, tt)
all_before Incr (x ∷ []) all other whole = (whole, tt)
all_before Incr (x ∷ y ∷ later) all other whole = absurd (other refl (omega arith))
