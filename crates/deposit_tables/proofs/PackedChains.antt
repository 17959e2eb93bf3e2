-- A packed deposit begins a chain, or goes on with it.
use Rattle.std.proofs.Common.{◌≡◌, ◌≢◌, ◌↔◌, ◌++◌, ◌∷◌, [], ℕ, IsSome, List, None, Option, Some, refl}
use Rattle.std.specs.Prelude.{IfSome, unwrap_or}
use Rattle.deposit_name.specs.declared.kinds.Kind.{Kind}
use Rattle.deposit_name.specs.declared.kinds.Kind.TheVariants.{Full, Diff, Incr}
use Rattle.desk.specs.declared.checks.Check.{Check}
use Rattle.dnrd_csv.specs.Readers.{IsTableReader}
use Rattle.deposit_verify.specs.Chain.{IsChain}
use Rattle.deposit_verify.specs.Checks.{FollowsPassed, PassesCheck}
use Rattle.deposit_verify.specs.Known.{Known}
use Rattle.deposit_verify.specs.Verdict.{verdict}
use Rattle.deposit_verify.specs.declared.base.Base.{Base}
use Rattle.deposit_verify.specs.declared.verdict.Verdict.TheVariants.{Pass}
use Rattle.deposit_verify.specs.inside.Reading.{OneReading}
use Rattle.deposit_pack.specs.Packable.{IsPackable, MayFollow}
use Rattle.deposit_pack.specs.Packing.{Objects, packed}
use Rattle.deposit_pack.specs.declared.source.Attributes.{Attributes}
use Rattle.deposit_pack.proofs.PackedPasses.{passes}
use Rattle.deposit_tables.proofs.Decisions.{nothing}
use Rattle.deposit_tables.proofs.Passed.{passed_restored}

-- what is known where it follows what it names
abbrev known_alone : Attributes → Known
known_alone a = record { name = a.name; id = a.id; latest = a.prev_id; full = Some (unwrap_or a.prev_id a.id); passed = []; base = None }

follows_named : (prev_id : Option (List ℕ)) (id : List ℕ) → IfSome prev_id (λ named. named ≡ unwrap_or prev_id id)
follows_named None id = tt
follows_named (Some named) id = refl

some_id : (prev_id : Option (List ℕ)) → IsSome prev_id → (id : List ℕ) × (prev_id ≡ Some id)
some_id None is = cc is
some_id (Some id) is = (id, refl)

module _ (a : Attributes) where
  follows : (kind : Kind) → MayFollow kind a.prev_id → FollowsPassed kind a.prev_id (known_alone a)
  follows Full may = may
  follows Diff may = let there = some_id a.prev_id may in (there.0, there.1, there.1)
  follows Incr may = (unwrap_or a.prev_id a.id, refl, follows_named a.prev_id a.id)

module _ (reader : IsTableReader) (one : OneReading) (law : (joined : List ℕ) (known : Known) → (verdict joined known ≡ Pass) ↔ ((c : Check) → PassesCheck joined known c)) (a : Attributes) (o : Objects)
    (before : Base) (packable : IsPackable a o before) where
  packed_passes : verdict (packed a o before) (known_alone a) ≡ Pass
  packed_passes =
      passes reader a o before packable (known_alone a)
      (record { name = refl; id = refl; follows = follows a a.name.kind packable.prev_id; free = nothing a.id; base = λ _. tt }) law

  pub packed_first : a.name.kind ≡ Full → IsChain (packed a o before ∷ [])
  packed_first full = (passed_restored reader one law).first (packed a o before) (known_alone a) packed_passes full

  pub packed_later : a.name.kind ≢ Full → (chain : List (List ℕ)) → IsChain chain → IsChain (chain ++ packed a o before ∷ [])
  packed_later partial chain is = (passed_restored reader one law).later chain (packed a o before) (known_alone a) is packed_passes partial
