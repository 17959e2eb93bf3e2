-- What was packed from the tables of a registry, day after day, restores the tables of the last day.
use Rattle.std.proofs.Common.{◌≡◌, ◌≢◌, ◌↔◌, ◌++◌, ◌∷◌, [], ℕ, Contains, List, append_assoc, inl, inr, map, refl, subst, sym}
use Rattle.std.specs.List.{AllZip}
use Rattle.std.proofs.lemmas.List.{append-nil}
use Rattle.deposit_name.specs.declared.kinds.Kind.{Kind}
use Rattle.deposit_name.specs.declared.kinds.Kind.TheVariants.{Full, Diff, Incr}
use Rattle.desk.specs.declared.checks.Check.{Check}
use Rattle.dnrd_csv.specs.Readers.{IsTableReader}
use Rattle.deposit_verify.specs.Chain.{IsChain}
use Rattle.deposit_verify.specs.Checks.{PassesCheck}
use Rattle.deposit_verify.specs.Known.{Known}
use Rattle.deposit_verify.specs.Verdict.{verdict}
use Rattle.deposit_verify.specs.declared.verdict.Verdict.TheVariants.{Pass}
use Rattle.deposit_verify.specs.inside.Reading.{OneReading}
use Rattle.deposit_tables.specs.Days.{AreDaysRestored, ArePackedInTurn, AreRestoredAs, RegistryDay, day_bytes, last_day_tables}
use Rattle.deposit_tables.specs.Deposits.{packed_bytes}
use Rattle.deposit_tables.specs.Restored.{HasRowsOf}
use Rattle.deposit_tables.specs.Unchanged.{IsAmong}
use Rattle.deposit_tables.specs.Whole.{IsPackedSince, chains_before}
use Rattle.deposit_tables.proofs.Decisions.{Tables, contains_cases, contains_here, contains_later, nothing}
use Rattle.deposit_tables.proofs.Deposited.{whole_rows}
use Rattle.deposit_tables.proofs.PackedChains.{packed_first, packed_later}
use Rattle.deposit_tables.proofs.PackedChanges.{changes_restored}

-- of each chain there are the tables after it
old_after : (chains : List (List (List ℕ))) (olds : List Tables) (chain : List (List ℕ)) → AllZip HasRowsOf chains olds → Contains chains chain → (old : Tables) × IsAmong old olds × HasRowsOf chain old
old_after [] [] chain all has = absurd (nothing chain has)
old_after [] (old ∷ olds) chain all has = absurd (nothing chain has)
old_after (c ∷ cs) [] chain all has = absurd all
old_after (c ∷ cs) (old ∷ olds) chain all has = elim (contains_cases c cs chain has) [
  | inl is ↦ (old, inl refl, subst (λ (x : List (List ℕ)). HasRowsOf x old) is all.0)
  | inr later ↦ let found = old_after cs olds chain all.1 later in (found.0, inr found.1, found.2)
]

-- a deposit continues all those before it
pub continues_all : (kind : Kind) (chain : List (List ℕ)) → Contains (chains_before kind chain) chain
continues_all Full chain = contains_here chain []
continues_all Diff chain = contains_here chain []
continues_all Incr [] = contains_here [] []
continues_all Incr (full ∷ []) = contains_here (full ∷ []) []
continues_all Incr (full ∷ next ∷ later) = contains_later (full ∷ []) ((full ∷ next ∷ later) ∷ []) (full ∷ next ∷ later) (contains_here (full ∷ next ∷ later) [])

module _ (reader : IsTableReader) (one : OneReading) (law : (joined : List ℕ) (known : Known) → (verdict joined known ≡ Pass) ↔ ((c : Check) → PassesCheck joined known c)) where
  day_restored : (chain : List (List ℕ)) (d : RegistryDay) → IsPackedSince chain d.attributes d.tables d.before d.bytes → (continued : List (List ℕ)) → Contains (chains_before d.attributes.name.kind chain) continued
      → HasRowsOf (continued ++ d.bytes ∷ []) d.tables × (d.attributes.name.kind ≢ Full → IsChain continued → IsChain (continued ++ d.bytes ∷ []))
  day_restored chain d is continued has =
      let found = old_after (chains_before d.attributes.name.kind chain) is.since.olds continued is.since.after has in
      let brought = changes_restored reader one continued is.since.olds found.0 d.tables d.attributes is.objects d.before found.2 found.1 is.since.changes.changes is.packable in (
        subst (λ (bytes : List ℕ). HasRowsOf (continued ++ bytes ∷ []) d.tables) (sym is.bytes_right) brought,
        λ partial chained. subst (λ (bytes : List ℕ). IsChain (continued ++ bytes ∷ [])) (sym is.bytes_right) (packed_later reader one law d.attributes is.objects d.before is.packable partial continued chained),
      )

  in_turn : (chain : List (List ℕ)) (old : Tables) (later : List RegistryDay) → IsChain chain → HasRowsOf chain old → ArePackedInTurn chain later
      → IsChain (chain ++ map day_bytes later) × HasRowsOf (chain ++ map day_bytes later) (last_day_tables old later)
  in_turn chain old [] chained was of =
      (subst IsChain (sym (append-nil chain)) chained, subst (λ (c : List (List ℕ)). HasRowsOf c old) (sym (append-nil chain)) was)
  in_turn chain old (d ∷ ds) chained was of =
      let next = day_restored chain d of.1 chain (continues_all d.attributes.name.kind chain) in
      let rest = in_turn (chain ++ d.bytes ∷ []) d.tables ds (next.1 of.0 chained) next.0 of.2 in
      let same = append_assoc chain (d.bytes ∷ []) (map day_bytes ds) in
      (subst IsChain same rest.0, subst (λ (c : List (List ℕ)). HasRowsOf c (last_day_tables d.tables ds)) same rest.1)

  as_restored : (chain : List (List ℕ)) (tables : Tables) → HasRowsOf chain tables → AreRestoredAs chain tables
  as_restored chain tables has restored are name row =
      let here = (are.rows name).same row in
      let there = has name row in
      (λ h. there.1 (here.0 h), λ h. here.1 (there.0 h))

  pub days_restored : AreDaysRestored
  days_restored = record {
    day = day_restored;
    days = λ first later full packable whole of.
        let begun = packed_first reader one law first.attributes first.objects first.before packable full in
        let all = in_turn (packed_bytes first ∷ []) first.tables later begun (whole_rows reader one first packable whole) of in
        (all.0, as_restored (packed_bytes first ∷ map day_bytes later) (last_day_tables first.tables later) all.1);
  }
