-- What is known of a stated deposit is the same in states that agree on what is read of them.
use Rattle.std.proofs.Common.{◌≡◌, ℕ, ◌++◌, List, [], ◌∷◌, Option, Some, None, Bool, true, false, ◌||◌, refl, ◌∙◌, ap, cond, map}
use Rattle.std.specs.List.{filter, flat_map, list_any}
use Rattle.deposit_name.specs.declared.kinds.Kind.{Kind}
use Rattle.deposit_name.specs.declared.kinds.Kind.TheVariants.{Full, Diff, Incr}
use Rattle.deposit_name.specs.Name.{Name, is_same_kind}
use Rattle.deposit_verify.specs.Bases.{base_at}
use Rattle.deposit_verify.specs.Verdict.{verdict}
use Rattle.custody_machine.specs.declared.command.Statement as statement
use Rattle.custody_machine.specs.State.{State, part_numbers}
use Rattle.custody_machine.specs.Machine.{bytes_held, chain_before, chain_of, first_part, has_dropped_part, held_chain, is_dropped, joined_bytes, known_of, latest_full, latest_id, passed_deposits, passed_first_names, passed_full_deposits, revision_part}
use Rattle.theorems.proofs.AlikeLists.{Each, each_kept, of_last}

-- ---- a revision

-- a revision's parts are the same in both states
abbrev pub AreSameParts : (a b : State) → Name → Type 0
AreSameParts a b name = Each (λ place. revision_part a name place ≡ revision_part b name place) part_numbers

module _ (a b : State) (name : Name) (same : AreSameParts a b name) where
  pub dropped_alike : has_dropped_part a name ≡ has_dropped_part b name
  dropped_alike = dropped part_numbers same
    where
      dropped : (places : List ℕ) → Each (λ place. revision_part a name place ≡ revision_part b name place) places → list_any (λ place. is_dropped (revision_part a name place)) places ≡ list_any (λ place. is_dropped (revision_part b name place)) places
      dropped [] each = refl
      dropped (place ∷ places) each = λ i. is_dropped (each.0 i) || dropped places each.1 i

  pub joined_alike : joined_bytes a name ≡ joined_bytes b name
  joined_alike = joined part_numbers same
    where
      joined : (places : List ℕ) → Each (λ place. revision_part a name place ≡ revision_part b name place) places → flat_map (λ place. bytes_held (revision_part a name place)) places ≡ flat_map (λ place. bytes_held (revision_part b name place)) places
      joined [] each = refl
      joined (place ∷ places) each = λ i. bytes_held (each.0 i) ++ joined places each.1 i

-- ---- the deposits that a stated one follows

module _ (P : Name → Type 0) where
  -- what holds of each deposit that passed holds of each that one follows
  pub each_of_chain : (kind : Kind) (names : List Name) → Each P names → Each P (chain_of kind names (latest_full names))
  each_of_chain kind names each = by (latest_full names) refl
    where
      by : (o : Option Name) → latest_full names ≡ o → Each P (chain_of kind names o)
      by None at = tt
      by (Some full) at = of_kind kind (of_last P None (filter (λ (name : Name). is_same_kind name.kind Full) names) full (each_kept (λ (name : Name). is_same_kind name.kind Full) P names each) (λ e. cc) at)
        where
          of_kind : (kind : Kind) → P full → Each P (chain_of kind names (Some full))
          of_kind Full is = tt
          of_kind Diff is = (is, each_kept _ P names each)
          of_kind Incr is = (is, tt)

module _ (a b : State) where
  -- the states agree on what passed
  pub record ArePassedAlike (tld : List ℕ) : Type 0 where
    pub deposits : passed_deposits a.notices tld ≡ passed_deposits b.notices tld
    pub full : passed_full_deposits a tld ≡ passed_full_deposits b tld
    pub names : passed_first_names a tld ≡ passed_first_names b tld

  map_joined : (names : List Name) → Each (AreSameParts a b) names → map (joined_bytes a) names ≡ map (joined_bytes b) names
  map_joined [] each = refl
  map_joined (name ∷ names) each = λ i. joined_alike a b name each.0 i ∷ map_joined names each.1 i

  any_dropped : (names : List Name) → Each (AreSameParts a b) names → list_any (has_dropped_part a) names ≡ list_any (has_dropped_part b) names
  any_dropped [] each = refl
  any_dropped (name ∷ names) each = λ i. dropped_alike a b name each.0 i || any_dropped names each.1 i

  module _ (st : statement.Statement) (passed : ArePassedAlike st.tld) where
    pub chain_alike : chain_before a st ≡ chain_before b st
    chain_alike = λ i. chain_of st.kind (passed.names i) (latest_full (passed.names i))

    module _ (same : Each (AreSameParts a b) (chain_before b st)) where
      pub chain_dropped_alike : list_any (has_dropped_part a) (chain_before a st) ≡ list_any (has_dropped_part b) (chain_before b st)
      chain_dropped_alike = ap (list_any (has_dropped_part a)) chain_alike ∙ any_dropped (chain_before b st) same

      joined_chain : map (joined_bytes a) (held_chain a st) ≡ map (joined_bytes b) (held_chain b st)
      joined_chain = (λ i. map (joined_bytes a) (cond (chain_dropped_alike i) [] (chain_alike i))) ∙ by (list_any (has_dropped_part b) (chain_before b st))
        where
          by : (c : Bool) → map (joined_bytes a) (cond c [] (chain_before b st)) ≡ map (joined_bytes b) (cond c [] (chain_before b st))
          by true = refl
          by false = map_joined (chain_before b st) same

      known_alike : known_of a st ≡ known_of b st
      known_alike = λ i. record {
        name = first_part st;
        id = st.id;
        latest = latest_id (passed.deposits i);
        full = latest_id (passed.full i);
        passed = map (λ (one : ℕ × List ℕ). one.1) (passed.deposits i);
        base = base_at (joined_chain i);
      }

      pub verdict_alike : AreSameParts a b (first_part st) → verdict (joined_bytes a (first_part st)) (known_of a st) ≡ verdict (joined_bytes b (first_part st)) (known_of b st)
      verdict_alike own = λ i. verdict (joined_alike a b (first_part st) own i) (known_alike i)
