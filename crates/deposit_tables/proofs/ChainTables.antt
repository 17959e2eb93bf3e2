-- The tables after a chain, deposit by deposit.
use Rattle.std.proofs.Common.{◌≡◌, ◌≤◌, ◌<◌, ◌+◌, ◌++◌, ◌∷◌, ◌∙◌, [], ℕ, All, List, Vec, ap, arith, drop, get_or, length, map, slice_index_or, subst, sym, take}
use Rattle.std.proofs.Math.ListN.{get_or-map}
use Rattle.std.proofs.lemmas.List.{length-map, take_all, take_more}
use Rattle.std.proofs.lemmas.List.Elements.{All-append}
use Rattle.deposit_name.specs.declared.table.TableName.{TableName}
use Rattle.deposit_verify.specs.Chain.{IsChain, IsLaterOfChain}
use Rattle.deposit_tables.specs.Restored.{AreTablesOf, HasRowsOf}
use Rattle.deposit_tables.specs.inside.Places.{AreSorted}
use Rattle.deposit_tables.proofs.Decisions.{Tables}

module _ {Z : Type 0} (first : List ℕ) (later : List (Vec ℕ Z)) where
  -- the later deposits
  abbrev texts : List (List ℕ)
  texts = map (λ (d : Vec ℕ Z). d.items) later

  module _ (i : ℕ) (d : Vec ℕ Z) (inside : i < length later) where
    there : i < length texts
    there = rw length-map inside

    same_text : get_or texts i d.items ≡ (get_or later i d).items
    same_text = get_or-map (λ (it : Vec ℕ Z). it.items) later i d

    texts_more : take (i + 1) texts ≡ take i texts ++ (get_or later i d).items ∷ []
    texts_more = take_more texts i d.items there ∙ ap (λ (joined : List ℕ). take i texts ++ joined ∷ []) same_text

    pub rows_more : (tables : Tables) → HasRowsOf ((first ∷ take i texts) ++ (get_or later i d).items ∷ []) tables → HasRowsOf (first ∷ take (i + 1) texts) tables
    rows_more tables has = subst (λ (chain : List (List ℕ)). HasRowsOf (first ∷ chain) tables) (sym texts_more) has

    pub links_more : All IsLaterOfChain (take i texts) → IsLaterOfChain (get_or later i d).items → All IsLaterOfChain (take (i + 1) texts)
    links_more links link =
        subst (All IsLaterOfChain) (sym texts_more)
        (All-append IsLaterOfChain (take i texts) ((get_or later i d).items ∷ []) links (λ k e within. let first_one : 0 ≡ k = omega (arith, within) in subst (λ (n : ℕ). IsLaterOfChain (get_or ((get_or later i d).items ∷ []) n e)) first_one link))

    pub no_chain : (¬ IsLaterOfChain (get_or later i d).items) → ¬ IsChain (first ∷ texts)
    no_chain none chained = none (subst IsLaterOfChain same_text (chained.1 i d.items there))

  pub all_rows : (i : ℕ) (tables : Tables) → length later ≤ i → HasRowsOf (first ∷ take i texts) tables → HasRowsOf (first ∷ texts) tables
  all_rows i tables over has = let past : length texts ≤ i = rw length-map over in rw (take_all i texts past) at has

  pub all_links : (i : ℕ) → length later ≤ i → All IsLaterOfChain (take i texts) → All IsLaterOfChain texts
  all_links i over links = let past : length texts ≤ i = rw length-map over in rw (take_all i texts past) at links

-- the first of some deposits, and those behind it
pub first_and_later : {Z : Type 0} (chain later : List (Vec ℕ Z)) (first : Vec ℕ Z) → 0 < length chain → first ≡ slice_index_or chain 0 first → later ≡ take 0 chain ++ drop 1 chain
    → map (λ (d : Vec ℕ Z). d.items) chain ≡ first.items ∷ map (λ (d : Vec ℕ Z). d.items) later
first_and_later [] later first some is rest = absurd (omega (arith, some))
first_and_later {Z} (x ∷ xs) later first some is rest = λ i. (sym is i).items ∷ map (λ (d : Vec ℕ Z). d.items) (sym rest i)

-- the same tables in ascending order are those of the chain
pub sorted_restored : (chain : List (List ℕ)) (tables sorted : Tables) → IsChain chain → HasRowsOf chain tables → ((name : TableName) → AreSorted (tables name) (sorted name)) → AreTablesOf chain sorted
sorted_restored chain tables sorted chained has are = record {
  chained = chained;
  rows = λ name. record {
    ascend = (are name).ascend;
    same = λ row. (λ there. (has name row).0 (((are name).same row).0 there), λ of. ((are name).same row).1 ((has name row).1 of));
  };
}
