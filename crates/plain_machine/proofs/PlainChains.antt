-- The deposits that the plain program finds for a stated one are those of the machine.
use Rattle.std.proofs.Common.{◌≡◌, ◌<◌, ◌+◌, ℕ, List, [], ◌∷◌, ◌++◌, length, take, get_or, map, Option, Some, None, Bool, true, false, cond, refl, sym, ◌∙◌, ap, arith}
use Rattle.std.specs.FinMap.{entries, from_entries}
use Rattle.std.specs.List.{filter, last_or}
use Rattle.deposit_name.specs.declared.kinds.Kind.{Kind}
use Rattle.deposit_name.specs.declared.kinds.Kind.TheVariants.{Full}
use Rattle.deposit_name.specs.Name.{Name, is_same_kind}
use Rattle.deposit_verify.specs.Bases.{all_then, base_at}
use Rattle.custody_records.specs.Keys.{PartKey, part_cmp}
use Rattle.custody_records.specs.Records.{name_of}
use Rattle.custody_records.specs.Tables.{is_rising}
use Rattle.custody_machine.specs.Machine.{latest_full}
use Rattle.custody_machine.specs.State.{Part}
use Rattle.plain_machine.specs.declared.state.PlainPart.{PlainPart}
use Rattle.plain_machine.specs.declared.listing.ListedPart.{ListedPart}
use Rattle.plain_machine.specs.inside.Listing.{listed_entry, listed_key, listed_value, listing_view, listed_value_of}
use Rattle.plain_machine.specs.Plain.{plain_part_entry}
use Rattle.plain_machine.proofs.NoticeRows.{row_more}
use Rattle.plain_machine.proofs.PlainReleases.{listed_entries}

-- ---- the parts that pass a test of their places

-- the names of those that pass a test, of what a function gives
names_mapped : {A B : Type 0} (f : A → B) (test : B → Bool) (name : B → Name) (items : List A) → map name (filter test (map f items)) ≡ map (λ item. name (f item)) (filter (λ item. test (f item)) items)
names_mapped f test name [] = refl
names_mapped {A} f test name (item ∷ items) = by (test (f item)) (names_mapped f test name items)
  where
    by : (b : Bool) → map name (filter test (map f items)) ≡ map (λ item. name (f item)) (filter (λ item. test (f item)) items)
        → map name (cond b (f item ∷ filter test (map f items)) (filter test (map f items))) ≡ map (λ item. name (f item)) (cond b (item ∷ filter (λ item. test (f item)) items) (filter (λ item. test (f item)) items))
    by true rest = ap (λ (names : List Name). name (f item) ∷ names) rest
    by false rest = rest

-- the names of the rows are those of the parts, in the order of their places
pub names_passing : (test : PartKey → Bool) (parts : List PlainPart) (rows : List ListedPart) → is_rising part_cmp listed_key rows ≡ true → listing_view rows ≡ from_entries (map listed_entry parts)
    → map (λ (l : ListedPart). l.name) (filter (λ l. test (listed_key l)) rows) ≡ map (λ (e : PartKey × Part). name_of e.0 e.1.kind) (filter (λ e. test e.0) (entries (from_entries {R = part_cmp} (map plain_part_entry parts))))
names_passing test parts rows rising is =
    sym (names_mapped (λ l. (listed_key l, listed_value l)) passes name_listed rows)
    ∙ ap (λ es. map name_listed (filter passes es)) (listed_entries parts rows rising is)
    ∙ names_mapped (λ (e : PartKey × Part). (e.0, listed_value_of e.1)) passes name_listed (entries (from_entries {R = part_cmp} (map plain_part_entry parts)))
  where
    passes : PartKey × (Kind × Bool) → Bool
    passes e = test e.0

    name_listed : PartKey × (Kind × Bool) → Name
    name_listed e = name_of e.0 e.1.0

-- ---- the latest full one

-- the last that passes a test, with one item more
last_more : {X : Type 0} (test : X → Bool) (before : Option X) (xs : List X) (x : X) → last_or before (filter test (xs ++ x ∷ [])) ≡ cond (test x) (Some x) (last_or before (filter test xs))
last_more test before [] x = by (test x)
  where
    by : (b : Bool) → last_or before (cond b (x ∷ []) []) ≡ cond b (Some x) before
    by true = refl
    by false = refl
last_more {X} test before (y ∷ xs) x = by (test y) (λ o. last_more test o xs x)
  where
    by : (b : Bool) → ((o : Option X) → last_or o (filter test (xs ++ x ∷ [])) ≡ cond (test x) (Some x) (last_or o (filter test xs)))
        → last_or before (cond b (y ∷ filter test (xs ++ x ∷ [])) (filter test (xs ++ x ∷ []))) ≡ cond (test x) (Some x) (last_or before (cond b (y ∷ filter test xs) (filter test xs)))
    by true rest = rest (Some y)
    by false rest = rest before

-- the latest full one, with one name more
pub latest_more : (names : List Name) (i : ℕ) (name : Name) → i < length names → name ≡ get_or names i name
    → latest_full (take (i + 1) names) ≡ cond (is_same_kind name.kind Full) (Some name) (latest_full (take i names))
latest_more names i name lt is = ap latest_full (row_more names i name lt is) ∙ last_more (λ (n : Name). is_same_kind n.kind Full) None (take i names) name

-- ---- the keys after a chain

-- there are none after no deposit
pub base_of_none : (joined : Name → List ℕ) (chain : List Name) → length chain < 1 → None ≡ base_at (map joined chain)
unfolding base_at
base_of_none joined [] none = refl
base_of_none joined (name ∷ chain) none = absurd (omega arith)

-- those after the first deposit, and then after the later ones
pub base_of_chain : (joined : Name → List ℕ) (first : Name) (later : List Name) → all_then (base_at (joined first ∷ [])) (map joined later) ≡ base_at (map joined (first ∷ later))
unfolding base_at
base_of_chain joined first later = refl
