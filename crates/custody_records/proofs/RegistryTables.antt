-- A table by registry, at the place of a registry: what it has, and what a change there makes of the whole.
use Rattle.std.proofs.Common.{◌≡◌, ℕ, ◌<◌, ◌≤◌, List, length, length-set, get_or, get_or-set_same, set, Bool, true, false, cond, Option, Some, None, Ok, Err, refl, sym, ◌∙◌, ap, subst, arith}
use Rattle.std.specs.Prelude.{option_map, flat_map, IsSome, OnOk, OnErr, Result}
use Rattle.std.specs.List as list
use Rattle.std.specs.List.{Contains, filter}
use Rattle.std.specs.List.Sorted.{IsBinarySearchResult}
use Rattle.std.specs.Ordering.{is_eq, eq_by_cmp}
use Rattle.std.specs.declared.cmp.Ordering.{Ordering}
use Rattle.std.specs.declared.cmp.Ordering.TheVariants.{Less, Equal}
use Rattle.std.specs.Cmp.{Equal-is, IsTotalOrder}
use Rattle.std.specs.FinMap.{FinMap, IsAntisymmetric, entries, get, insert, empty, get-insert, get-empty}
use Rattle.std.proofs.lemmas.Cmp.{tied_itself}
use Rattle.std.proofs.lemmas.List.Edits.{length-insert, get_or-insert_at}
use Rattle.custody_records.specs.declared.tables.Keyed as keyed
use Rattle.custody_records.specs.declared.tables.OfRegistry as of_registry
use Rattle.custody_records.specs.declared.tables.SortedRows.{SortedRows}
use Rattle.custody_records.specs.declared.registry_rows.RegistryRows.{RegistryRows}
use Rattle.custody_records.specs.declared.registry_rows.RowsByRegistry.{RowsByRegistry}
use Rattle.custody_records.specs.Keys.{text_cmp}
use Rattle.custody_records.specs.Tables.{HasRoom, is_rising, table_map}
use Rattle.custody_records.specs.RegistryRows.{all_rows, HasRoomOf}
use Rattle.custody_records.specs.inside.Orders.{text_total, text_exact}
use Rattle.custody_records.proofs.TableLemmas.{row_at, get_table, found_at, absent_at, added_at, not_both, rising_added, rising_tried, map_added, rising_replaced, map_replaced}
use Rattle.custody_records.proofs.RegistryLemmas.{flat_rising, get_whole, value_in, group_whole, entries_in, whole_inserted, whole_kept, whole_widened}

pub on_ok : {A E P Q : Type 0} (result : Result A E) → (P → Q) → OnOk result P → OnOk result Q
on_ok (Ok value) then it = then it
on_ok (Err e) then it = tt

pub on_err : {A E P Q : Type 0} (result : Result A E) → (P → Q) → OnErr result P → OnErr result Q
on_err (Ok value) then it = tt
on_err (Err e) then it = then it

pub always_on_err : {A E P : Type 0} (result : Result A E) → P → OnErr result P
always_on_err (Ok value) it = tt
always_on_err (Err e) it = it

module _ {T K : Type 0} {r : of_registry.Ghosts T K} {k : keyed.Ghosts T K} (o : IsTotalOrder k.order) (exact : IsAntisymmetric k.order)
    (by_registry : (a b : K) → text_cmp (r.registry_of a) (r.registry_of b) ≡ Less → k.order a b ≡ Less) (table : RowsByRegistry T K r k) where
  abbrev Registry : Type 0
  Registry = RegistryRows T K r k

  abbrev Map : Type 0
  Map = FinMap k.order k.Value

  abbrev tld_of : Registry → List ℕ
  tld_of registry = registry.tld

  abbrev rows_of : Registry → List T
  rows_of registry = registry.rows.rows.items

  abbrev map_of : Registry → Map
  map_of registry = table_map k.order k.key_of k.value_of (rows_of registry)

  abbrev registries : List Registry
  registries = table.registries.items

  named : {tld : List ℕ} (registry : Registry) (j : ℕ) → get_or registries j registry ≡ registry → registry.tld ≡ tld → text_cmp (tld_of (get_or registries j registry)) tld ≡ Equal
  named {tld} registry j at same = ap (λ (it : Registry). text_cmp it.tld tld) at ∙ ap (λ t. text_cmp t tld) same ∙ tied_itself text_total tld

  inside_some : (a b : Registry) → Some a ≡ Some b → a ≡ b
  inside_some a b e = cc

  -- the tables of the registries
  abbrev pub tables : FinMap text_cmp Map
  tables = table_map text_cmp tld_of map_of registries

  abbrev pub whole : RowsByRegistry T K r k → Map
  whole it = table_map k.order k.key_of k.value_of (all_rows it)

  pub all_rising : is_rising k.order k.key_of (all_rows table) ≡ true
  all_rising = flat_rising k.order k.key_of k.value_of o exact tld_of rows_of r.registry_of (λ g. g.rows.rising) (λ g. g.own) by_registry registries table.rising

  -- ---- what is found

  pub found_in : (key : K) (found : Option Map) → found ≡ get tables (r.registry_of key) → value_in key found ≡ get (whole table) key
  found_in key found is = ap (value_in key) is ∙ sym (get_whole k.order k.key_of k.value_of o exact tld_of rows_of r.registry_of (λ g. g.rows.rising) (λ g. g.own) by_registry registries key table.rising)

  pub group_in : (place : K → Ordering) (tld : List ℕ) → ((key : K) → place key ≡ Equal → r.registry_of key ≡ tld) → (found : Option Map) → found ≡ get tables tld
      → entries_in (λ e. is_eq (place e.0)) found ≡ filter (λ e. is_eq (place e.0)) (entries (whole table))
  group_in place tld of_one found is =
      ap (entries_in (λ e. is_eq (place e.0))) is
      ∙ sym (group_whole k.order k.key_of k.value_of o exact tld_of rows_of r.registry_of (λ g. g.rows.rising) (λ g. g.own) by_registry (λ e. is_eq (place e.0)) tld (λ e tied. of_one e.0 ((Equal-is (place e.0)).0 tied)) registries table.rising)

  -- ---- where a registry has a table

  module _ (tld : List ℕ) (place : ℕ) (registry : Registry) (within : place < length registries) (tied : (d : Registry) → text_cmp (get_or registries place d).tld tld ≡ Equal) (is : registry ≡ get_or registries place registry) where
    pub own_tld : registry.tld ≡ tld
    own_tld = text_exact registry.tld tld (ap (λ (it : Registry). text_cmp it.tld tld) is ∙ tied registry)

    at_place : row_at text_cmp tld_of registries tld ≡ Some registry
    at_place = found_at text_cmp tld_of text_total registries tld place registry table.rising within (tied registry) ∙ ap Some (sym is)

    pub table_at : get tables tld ≡ Some (map_of registry)
    table_at = get_table text_cmp tld_of map_of registries tld table.rising ∙ ap (option_map map_of) at_place

    pub get_at : (key : K) → r.registry_of key ≡ tld → get (whole table) key ≡ get (map_of registry) key
    get_at key of_it = sym (found_in key (Some (map_of registry)) (sym table_at ∙ ap (get tables) (sym of_it)))

    pub room_at : HasRoomOf tld table → HasRoom registry.rows.rows
    room_at (other, (j, inside, at), same, room) =
        let there = found_at text_cmp tld_of text_total registries tld j other table.rising inside (named other j at same) in
        let only : Some other ≡ Some registry = ap Some (sym at) ∙ sym there ∙ at_place in
        subst (λ (it : Registry). HasRoom it.rows.rows) (inside_some other registry only) room

    -- ---- and another in its place

    module _ (changed : Registry) (same : changed.tld ≡ registry.tld) where
      pub rising_set : is_rising text_cmp tld_of (set registries place changed) ≡ true
      rising_set = rising_replaced text_cmp tld_of text_total text_exact registries (set registries place changed) changed place refl within (λ d. ap (text_cmp (get_or registries place d).tld) (same ∙ own_tld) ∙ tied d) table.rising

      tables_set : (m : Map) → map_of changed ≡ m → table_map text_cmp tld_of map_of (set registries place changed) ≡ insert tables tld m
      tables_set m is_map =
          map_replaced text_cmp tld_of text_total text_exact registries (set registries place changed) changed place refl within (λ d. ap (text_cmp (get_or registries place d).tld) (same ∙ own_tld) ∙ tied d) table.rising map_of
          ∙ ap (λ t. insert tables t (map_of changed)) (same ∙ own_tld) ∙ ap (insert tables tld) is_map

      pub whole_set : (key : K) (v : k.Value) → r.registry_of key ≡ tld → map_of changed ≡ insert (map_of registry) key v → table_map k.order k.key_of k.value_of (flat_map rows_of (set registries place changed)) ≡ insert (whole table) key v
      whole_set key v of_it is_map =
          whole_inserted k.order k.key_of k.value_of o exact tld_of rows_of r.registry_of (λ g. g.rows.rising) (λ g. g.own) by_registry registries (set registries place changed) table.rising rising_set tld (map_of registry) key v of_it table_at (tables_set (insert (map_of registry) key v) is_map)

      pub room_set : HasRoom changed.rows.rows → (it : Registry) × Contains (set registries place changed) it × (it.tld ≡ tld) × HasRoom it.rows.rows
      room_set room = let long = length-set registries place changed in (changed, (place, omega (arith, long), get_or-set_same registries place changed changed within), same ∙ own_tld, room)

      pub whole_same : map_of changed ≡ map_of registry → table_map k.order k.key_of k.value_of (flat_map rows_of (set registries place changed)) ≡ whole table
      whole_same is_map =
          whole_kept k.order k.key_of k.value_of o exact tld_of rows_of r.registry_of (λ g. g.rows.rising) (λ g. g.own) by_registry registries (set registries place changed) table.rising rising_set tld (map_of registry) table_at (tables_set (map_of registry) is_map)

  pub own_bare : (rows : SortedRows T K k) (tld : List ℕ) → table_map k.order k.key_of k.value_of rows.rows.items ≡ empty → (q : K) → IsSome (get (table_map k.order k.key_of k.value_of rows.rows.items) q) → r.registry_of q ≡ tld
  own_bare rows tld bare q some = let clash = subst IsSome (ap (λ (m : Map). get m q) bare ∙ get-empty k.order q) some in cc

  -- a row more, or one in the place of another, is of the registry too
  pub own_inserted : (registry : Registry) (rows : SortedRows T K k) (key : K) (v : k.Value) → r.registry_of key ≡ registry.tld → table_map k.order k.key_of k.value_of rows.rows.items ≡ insert (map_of registry) key v
      → (q : K) → IsSome (get (table_map k.order k.key_of k.value_of rows.rows.items) q) → r.registry_of q ≡ registry.tld
  own_inserted registry rows key v of_it is_map q some = by (eq_by_cmp k.order q key) refl (subst IsSome (ap (λ (m : Map). get m q) is_map ∙ get-insert o (map_of registry) key v q) some)
    where
      by : (b : Bool) → eq_by_cmp k.order q key ≡ b → IsSome (cond b (Some v) (get (map_of registry) q)) → r.registry_of q ≡ registry.tld
      by true tied there = ap r.registry_of (exact q key ((Equal-is (k.order q key)).0 tied)) ∙ of_it
      by false apart there = registry.own q there

  -- ---- where a registry has no table

  module _ (tld : List ℕ) (place : ℕ) (found : IsBinarySearchResult (λ g. text_cmp g.tld tld) registries (Err place)) where
    pub absent_table : get tables tld ≡ None
    absent_table = get_table text_cmp tld_of map_of registries tld table.rising ∙ ap (option_map map_of) (absent_at text_cmp tld_of text_total registries table.rising tld place found)

    pub no_room : ¬ HasRoomOf tld table
    no_room (registry, (j, within, at), same, room) =
        let there = found_at text_cmp tld_of text_total registries tld j registry table.rising within (named registry j at same) in
        not_both (row_at text_cmp tld_of registries tld) (get_or registries j registry) there (absent_at text_cmp tld_of text_total registries table.rising tld place found)

    -- ---- and one without rows is put in

    pub rising_wider : (fresh : Registry) → tld ≡ fresh.tld → (new : List Registry) (is_put : Bool) → new ≡ cond is_put (list.insert registries place fresh) registries → is_rising text_cmp tld_of new ≡ true
    rising_wider fresh same new is_put is = rising_tried text_cmp tld_of text_total registries table.rising fresh tld place new is_put same found is

    pub room_wider : (fresh : Registry) → tld ≡ fresh.tld → HasRoom fresh.rows.rows → (new : List Registry) → new ≡ list.insert registries place fresh → place ≤ length registries
        → (it : Registry) × Contains new it × (it.tld ≡ tld) × HasRoom it.rows.rows
    room_wider fresh same room new is within =
        let long = ap length is ∙ length-insert registries place fresh within in
        (fresh, (place, omega (arith, long), ap (λ (l : List Registry). get_or l place fresh) is ∙ get_or-insert_at registries place fresh fresh within), sym same, room)

    module _ (fresh : Registry) (same : tld ≡ fresh.tld) (bare : map_of fresh ≡ empty) where
      pub whole_wider : table_map k.order k.key_of k.value_of (flat_map rows_of (list.insert registries place fresh)) ≡ whole table
      whole_wider =
          let added = added_at text_cmp tld_of text_total registries table.rising fresh tld place (list.insert registries place fresh) same found refl in
          whole_widened k.order k.key_of k.value_of o exact tld_of rows_of r.registry_of (λ g. g.rows.rising) (λ g. g.own) by_registry registries (list.insert registries place fresh) table.rising (rising_added text_cmp tld_of text_total added table.rising) tld absent_table
          (map_added text_cmp tld_of text_total added table.rising map_of ∙ ap (λ t. insert tables t (map_of fresh)) (sym same) ∙ ap (insert tables tld) bare)
