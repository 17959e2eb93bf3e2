-- All tables after a later deposit of a chain.
use Rattle.std.proofs.Common.{◌≡◌, ◌⊎◌, ◌<◌, ◌+◌, ◌-◌, ◌++◌, ◌∷◌, ◌∙◌, [], ℕ, Bool, List, Option, Some, None, ap, arith, cond, false, get_or, inl, inr, length, map, option_and_then, refl, subst, sym, true, ◌==◌}
use Rattle.std.specs.Prelude.{MatchOption}
use Rattle.std.proofs.lemmas.Bool.Decides.{Decides-eqb}
use Rattle.std.proofs.lemmas.List.{get_or_append_left, get_or-append_right, get_or_default, length-map}
use Rattle.deposit_name.proofs.KindLemmas.{same_kind_decides}
use Rattle.deposit_name.specs.declared.kinds.Kind.TheVariants.{Full}
use Rattle.deposit_name.specs.declared.table.TableName.{TableName}
use Rattle.dnrd_csv.specs.Readers.{IsTableReader}
use Rattle.dnrd_csv.specs.Table.{HaveWidth, columns_of, key_columns_of}
use Rattle.envelope.specs.Readers.{AreReaders}
use Rattle.envelope.specs.declared.envelope.FileEntry.{FileEntry}
use Rattle.deposit_verify.specs.Bases.{DepositReading, after_first, after_later, base_after, base_of_first, base_then, no_keys, reading_at}
use Rattle.deposit_verify.specs.Chain.{IsBase, IsFirstOfChain, IsLaterOfChain}
use Rattle.deposit_verify.specs.Deposit.{contents_files}
use Rattle.deposit_verify.specs.Places.{all_tables, table_place}
use Rattle.deposit_verify.specs.Rows.{rows_under}
use Rattle.deposit_verify.specs.Tables.{AreAllTables, table_of}
use Rattle.deposit_verify.specs.Verdict.{is_full, rows_at, tables_at}
use Rattle.deposit_verify.specs.declared.base.Base.{Base}
use Rattle.deposit_verify.specs.inside.Reading.{OneReading}
use Rattle.deposit_verify.proofs.BaseLemmas.{first_law, reading_found, then_law}
use Rattle.deposit_verify.proofs.FilesDecided.{each_parts}
use Rattle.deposit_verify.proofs.HeaderDecided.{same_place}
use Rattle.deposit_verify.proofs.Judged.{all_tables_right}
use Rattle.deposit_pack.proofs.EnvelopeLemmas.{all_named, under_entries}
use Rattle.deposit_tables.specs.Restored.{HasRowsOf}
use Rattle.deposit_tables.specs.RowsAfter.{renewed_by, deposit_rows, tables_after}
use Rattle.deposit_tables.proofs.Computed.{tables_are}
use Rattle.deposit_tables.proofs.Decisions.{Rows}
use Rattle.deposit_tables.proofs.RowsKept.{after_wide}

-- tables that are read have their columns
under_wide : IsTableReader → (name : TableName) (es : List FileEntry) (fs : List (List ℕ)) (ts : List Rows) → tables_at es fs ≡ Some ts → HaveWidth (length (columns_of name)) (rows_under es ts name)
under_wide reader name [] fs ts whole = λ k d inside. absurd (omega (arith, inside))
under_wide reader name (e ∷ es) fs [] whole = λ k d inside. absurd (omega (arith, inside))
under_wide reader name (e ∷ es) [] (t ∷ ts) whole = cc whole
under_wide reader name (e ∷ es) (f ∷ fs) (t ∷ ts) whole = by (table_place e.name == table_place name) refl (under_wide reader name es fs ts parts.1)
  where
    parts : (rows_at e f ≡ Some t) × (tables_at es fs ≡ Some ts)
    parts = each_parts rows_at e es f fs t ts whole

    by : (b : Bool) → (table_place e.name == table_place name) ≡ b → HaveWidth (length (columns_of name)) (rows_under es ts name) → HaveWidth (length (columns_of name)) (cond b t (rows_under es ts name))
    by true same rest =
        let named : e.name ≡ name = same_place e.name name ((Decides-eqb (table_place e.name) (table_place name)).0 same) in
        subst (λ (n : TableName). HaveWidth (length (columns_of n)) t) named ((reader.some (columns_of e.name) (key_columns_of e.name) f t).0 parts.0).columns_right
    by false same rest = rest

-- this holds of the tables, or lists of keys, at the places so far, and of one more
abbrev pub HoldsSoFar : {X : Type 0} → List (List X) → (TableName → List X → Type 0) → ℕ → Type 0
HoldsSoFar tables P place = (name : TableName) → table_place name < place → P name (get_or tables (table_place name) [])

pub holds_more : {X : Type 0} (tables : List (List X)) (P : TableName → List X → Type 0) (place : ℕ) (name : TableName) (rows : List X) → length tables ≡ place → HoldsSoFar tables P place → table_place name ≡ place → P name rows
    → HoldsSoFar (tables ++ rows ∷ []) P (place + 1)
holds_more tables P place name rows size so_far here holds other below = by (tell (table_place other) place)
  where
    tell : (m n : ℕ) → (m < n) ⊎ ((m ≡ n) ⊎ (n < m))
    tell m n = grind arith

    last : table_place other ≡ place → P other (get_or (tables ++ rows ∷ []) (table_place other) [])
    last same =
        let equal : name ≡ other = same_place name other (here ∙ sym same) in
        let zero : table_place other - place ≡ 0 = omega (arith, same) in
        let is : get_or (tables ++ rows ∷ []) (table_place other) [] ≡ rows = get_or-append_right tables (rows ∷ []) place (table_place other) [] size (omega (arith, same)) ∙ ap (λ (k : ℕ). get_or (rows ∷ []) k []) zero in
        subst (P other) (sym is) (subst (λ (n : TableName). P n rows) equal holds)

    by : (table_place other < place) ⊎ ((table_place other ≡ place) ⊎ (place < table_place other)) → P other (get_or (tables ++ rows ∷ []) (table_place other) [])
    by (inl before) = subst (P other) (sym (get_or_append_left tables (rows ∷ []) [] (table_place other) (omega (arith, before, size)))) (so_far other before)
    by (inr (inl same)) = last same
    by (inr (inr above)) = absurd (omega (arith, above, below))

-- the table at a place is the one of its name
pub at_place : (before : List Rows) (name : TableName) (place : ℕ) (rows : Rows) → length before ≡ 8 → place < 8 → table_place name ≡ place → rows ≡ get_or before place rows → rows ≡ table_of before name
at_place before name place rows eight below here is =
    let inside : place < length before = omega (arith, eight, below) in
    is ∙ get_or_default before place rows [] inside ∙ ap (λ (k : ℕ). get_or before k []) (sym here)

pub place_below : (name : TableName) → table_place name < 8
place_below name = (all_tables_right name name).0

module _ (readers : AreReaders) (reader : IsTableReader) (one : OneReading) (joined : List ℕ) where
  base_first : (found : Option Base) → base_of_first joined ≡ found → MatchOption found (¬ IsFirstOfChain joined) (IsBase (joined ∷ []))
  base_first found is = subst (λ (b : Option Base). MatchOption b (¬ IsFirstOfChain joined) (IsBase (joined ∷ []))) is (first_law readers reader one joined)

  pub not_first : reading_at joined ≡ None → ¬ IsFirstOfChain joined
  not_first none = base_first None (ap (option_and_then after_first) none)

  pub not_read : reading_at joined ≡ None → ¬ IsLaterOfChain joined
  not_read none later =
      let e : cond false (Some no_keys) None ≡ base_then no_keys joined = sym (ap (option_and_then (after_later no_keys)) none) in
      let law = then_law readers reader one joined no_keys no_keys false e in
      let clash : false ≡ true = law.0.1 later in cc clash

  module _ (r : DepositReading) (at : reading_at joined ≡ Some r) where
    abbrev kind_full : Bool
    kind_full = is_full r.envelope.kind

    then_is : (b : Bool) → kind_full ≡ b → base_then no_keys joined ≡ cond b None (Some (base_after no_keys r))
    then_is b is = ap (option_and_then (after_later no_keys)) at ∙ ap (λ (f : Bool). cond f None (Some (base_after no_keys r))) is

    first_is : (b : Bool) → kind_full ≡ b → base_of_first joined ≡ cond b (Some (base_after no_keys r)) None
    first_is b is = ap (option_and_then after_first) at ∙ ap (λ (f : Bool). cond f (Some (base_after no_keys r)) None) is

    pub is_first : kind_full ≡ true → IsFirstOfChain joined
    is_first full = (base_first (Some (base_after no_keys r)) (first_is true full)).chained.0

    pub not_full : kind_full ≡ false → ¬ IsFirstOfChain joined
    not_full partial = base_first None (first_is false partial)

    pub not_partial : kind_full ≡ true → ¬ IsLaterOfChain joined
    not_partial full later =
        let law = then_law readers reader one joined no_keys no_keys false (sym (then_is true full)) in
        let clash : false ≡ true = law.0.1 later in cc clash

    pub is_later : kind_full ≡ false → IsLaterOfChain joined
    is_later partial = (then_law readers reader one joined no_keys (base_after no_keys r) true (sym (then_is false partial))).0.0 refl

    pub wide_in : (name : TableName) → HaveWidth (length (columns_of name)) (deposit_rows r name)
    wide_in name = let h = reading_found readers joined r at in under_wide reader name r.envelope.contents (contents_files r.envelope h.files) r.tables h.tables

    -- the tables of a full deposit are those of contents, at their places
    module _ (full : kind_full ≡ true) where
      names : map (λ (e : FileEntry). e.name) r.envelope.contents ≡ all_tables
      names = all_named r.envelope.kind (map (λ (e : FileEntry). e.name) r.envelope.contents) ((same_kind_decides r.envelope.kind Full).0 full) (reading_found readers joined r at).menu.contents

      there : (name : TableName) → deposit_rows r name ≡ table_of r.tables name
      there = under_entries r.envelope.contents r.tables names

      pub full_tables : length r.tables ≡ length r.envelope.contents → AreAllTables r.tables
      full_tables count = record {
        eight = count ∙ sym (length-map r.envelope.contents (λ (e : FileEntry). e.name)) ∙ ap length names;
        columns_right = λ name. subst (HaveWidth (length (columns_of name))) (there name) (wide_in name);
      }

      pub first_rows : HasRowsOf (joined ∷ []) (table_of r.tables)
      first_rows = let path : deposit_rows r ≡ table_of r.tables = λ i name. there name i in subst (HasRowsOf (joined ∷ [])) path ((tables_are readers reader one).first joined r at)

    module _ (before after : List Rows) (all : AreAllTables before) (eight : length after ≡ 8) (each : (name : TableName) → table_of after name ≡ tables_after (table_of before) r name) where
      pub all_after : AreAllTables after
      all_after = record {
        eight = eight;
        columns_right = λ name.
            subst (HaveWidth (length (columns_of name))) (sym (each name))
            (after_wide (length (columns_of name)) (table_of before name) (deposit_rows r name) (renewed_by r name) (all.columns_right name) (wide_in name));
      }

      pub rows_of_chain : (chain : List (List ℕ)) → HasRowsOf chain (table_of before) → HasRowsOf (chain ++ joined ∷ []) (table_of after)
      rows_of_chain chain was =
          let path : tables_after (table_of before) r ≡ table_of after = λ i name. sym (each name) i in
          subst (HasRowsOf (chain ++ joined ∷ [])) path ((tables_are readers reader one).later chain joined r (table_of before) at was)
