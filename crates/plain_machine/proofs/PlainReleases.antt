-- What the plain program does of a release is the machine's.
use Rattle.std.proofs.Common.{◌≡◌, ℕ, List, [], ◌∷◌, ◌++◌, length, Option, Some, None, Bool, true, false, ◌&&◌, cond, map, refl, sym, ◌∙◌, ap, find, is_none, is_some, take, get_or, ◌<◌, ◌≤◌, ◌+◌, ◌-◌, drop, arith}
use Rattle.std.specs.Prelude.{option_map, bytes_eq}
use Rattle.std.specs.Option.{IfSome}
use Rattle.std.proofs.lemmas.Bool.{and_parts}
use Rattle.std.proofs.lemmas.List.{take_more, take_rest}
use Rattle.std.proofs.lemmas.List.Elements.{filter_map-append}
use Rattle.std.specs.List.{cons_option, filter, filter_map}
use Rattle.std.specs.FinMap.{entries, from_entries, get, insert}
use Rattle.std.specs.Option.{option_and_then}
use Rattle.std.proofs.lemmas.Map.Lookups.{exact_bytes}
use Rattle.deposit_name.specs.declared.kinds.Kind.{Kind}
use Rattle.deposit_name.specs.Name.{name_text}
use Rattle.desk.specs.declared.grounds.Ground.{Ground}
use Rattle.desk.specs.declared.notices.Notice as desk
use Rattle.custody_records.specs.declared.releases.Release as given
use Rattle.custody_records.specs.Keys.{NoticeKey, PartKey, notice_cmp, part_cmp, text_cmp}
use Rattle.custody_records.specs.inside.Orders.{part_exact, part_total, text_total}
use Rattle.custody_records.specs.Records as kept_in
use Rattle.custody_records.specs.Records.{Notice, key_of, name_of}
use Rattle.custody_records.specs.Tables.{row_entries, is_rising, table_map}
use Rattle.custody_records.specs.TypedRecords.{notice_key, notice_value, release_entry, release_value}
use Rattle.custody_records.proofs.FieldLemmas.{find_passes}
use Rattle.custody_records.proofs.TableLemmas.{empty_table, entries-table_map}
use Rattle.custody_machine.specs.MapValues.{map_entries, map_values}
use Rattle.custody_machine.specs.State.{State, Part}
use Rattle.custody_machine.specs.declared.answers.Refusal.{Refusal}
use Rattle.custody_machine.specs.Machine.{Release, OfRelease, Accept, first_refusal, held_name, is_on_ground, kept_release, release_of, release_tests, release_step, step, held_names, told_notice, notices_told_to, state_with_release}
use Rattle.custody_machine.proofs.Accepting.{step_none, step_refuses}
use Rattle.custody_machine.proofs.MapValues.{entries-map_values, map_values-empty, map_values-insert}
use Rattle.custody_machine.proofs.Released.{none_stand_for, released_by}
use Rattle.custody_machine.proofs.SameValues.{key_decides, text_decides}
use Rattle.plain_machine.specs.declared.state.PlainAnswer.TheVariants as answer
use Rattle.plain_machine.specs.declared.state.PlainPart.{PlainPart}
use Rattle.plain_machine.specs.declared.listing.ListedPart.{ListedPart}
use Rattle.plain_machine.specs.inside.Listing.{listed_entry, listed_key, listed_name, listed_value, listing_view, listed_value_of}
use Rattle.plain_machine.specs.DistinctPlaces.{have_distinct_places, is_at_key}
use Rattle.plain_machine.specs.Plain.{IsPlainStep, is_to, is_under, plain_part_entry}
use Rattle.plain_machine.proofs.PlainMaps.{shows}
use Rattle.plain_machine.proofs.PlainSteps.{pushed}

-- ---- releases that are kept

pub release_shows : (reference : List ℕ) (es : List given.Release) → get (from_entries {R = text_cmp} (map release_entry es)) reference ≡ option_map release_value (find (is_under reference) es)
release_shows = shows text_total exact_bytes release_entry is_under (λ q e. text_decides e.reference q)

pub release_pushed : (es : List given.Release) (r : given.Release) → get (from_entries {R = text_cmp} (map release_entry es)) r.reference ≡ None → from_entries {R = text_cmp} (map release_entry (es ++ r ∷ [])) ≡ insert (from_entries (map release_entry es)) r.reference (release_value r)
release_pushed = pushed text_total exact_bytes release_entry

-- one that is found has the reference
pub found_under : {A : Type 0} (as_given : A → given.Release) (reference : List ℕ) (es : List given.Release) (o : Option A) → option_map as_given o ≡ find (is_under reference) es → IfSome o (λ r. (as_given r).reference ≡ reference)
found_under as_given reference es None is = tt
found_under as_given reference es (Some r) is = (text_decides (as_given r).reference reference).0 (find_passes (is_under reference) es (as_given r) (sym is))

-- ---- the notices of a registry

pub rows_to : (tld : List ℕ) (rows : List desk.Notice) → is_rising notice_cmp notice_key rows ≡ true → filter (is_to tld) rows ≡ notices_told_to (table_map notice_cmp notice_key notice_value rows) tld
rows_to tld rows rising = as_told rows ∙ ap (λ es. map told_notice (filter (λ (entry : NoticeKey × Notice). bytes_eq entry.0.tld tld) es)) (sym (entries-table_map notice_cmp notice_key notice_value rows rising))
  where
    as_told : (rows : List desk.Notice) → filter (is_to tld) rows ≡ map told_notice (filter (λ (entry : NoticeKey × Notice). bytes_eq entry.0.tld tld) (row_entries notice_key notice_value rows))
    as_told [] = refl
    as_told (n ∷ rows) = by (is_to tld n) (as_told rows)
      where
        told : List (NoticeKey × Notice)
        told = filter (λ (entry : NoticeKey × Notice). bytes_eq entry.0.tld tld) (row_entries notice_key notice_value rows)

        by : (b : Bool) → filter (is_to tld) rows ≡ map told_notice told → cond b (n ∷ filter (is_to tld) rows) (filter (is_to tld) rows) ≡ map told_notice (cond b ((notice_key n, notice_value n) ∷ told) told)
        by true rest = ap (λ (l : List desk.Notice). n ∷ l) rest
        by false rest = rest

-- ---- the names that are held

-- what is listed of each part
listed_parts : (parts : List PlainPart) → from_entries {R = part_cmp} (map listed_entry parts) ≡ map_values listed_value_of (from_entries (map plain_part_entry parts))
listed_parts [] = sym (map_values-empty part_cmp listed_value_of part_total part_exact)
listed_parts (p ∷ parts) =
    ap (λ m. insert m (listed_entry p).0 (listed_entry p).1) (listed_parts parts)
    ∙ sym (map_values-insert part_cmp listed_value_of part_total part_exact (from_entries (map plain_part_entry parts)) (plain_part_entry p).0 (plain_part_entry p).1)

listed_shows : (key : PartKey) (parts : List PlainPart) → get (from_entries {R = part_cmp} (map listed_entry parts)) key ≡ option_map (λ p. (listed_entry p).1) (find (is_at_key key) parts)
listed_shows = shows part_total part_exact listed_entry is_at_key (λ q e. key_decides (key_of e.name) q)

-- the place of a part is free among those behind it
pub place_free : (p : PlainPart) (parts : List PlainPart) (rows : List ListedPart) (l : ListedPart) → have_distinct_places (p ∷ parts) ≡ true → listing_view rows ≡ from_entries (map listed_entry parts) → (listed_key l, listed_value l) ≡ listed_entry p
    → get (listing_view rows) (key_of l.name) ≡ None
place_free p parts rows l once is of_part =
    ap (λ m. get m (key_of l.name)) is
    ∙ ap (λ (e : PartKey × (Kind × Bool)). get (from_entries {R = part_cmp} (map listed_entry parts)) e.0) of_part
    ∙ listed_shows (key_of p.name) parts
    ∙ free (find (is_at_key (key_of p.name)) parts) (and_parts (is_none (find (is_at_key (key_of p.name)) parts)) (have_distinct_places parts) once).0
  where
    free : (o : Option PlainPart) → is_none o ≡ true → option_map (λ p. (listed_entry p).1) o ≡ None
    free None e = refl
    free (Some q) e = let clash : false ≡ true = e in cc

-- a list by its first item and the rest
pub front : {X : Type 0} (items : List X) (x : X) → 1 ≤ length items → x ≡ get_or items 0 x → x ∷ take (length items - 1) (drop 1 items) ≡ items
front [] x some is = absurd (omega arith)
front {X} (y ∷ items) x some is = ap (λ (rest : List X). x ∷ rest) (take_rest (y ∷ items) 1) ∙ ap (λ (first : X). first ∷ items) is

pub none_listed : (parts : List PlainPart) → length parts < 1 → listing_view [] ≡ from_entries (map listed_entry parts)
none_listed [] none = empty_table part_cmp listed_key listed_value
none_listed (p ∷ parts) none = absurd (omega arith)

-- the names of the rows, with one row more
pub next_listed : (tld : List ℕ) (rows : List ListedPart) (i : ℕ) (l : ListedPart) (names next : List (List ℕ)) → i < length rows → l ≡ get_or rows i l → names ≡ filter_map (listed_name tld) (take i rows)
    → next ≡ names ++ cons_option (listed_name tld l) [] → next ≡ filter_map (listed_name tld) (take (i + 1) rows)
next_listed tld rows i l names next lt at so_far more =
    more
    ∙ ap (λ listed. listed ++ cons_option (listed_name tld l) []) so_far
    ∙ sym (filter_map-append (listed_name tld) (take i rows) (l ∷ []))
    ∙ ap (filter_map (listed_name tld)) (sym (take_more rows i l lt ∙ ap (λ (r : ListedPart). take i rows ++ r ∷ []) (sym at)))

-- the name that an entry lists
abbrev name_in : List ℕ → PartKey × (Kind × Bool) → Option (List ℕ)
name_in tld e = cond (bytes_eq e.0.tld tld && e.1.1) (Some (name_text (name_of e.0 e.1.0))) None

names_of_entries : (tld : List ℕ) (es : List (PartKey × Part)) → filter_map (name_in tld) (map_entries listed_value_of es) ≡ filter_map (held_name tld) es
names_of_entries tld [] = refl
names_of_entries tld (e ∷ es) = ap (cons_option (held_name tld e)) (names_of_entries tld es)

names_of_rows : (tld : List ℕ) (rows : List ListedPart) → filter_map (listed_name tld) rows ≡ filter_map (name_in tld) (row_entries listed_key listed_value rows)
names_of_rows tld [] = refl
names_of_rows tld (l ∷ rows) = ap (cons_option (listed_name tld l)) (names_of_rows tld rows)

-- the rows of all parts have the entries of these
pub listed_entries : (parts : List PlainPart) (rows : List ListedPart) → is_rising part_cmp listed_key rows ≡ true → listing_view rows ≡ from_entries (map listed_entry parts)
    → row_entries listed_key listed_value rows ≡ map_entries listed_value_of (entries (from_entries {R = part_cmp} (map plain_part_entry parts)))
listed_entries parts rows rising is =
    sym (entries-table_map part_cmp listed_key listed_value rows rising) ∙ ap entries (is ∙ listed_parts parts) ∙ entries-map_values part_cmp listed_value_of (from_entries (map plain_part_entry parts))

pub names_listed : (tld : List ℕ) (parts : List PlainPart) (rows : List ListedPart) → is_rising part_cmp listed_key rows ≡ true → listing_view rows ≡ from_entries (map listed_entry parts)
    → filter_map (listed_name tld) rows ≡ filter_map (held_name tld) (entries (from_entries {R = part_cmp} (map plain_part_entry parts)))
names_listed tld parts rows rising is =
    names_of_rows tld rows
    ∙ ap (filter_map (name_in tld)) (listed_entries parts rows rising is)
    ∙ names_of_entries tld (entries (from_entries (map plain_part_entry parts)))

-- ---- what is answered

module _ (s : State) (reference tld : List ℕ) (reason : Ground) (now : ℕ) where
  pub refuses_release : (q : Refusal) → first_refusal (release_tests s reference tld reason now) ≡ Some q → IsPlainStep (answer.Refused q) s s (step s (Release reference tld reason) now)
  refuses_release q e = (step_refuses s (Release reference tld reason) now q e, refl)

  ruled_release : (o : Option kept_in.Release) → first_refusal (release_tests s reference tld reason now) ≡ None → kept_release s reference tld reason ≡ o → step s (Release reference tld reason) now ≡ released_by s reference tld reason now o
  ruled_release o none e = step_none s (Release reference tld reason) now none ∙ ap (released_by s reference tld reason now) e

  -- where none is refused, the one of the reference is the one that is kept
  kept_is : (o : Option kept_in.Release) → first_refusal (release_tests s reference tld reason now) ≡ None → release_of s reference ≡ o → kept_release s reference tld reason ≡ o
  kept_is None none at = ap (option_and_then (λ (release : kept_in.Release). cond (is_on_ground tld reason release) (Some release) None)) at
  kept_is (Some release) none at = here ∙ by (is_on_ground tld reason release) (ap (λ o. is_some o && is_none (kept_release s reference tld reason)) (sym at) ∙ (none_stand_for s reference tld reason now none).used) here
    where
      here : kept_release s reference tld reason ≡ cond (is_on_ground tld reason release) (Some release) None
      here = ap (option_and_then (λ (release : kept_in.Release). cond (is_on_ground tld reason release) (Some release) None)) at

      by : (b : Bool) → is_none (kept_release s reference tld reason) ≡ false → kept_release s reference tld reason ≡ cond b (Some release) None → cond b (Some release) None ≡ Some release
      by true used h = refl
      by false used h = let clash : true ≡ false = sym (ap is_none h) ∙ used in cc

  pub repeats_release : (r : given.Release) → first_refusal (release_tests s reference tld reason now) ≡ None → release_of s reference ≡ Some (release_value r) → r.reference ≡ reference
      → IsPlainStep (answer.Release r.reference r.tld r.reason r.at (length r.names) true) s s (step s (Release reference tld reason) now)
  repeats_release r none at is =
      (r.names, ruled_release (Some (release_value r)) none (kept_is (Some (release_value r)) none at) ∙ ap (λ t. Accept (record { entry = OfRelease t (release_value r); is_repeat = true }) s) (sym is), refl)

  pub releases_new : (names : List (List ℕ)) (new : State) → first_refusal (release_tests s reference tld reason now) ≡ None → release_of s reference ≡ None → names ≡ held_names s tld
      → new ≡ state_with_release s reference (record { tld = tld; reason = reason; at = now; names = names }) → IsPlainStep (answer.Release reference tld reason now (length names) false) s new (step s (Release reference tld reason) now)
  releases_new names new none at is then = (
    names,
    ruled_release None none (kept_is None none at) ∙ ap (λ (l : List (List ℕ)). release_step s reference (record { tld = tld; reason = reason; at = now; names = l })) (sym is)
        ∙ ap (Accept (record { entry = OfRelease reference (record { tld = tld; reason = reason; at = now; names = names }); is_repeat = false })) (sym then),
    refl,
  )
