-- What the records tell of a release is what the machine decides of it, in their state with any image; and what it lists.
use Rattle.std.proofs.Common.{◌≡◌, ℕ, Vec, Global, List, [], ◌∷◌, ◌++◌, Option, Some, None, Bool, true, false, not, ◌&&◌, cond, refl, sym, ◌∙◌, ap, subst, is_none, is_some, map, take, get_or, length, ◌<◌, ◌+◌}
use Rattle.std.specs.Prelude.{option_map, bytes_eq}
use Rattle.std.specs.List.{cons_option, filter, filter_map, list_all}
use Rattle.std.specs.FinMap.{entries, get}
use Rattle.std.specs.Ordering.{is_eq}
use Rattle.std.specs.Option.{option_and_then}
use Rattle.std.proofs.lemmas.Bool.{and_parts, and_from}
use Rattle.std.proofs.lemmas.List.Elements.{filter_map-append}
use Rattle.std.proofs.lemmas.List.{take_more}
use Rattle.std.proofs.lemmas.Map.Text.{is_eq-slice_cmp}
use Rattle.deposit_name.specs.Name.{IsName, name_text}
use Rattle.deposit_name.proofs.KindLemmas.{same_kind_decides}
use Rattle.extent_map.specs.declared.extent.Extent.{Extent}
use Rattle.desk.specs.Standing.{ground_stands}
use Rattle.desk.specs.declared.grounds.Ground.{Ground}
use Rattle.desk.specs.declared.notices.Notice as desk
use Rattle.custody_records.specs.declared.parts.Part.{Part}
use Rattle.custody_records.specs.Keys.{NoticeKey, PartKey, part_cmp, text_cmp}
use Rattle.custody_records.specs.inside.Orders.{part_total, part_exact}
use Rattle.custody_records.specs.Records as recorded_in
use Rattle.custody_records.specs.Records.{Notice, PartRecord, Records, notices_of, parts_of}
use Rattle.custody_records.specs.Tables.{row_entries}
use Rattle.custody_records.specs.TypedRecords.{notice_key, notice_value, key_of_part, part_value}
use Rattle.custody_machine.specs.StoredState.{is_part_of, is_name_of_part, state_in}
use Rattle.custody_machine.specs.declared.answers.Refusal.TheVariants.{GroundDoesNotStand, ReferenceUsed}
use Rattle.custody_machine.specs.Machine.{Release, OfRelease, first_refusal, is_on_ground, release_tests, told_notice, notices_told_to}
use Rattle.custody_machine.specs.Releases.{AreRecordedNames, held_record_name, held_record_names}
use Rattle.custody_machine.specs.Rulings.{AddsRelease, RefuseRuling, KeptRuling, GoRuling, Decides}
use Rattle.custody_rules.proofs.Ruled.{refuses, repeats}
use Rattle.custody_machine.proofs.Accepting.{read_of, step_none}
use Rattle.custody_machine.proofs.Released.{kept_release_of, release_refusals, released_by}
use Rattle.custody_rules.specs.inside.Links.{each_passes}
use Rattle.custody_rules.specs.inside.Releases.{AreInForm, held_part_name, held_part_names}
use Rattle.custody_rules.proofs.Tables.{all_entries, each_decides, filter_map_kept}

-- ---- how it is judged

module _ (records : Records) (reference tld : List ℕ) (reason : Ground) (now : ℕ) where
  module _ (first : ℕ) (known : get records.registries tld ≡ Some first) where
    -- the refusals of a reference that is recorded, or new
    tests_are : (image : List ℕ) (o : Option recorded_in.Release) → get records.releases reference ≡ o → first_refusal (release_tests (state_in records image) reference tld reason now)
        ≡ release_refusals false (is_none o && not (ground_stands reason (notices_told_to records.notices tld) now)) (is_some o && is_none (option_and_then (λ (release : recorded_in.Release). cond (is_on_ground tld reason release) (Some release) None) o))
    tests_are image o at = λ i. release_refusals (is_none (known i)) (is_none (at i) && not (ground_stands reason (notices_told_to records.notices tld) now))
        (is_some (at i) && is_none (option_and_then (λ (release : recorded_in.Release). cond (is_on_ground tld reason release) (Some release) None) (at i)))

    pub repeats_release : (kept : recorded_in.Release) → get records.releases reference ≡ Some kept → is_on_ground tld reason kept ≡ true → Decides (KeptRuling (OfRelease reference kept)) records (Release reference tld reason) now
    repeats_release kept at on =
        repeats records (Release reference tld reason) now (OfRelease reference kept) refl (λ s none. none)
        (λ image. record { kept = kept; found = kept_release_of (state_in records image) reference tld reason kept at on; made = refl; registry = ap is_none known }) (λ image. tt)

    pub refuses_used : (kept : recorded_in.Release) → get records.releases reference ≡ Some kept → is_on_ground tld reason kept ≡ false → Decides (RefuseRuling ReferenceUsed) records (Release reference tld reason) now
    refuses_used kept at off = refuses records (Release reference tld reason) now ReferenceUsed (λ e. cc) (λ e. cc)
        (λ image. tests_are image (Some kept) at ∙ ap (λ b. release_refusals false false (is_none (cond b (Some kept) None))) off)

    pub refuses_ground : get records.releases reference ≡ None → ground_stands reason (notices_told_to records.notices tld) now ≡ false → Decides (RefuseRuling GroundDoesNotStand) records (Release reference tld reason) now
    refuses_ground new falls = refuses records (Release reference tld reason) now GroundDoesNotStand (λ e. cc) (λ e. cc)
        (λ image. tests_are image None new ∙ ap (λ b. release_refusals false (not b) false) falls)

    pub makes_release : get records.releases reference ≡ None → ground_stands reason (notices_told_to records.notices tld) now ≡ true → Decides (GoRuling (AddsRelease reference tld reason)) records (Release reference tld reason) now
    makes_release new stands = (
      (refl, new),
      λ image. step_none (state_in records image) (Release reference tld reason) now (tests_are image None new ∙ ap (λ b. release_refusals false (not b) false) stands)
          ∙ ap (λ (o : Option recorded_in.Release). released_by (state_in records image) reference tld reason now (option_and_then (λ (release : recorded_in.Release). cond (is_on_ground tld reason release) (Some release) None) o)) new,
    )

-- the rows of a registry's notices are what it was told
pub rows_told : (records : Records) (tld : List ℕ) (rows : List desk.Notice) → row_entries notice_key notice_value rows ≡ notices_of records tld → rows ≡ notices_told_to records.notices tld
rows_told records tld rows is = as_told rows ∙ ap (map told_notice) (is ∙ (λ i. filter (λ (e : NoticeKey × Notice). is_eq-slice_cmp e.0.tld tld i) (entries records.notices)))
  where
    as_told : (rows : List desk.Notice) → rows ≡ map told_notice (row_entries notice_key notice_value rows)
    as_told [] = refl
    as_told (n ∷ rows) = ap (λ (l : List desk.Notice). n ∷ l) (as_told rows)

-- ---- what it lists

-- one part more
pub in_form_more : (parts : List Part) (part : Part) → AreInForm parts → (is_some part.extents ≡ true → IsName part.name) → AreInForm (parts ++ part ∷ [])
in_form_more [] part all one = (one, tt)
in_form_more (p ∷ parts) part all one = (all.0, in_form_more parts part all.1 one)

pub next_part : (parts : List Part) (i : ℕ) (part : Part) (names next : List (List ℕ)) → i < length parts → part ≡ get_or parts i part → names ≡ held_part_names (take i parts) → AreInForm (take i parts)
    → next ≡ names ++ cons_option (held_part_name part) [] → (is_some part.extents ≡ true → IsName part.name) → (next ≡ held_part_names (take (i + 1) parts)) × AreInForm (take (i + 1) parts)
next_part parts i part names next lt at so_far in_form more one = (
  more ∙ ap (λ l. l ++ cons_option (held_part_name part) []) so_far ∙ sym (filter_map-append held_part_name (take i parts) (part ∷ [])) ∙ ap held_part_names (sym up_to),
  subst AreInForm (sym up_to) (in_form_more (take i parts) part in_form one),
)
  where
    up_to : take (i + 1) parts ≡ take i parts ++ part ∷ []
    up_to = take_more parts i part lt ∙ ap (λ (p : Part). take i parts ++ p ∷ []) (sym at)

-- the entry of a part whose bytes are held
abbrev in_entry : PartKey × PartRecord → Option (List ℕ)
in_entry e = cond (is_some e.1.extents) (Some (name_text (recorded_in.name_of e.0 e.1.kind))) None

-- the rows of a registry's parts list what its release does
pub rows_held : (records : Records) (tld : List ℕ) (rows : List Part) → row_entries key_of_part part_value rows ≡ parts_of records tld → held_part_names rows ≡ held_record_names records tld
rows_held records tld rows is = as_entries rows ∙ ap (filter_map in_entry) is ∙ of_registry (entries records.parts)
  where
    some_items : (o : Option (Vec Extent Global)) → is_some (option_map (λ (v : Vec Extent Global). v.items) o) ≡ is_some o
    some_items None = refl
    some_items (Some extents) = refl

    same : (part : Part) → held_part_name part ≡ in_entry (key_of_part part, part_value part)
    same part = ap (λ b. cond b (Some (name_text part.name)) None) (sym (some_items part.extents))

    as_entries : (rows : List Part) → held_part_names rows ≡ filter_map in_entry (row_entries key_of_part part_value rows)
    as_entries [] = refl
    as_entries (part ∷ rows) = λ i. cons_option (same part i) (as_entries rows i)

    both : (b c : Bool) (name : List ℕ) → cond b (cond c (Some name) None) None ≡ cond (b && c) (Some name) None
    both true c name = refl
    both false c name = refl

    of_registry : (es : List (PartKey × PartRecord)) → filter_map in_entry (filter (λ (e : PartKey × PartRecord). is_eq (text_cmp e.0.tld tld)) es) ≡ filter_map (held_record_name tld) es
    of_registry es =
        (λ i. filter_map in_entry (filter (λ (e : PartKey × PartRecord). is_eq-slice_cmp e.0.tld tld i) es)) ∙ filter_map_kept (λ (e : PartKey × PartRecord). bytes_eq e.0.tld tld) in_entry es
        ∙ (λ i. filter_map (λ (e : PartKey × PartRecord). both (bytes_eq e.0.tld tld) (is_some e.1.extents) (name_text (recorded_in.name_of e.0 e.1.kind)) i) es)

-- ---- each name that it lists is that of a recorded part

module _ (records : Records) (tld : List ℕ) where
  abbrev is_recorded : PartKey → PartRecord → Bool
  is_recorded key part = is_part_of part.kind (get records.parts key)

  -- a part of the registry is recorded
  abbrev is_there : PartKey × PartRecord → Bool
  is_there e = bytes_eq e.0.tld tld && is_recorded e.0 e.1

  all_recorded : each_passes is_recorded records.parts ≡ true
  all_recorded = (each_decides part_total part_exact is_recorded (λ key part. is_recorded key part ≡ true) (λ key part. (λ e. e, λ e. e)) records.parts).1
      (λ key part at. ap (is_part_of part.kind) at ∙ (same_kind_decides part.kind part.kind).1 refl)

  of_registry_there : (es : List (PartKey × PartRecord)) → list_all (λ (e : PartKey × PartRecord). is_recorded e.0 e.1) es ≡ true → list_all is_there (filter (λ (e : PartKey × PartRecord). is_eq (text_cmp e.0.tld tld)) es) ≡ true
  of_registry_there [] all = refl
  of_registry_there (e ∷ es) all =
      let both = and_parts (is_recorded e.0 e.1) (list_all (λ (e : PartKey × PartRecord). is_recorded e.0 e.1) es) all in
      ap (λ b. list_all is_there (cond b (e ∷ rest) rest)) (is_eq-slice_cmp e.0.tld tld) ∙ by (bytes_eq e.0.tld tld) refl both.0 (of_registry_there es both.1)
    where
      rest : List (PartKey × PartRecord)
      rest = filter (λ (e : PartKey × PartRecord). is_eq (text_cmp e.0.tld tld)) es

      by : (b : Bool) → bytes_eq e.0.tld tld ≡ b → is_recorded e.0 e.1 ≡ true → list_all is_there rest ≡ true → list_all is_there (cond b (e ∷ rest) rest) ≡ true
      by true same one more = and_from _ _ (and_from _ _ same one) more
      by false same one more = more

  rows_there : (rows : List Part) → row_entries key_of_part part_value rows ≡ parts_of records tld → list_all (λ (part : Part). is_there (key_of_part part, part_value part)) rows ≡ true
  rows_there rows is = all_entries part_cmp key_of_part part_value is_there rows ∙ ap (list_all is_there) is ∙ of_registry_there (entries records.parts) all_recorded

  names_there : (rows : List Part) → AreInForm rows → list_all (λ (part : Part). is_there (key_of_part part, part_value part)) rows ≡ true → AreRecordedNames records tld (held_part_names rows)
  names_there [] in_form there = refl
  names_there (part ∷ rows) in_form there =
      let both = and_parts (is_there (key_of_part part, part_value part)) _ there in
      by (is_some part.extents) refl both.0 (names_there rows in_form.1 both.1)
    where
      by : (b : Bool) → is_some part.extents ≡ b → is_there (key_of_part part, part_value part) ≡ true → AreRecordedNames records tld (held_part_names rows) → AreRecordedNames records tld (cons_option (cond b (Some (name_text part.name)) None) (held_part_names rows))
      by true held one more = and_from _ _ (ap (is_name_of_part records tld) (read_of (name_text part.name) part.name (in_form.0 held, refl)) ∙ one) more
      by false held one more = more

  pub rows_recorded : (rows : List Part) → row_entries key_of_part part_value rows ≡ parts_of records tld → AreInForm rows → AreRecordedNames records tld (held_part_names rows)
  rows_recorded rows is in_form = names_there rows in_form (rows_there rows is)
