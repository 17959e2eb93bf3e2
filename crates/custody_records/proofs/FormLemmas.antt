-- What rows in form have, and how one row more stands for one record more.
use Rattle.std.proofs.Common.{◌≡◌, ℕ, pos, ◌≤◌, ◌<◌, ◌^◌, List, [], ◌∷◌, Option, Some, None, Bool, true, false, ◌&&◌, cond, refl, sym, ◌∙◌, ap, arith}
use Rattle.std.specs.Prelude.{map, option_map, slice_get}
use Rattle.std.specs.Option.{option_and_then}
use Rattle.std.specs.FinMap.{FinMap, empty, get}
use Rattle.std.specs.Int.{w64, to_be_bytes}
use Rattle.std.proofs.lemmas.Bool.{and_parts}
use Rattle.std.proofs.lemmas.Nat.{from_be_bytes-to_be_bytes_8}
use Rattle.std.proofs.lemmas.Slice.Eq.{bytes_eq-Decides}
use Rattle.hex.specs.Hex.{encode_lower}
use Rattle.hex.proofs.HexLemmas.{decode_sized-encode_lower}
use Rattle.extent_map.proofs.ByteLemmas.{IsBytes-to_be_bytes}
use Rattle.custody_records.specs.declared.damage.RowDamage.TheVariants as damage
use Rattle.custody_records.specs.Keys.{text_cmp, PartKey, part_cmp, NoticeKey, notice_cmp}
use Rattle.custody_records.specs.Records.{PartRecord, Notice, Release, Hold, Records, new_records, with_registry, with_part, with_notice, with_release, with_hold}
use Rattle.custody_records.specs.Rows.{MetaRow, RegistryRow, PartRow, NoticeRow, HandoverRow, HoldRow, Rows, with_registry_row, with_part_row, with_notice_row, with_handover_row, with_hold_row, migrated_rows, first_meta, initial_rows}
use Rattle.custody_records.specs.Form.{natural, gathered_table, registry_in, part_in, notice_in, release_in, hold_in, holds_in, has_holds, hex_number, number_in, is_meta, Form, OutOfForm, InForm, all_records, are_none, records_in, in_form_or, is_known, form_by, form_of, HasCurrentSchema, HasEarlierSchema}
use Rattle.std.specs.Str.{bytes_eq}
use Rattle.custody_records.proofs.FieldLemmas.{within_passes}
use Rattle.custody_records.proofs.Gathered.{gathered_push}

-- what the rows of a table are, where the records of all are these
pub record AreRecords (rows : Rows) (records : Records) : Type 0 where
  pub meta : MetaRow
  pub alone : rows.meta ≡ Some (meta ∷ [])
  pub known : is_known meta ≡ true
  pub in_form : is_meta meta ≡ true
  pub number : number_in meta.number ≡ records.number
  pub blocks : natural meta.blocks ≡ records.blocks
  pub registries : gathered_table registry_in rows.registries ≡ Some records.registries
  pub parts : gathered_table part_in rows.parts ≡ Some records.parts
  pub notices : gathered_table notice_in rows.notices ≡ Some records.notices
  pub releases : gathered_table release_in rows.handovers ≡ Some records.releases
  pub holds : holds_in (has_holds meta.schema_no) rows.holds ≡ Some records.holds

-- rows in form stand for one set of records
pub InForm-injective : (a b : Records) → InForm a ≡ InForm b → a ≡ b
InForm-injective a b e = cc

-- ---- what rows in form have

tables_has : (number blocks : ℕ) (registries : Option (FinMap text_cmp ℕ)) (parts : Option (FinMap part_cmp PartRecord)) (notices : Option (FinMap notice_cmp Notice)) (releases : Option (FinMap text_cmp Release)) (holds : Option (FinMap text_cmp Hold)) (records : Records)
    → in_form_or damage.Form (all_records number blocks registries parts notices releases holds) ≡ InForm records
    → (number ≡ records.number) × ((blocks ≡ records.blocks) × ((registries ≡ Some records.registries) × ((parts ≡ Some records.parts) × ((notices ≡ Some records.notices) × ((releases ≡ Some records.releases) × (holds ≡ Some records.holds))))))
tables_has number blocks registries parts notices releases holds records e = grind arith

meta_passes : (known form : Bool) (tables : Form) (records : Records) → cond known (cond form tables (OutOfForm damage.Form)) (OutOfForm damage.Schema) ≡ InForm records → (known ≡ true) × ((form ≡ true) × (tables ≡ InForm records))
meta_passes known form tables records e = grind arith

pub in_form_has : (rows : Rows) (records : Records) → form_of rows ≡ InForm records → AreRecords rows records
unfolding form_of
in_form_has rows records e = by_meta rows.meta refl e
  where
    none : (metas : List MetaRow) → are_none metas ≡ true → metas ≡ []
    none [] e = refl
    none (meta ∷ metas) e = cc

    by_meta : (metas : Option (List MetaRow)) → rows.meta ≡ metas → form_by metas rows ≡ InForm records → AreRecords rows records
    by_meta None is e = cc
    by_meta (Some []) is e = cc
    by_meta (Some (meta ∷ others)) is e =
        let passes = meta_passes (is_known meta) (is_meta meta && are_none others) (in_form_or damage.Form (records_in (has_holds meta.schema_no) (number_in meta.number) (natural meta.blocks) rows)) records e in
        let one = and_parts (is_meta meta) (are_none others) passes.1.0 in
        let has = tables_has (number_in meta.number) (natural meta.blocks) (gathered_table registry_in rows.registries) (gathered_table part_in rows.parts) (gathered_table notice_in rows.notices) (gathered_table release_in rows.handovers) (holds_in (has_holds meta.schema_no) rows.holds) records passes.1.1 in
        record {
          meta = meta;
          alone = is ∙ ap (λ metas. Some (meta ∷ metas)) (none others one.1);
          known = passes.0;
          in_form = one.0;
          number = has.0;
          blocks = has.1.0;
          registries = has.1.1.0;
          parts = has.1.1.1.0;
          notices = has.1.1.1.1.0;
          releases = has.1.1.1.1.1.0;
          holds = has.1.1.1.1.1.1;
        }

-- ---- rows that have these are in form

-- rows of a volume in form stand for what their other tables make
pub form_of_volume : (rows : Rows) (meta : MetaRow) → rows.meta ≡ Some (meta ∷ []) → is_known meta ≡ true → is_meta meta ≡ true
    → form_of rows ≡ in_form_or damage.Form (records_in (has_holds meta.schema_no) (number_in meta.number) (natural meta.blocks) rows)
unfolding form_of
form_of_volume rows meta alone known form =
    (λ i. form_by (alone i) rows)
    ∙ (λ i. cond (known i) (cond (form i && true) (in_form_or damage.Form (records_in (has_holds meta.schema_no) (number_in meta.number) (natural meta.blocks) rows)) (OutOfForm damage.Form)) (OutOfForm damage.Schema))

pub in_form_from : (rows : Rows) (records : Records) → AreRecords rows records → form_of rows ≡ InForm records
in_form_from rows records h =
    form_of_volume rows h.meta h.alone h.known h.in_form
    ∙ (λ i. in_form_or damage.Form (all_records (h.number i) (h.blocks i) (h.registries i) (h.parts i) (h.notices i) (h.releases i) (h.holds i)))

-- ---- one row more is one record more

module _ (rows : Rows) (records : Records) (was : form_of rows ≡ InForm records) where
  old : AreRecords rows records
  old = in_form_has rows records was

  first_is : first_meta rows ≡ Some old.meta
  first_is = ap (option_and_then (λ (metas : List MetaRow). slice_get metas 0)) old.alone

  -- other tables of the same volume, by the records that they make
  changed : (new : Rows) (after : Records) → new.meta ≡ rows.meta → records_in (has_holds old.meta.schema_no) (number_in old.meta.number) (natural old.meta.blocks) new ≡ Some after → form_of new ≡ InForm after
  changed new after same makes = form_of_volume new old.meta (same ∙ old.alone) old.known old.in_form ∙ ap (in_form_or damage.Form) makes

  pub registry_inserted : (row : RegistryRow) (tld : List ℕ) (day : ℕ) → registry_in row ≡ Some (tld, day) → get records.registries tld ≡ None
      → form_of (with_registry_row row rows) ≡ InForm (with_registry records tld day)
  registry_inserted row tld day reads new =
      let registries = gathered_push registry_in rows.registries records.registries row tld day old.registries reads new in
      changed (with_registry_row row rows) _ refl (λ i. all_records (old.number i) (old.blocks i) (registries i) (old.parts i) (old.notices i) (old.releases i) (old.holds i))

  -- another table of parts
  pub parts_changed : (table : Option (List PartRow)) (parts : FinMap part_cmp PartRecord) → gathered_table part_in table ≡ Some parts → form_of (record rows { parts = table }) ≡ InForm (record records { parts = parts })
  parts_changed table parts makes =
      changed (record rows { parts = table }) _ refl (λ i. all_records (old.number i) (old.blocks i) (old.registries i) (makes i) (old.notices i) (old.releases i) (old.holds i))

  pub part_inserted : (row : PartRow) (key : PartKey) (part : PartRecord) → part_in row ≡ Some (key, part) → get records.parts key ≡ None
      → form_of (with_part_row row rows) ≡ InForm (with_part records key part)
  part_inserted row key part reads new = parts_changed _ _ (gathered_push part_in rows.parts records.parts row key part old.parts reads new)

  pub notice_inserted : (row : NoticeRow) (key : NoticeKey) (notice : Notice) → notice_in row ≡ Some (key, notice) → get records.notices key ≡ None
      → form_of (with_notice_row row rows) ≡ InForm (with_notice records key notice)
  notice_inserted row key notice reads new =
      let notices = gathered_push notice_in rows.notices records.notices row key notice old.notices reads new in
      changed (with_notice_row row rows) _ refl (λ i. all_records (old.number i) (old.blocks i) (old.registries i) (old.parts i) (notices i) (old.releases i) (old.holds i))

  pub release_inserted : (row : HandoverRow) (reference : List ℕ) (release : Release) → release_in row ≡ Some (reference, release) → get records.releases reference ≡ None
      → form_of (with_handover_row row rows) ≡ InForm (with_release records reference release)
  release_inserted row reference release reads new =
      let releases = gathered_push release_in rows.handovers records.releases row reference release old.releases reads new in
      changed (with_handover_row row rows) _ refl (λ i. all_records (old.number i) (old.blocks i) (old.registries i) (old.parts i) (old.notices i) (releases i) (old.holds i))

  -- holds, where there is a table of them
  pub holds_gathered : HasCurrentSchema rows → gathered_table hold_in rows.holds ≡ Some records.holds
  holds_gathered current = ap (λ b. holds_in b rows.holds) (sym (current old.meta first_is)) ∙ old.holds

  -- another table of holds
  pub holds_changed : HasCurrentSchema rows → (table : Option (List HoldRow)) (holds : FinMap text_cmp Hold) → gathered_table hold_in table ≡ Some holds
      → form_of (record rows { holds = table }) ≡ InForm (record records { holds = holds })
  holds_changed current table holds gathers =
      let makes = ap (λ b. holds_in b table) (current old.meta first_is) ∙ gathers in
      changed (record rows { holds = table }) _ refl (λ i. all_records (old.number i) (old.blocks i) (old.registries i) (old.parts i) (old.notices i) (old.releases i) (makes i))

  pub hold_inserted : (row : HoldRow) (reference : List ℕ) (hold : Hold) → HasCurrentSchema rows → hold_in row ≡ Some (reference, hold) → get records.holds reference ≡ None
      → form_of (with_hold_row row rows) ≡ InForm (with_hold records reference hold)
  hold_inserted row reference hold current reads new = holds_changed current _ _ (gathered_push hold_in rows.holds records.holds row reference hold (holds_gathered current) reads new)

  -- The rows of schema 1, as those of schema 2, stand for the same records.
  pub migrated_in_form : HasEarlierSchema rows → form_of (migrated_rows rows) ≡ InForm records
  migrated_in_form earlier =
      let holds = none rows.holds (ap (λ b. holds_in b rows.holds) (sym (earlier old.meta first_is)) ∙ old.holds) in
      form_of_volume (migrated_rows rows) (record old.meta { schema_no = pos 2 }) (ap (option_map (map (λ (row : MetaRow). record row { schema_no = pos 2 }))) old.alone) refl old.in_form
      ∙ (λ i. in_form_or damage.Form (all_records (old.number i) (old.blocks i) (old.registries i) (old.parts i) (old.notices i) (old.releases i) (holds i)))
    where
      none : (holds : Option (List HoldRow)) → holds_in false holds ≡ Some records.holds → Some empty ≡ Some records.holds
      none holds e = grind arith

-- ---- six new tables

-- the digits of a number are read back
pub number_in-digits : (number : ℕ) → number < 2 ^ 64 → number_in (encode_lower (to_be_bytes w64 number)) ≡ number
number_in-digits number lt =
    ap hex_number (decode_sized-encode_lower (to_be_bytes w64 number) 8 refl (IsBytes-to_be_bytes number)) ∙ from_be_bytes-to_be_bytes_8 number lt

pub fresh_in_form : (number blocks : ℕ) → number < 2 ^ 64 → 2 ≤ blocks → blocks ≤ 262_144 → form_of (initial_rows (encode_lower (to_be_bytes w64 number)) (pos blocks)) ≡ InForm (new_records number blocks)
fresh_in_form number blocks lt low high =
    let digits = encode_lower (to_be_bytes w64 number) in
    let again : encode_lower (to_be_bytes w64 (number_in digits)) ≡ digits = ap (λ (n : ℕ). encode_lower (to_be_bytes w64 n)) (number_in-digits number lt) in
    let same : bytes_eq digits (encode_lower (to_be_bytes w64 (number_in digits))) ≡ true = (bytes_eq-Decides digits (encode_lower (to_be_bytes w64 (number_in digits)))).1 (sym again) in
    in_form_from _ _ (record {
      meta = record { one = pos 1; schema_no = pos 2; number = digits; blocks = pos blocks };
      alone = refl;
      known = refl;
      in_form = λ i. same i && within_passes 2 262_144 blocks low high i;
      number = number_in-digits number lt;
      blocks = refl;
      registries = refl;
      parts = refl;
      notices = refl;
      releases = refl;
      holds = refl;
    })
