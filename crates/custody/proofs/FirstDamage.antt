-- That nothing before it is true, where an opening tells of damage.
use Rattle.std.proofs.Common.{◌≡◌, ℕ, pos, ◌*◌, ◌<◌, ◌^◌, List, [], ◌∷◌, length, Option, Some, None, Bool, true, false, cond, refl, sym, ◌∙◌, ap, subst}
use Rattle.std.specs.Prelude.{option_map, is_some}
use Rattle.std.specs.Str.{bytes_eq}
use Rattle.std.proofs.lemmas.Slice.Eq.{bytes_eq-Decides}
use Rattle.vault_volume.specs.Image.{bytes_at}
use Rattle.vault_volume.specs.Head.{head_of}
use Rattle.custody_records.specs.declared.meta.Meta.{Meta}
use Rattle.custody_records.specs.Rows.{MetaRow, Rows, first_meta}
use Rattle.custody_records.specs.declared.damage.RowDamage as rows_damage
use Rattle.custody_records.specs.declared.damage.RowDamage.TheVariants as form
use Rattle.custody_records.specs.Form.{natural, number_in, is_schema, is_known, OutOfForm, InForm, form_by, form_of}
use Rattle.custody_records.specs.RowsOfRecords.{digits_of}
use Rattle.custody_records.specs.TypedRecords as typed
use Rattle.custody_machine.specs.declared.damage.Damage.TheVariants as wrong
use Rattle.custody_machine.specs.Damage.{IsDamaged, NoDamageBefore}
use Rattle.custody_machine.proofs.Damages.{none_before_all, none_before_next}
use Rattle.custody_machine.proofs.Heads.{digits_by_head}
use Rattle.custody_machine.specs.declared.damage.Damage.{Damage}
use Rattle.custody_machine.specs.StoredState.{HaveExtentsInRange, HaveBlocksOnce}
use Rattle.custody_records.specs.Records.{Records}
use Rattle.custody_records.proofs.FormLemmas.{InForm-injective}
use Rattle.custody_records.proofs.ReadLemmas.{some_same}
use Rattle.sqlite.specs.State.{State}
use Rattle.custody_store.specs.Schema.{meta_schema}
use Rattle.custody_store.specs.Reading.{rows_in}
use Rattle.custody_store.specs.StoreState.{HasFirstTables, as_store_state, has_all_tables}
use Rattle.custody_store.proofs.MissingLemmas.{missing_form}
use Rattle.custody_rules.specs.Breaks.{BreaksFirst}
use Rattle.custody.specs.Opening.{HasNoRecord, IsReportedDamage, IsRowDamage}
use Rattle.custody.proofs.Opened.{broken_damaged}

-- a row that was found is there
pub has_record : (rows : Rows) (found : Meta) → Some found ≡ option_map typed.meta_of (first_meta rows) → ¬ HasNoRecord rows
has_record rows found is none = let clash : Some found ≡ None = is ∙ ap (option_map typed.meta_of) none in cc

-- and where none was found there is none
pub has_none : (rows : Rows) → None ≡ option_map typed.meta_of (first_meta rows) → HasNoRecord rows
has_none rows is = by (first_meta rows) is
  where
    by : (first : Option MetaRow) → None ≡ option_map typed.meta_of first → first ≡ None
    by None is = refl
    by (Some row) is = cc

-- whether one was found
pub is_there : (rows : Rows) (found : Option Meta) → found ≡ option_map typed.meta_of (first_meta rows) → is_some found ≡ is_some (first_meta rows)
is_there rows found is = ap is_some is ∙ by (first_meta rows)
  where
    by : (first : Option MetaRow) → is_some (option_map typed.meta_of first) ≡ is_some first
    by None = refl
    by (Some row) = refl

-- a schema that is not known is told, whatever the tables are
pub unknown_schema : (rows : Rows) (found : Meta) (image : List ℕ) → Some found ≡ option_map typed.meta_of (first_meta rows) → is_schema found.schema_no ≡ false → IsDamaged wrong.Schema rows image
unfolding form_of
unknown_schema rows found image is schema = by rows.meta refl is
  where
    by : (metas : Option (List MetaRow)) → rows.meta ≡ metas → Some found ≡ option_map typed.meta_of (first_meta (record rows { meta = metas })) → form_by metas rows ≡ OutOfForm form.Schema
    by None at is = cc
    by (Some []) at is = cc
    by (Some (row ∷ others)) at is =
        let same : found ≡ typed.meta_of row = cc in
        let known : is_known row ≡ false = ap (λ (m : Meta). is_schema m.schema_no) (sym same) ∙ schema in rw known refl

-- and one that is known is that of the first row
pub known_schema : (rows : Rows) (found : Meta) → Some found ≡ option_map typed.meta_of (first_meta rows) → is_schema found.schema_no ≡ true → (meta : MetaRow) → first_meta rows ≡ Some meta → is_known meta ≡ true
known_schema rows found is schema meta first =
    let same : found ≡ typed.meta_of meta = some_same found (typed.meta_of meta) (is ∙ ap (option_map typed.meta_of) first) in
    ap (λ (m : Meta). is_schema m.schema_no) (sym same) ∙ schema

-- a table that is not there is told where none of H0 to H3 is true
module _ (rows : Rows) (out : form_of rows ≡ OutOfForm form.Form) where
  pub missing_told : (tells : Type 0) (image : List ℕ) → ¬ HasNoRecord rows → (tells → NoDamageBefore wrong.Schema rows image) → IsReportedDamage tells rows image wrong.Form
  missing_told tells image has before = record {
    is_first = λ told. record {
      is_true = out;
      first = none_before_next wrong.Schema wrong.Form rows image refl (before told) (λ other. let clash : OutOfForm form.Form ≡ OutOfForm form.Schema = sym out ∙ other in cc);
    };
    not_before = λ _. has;
    of_rows = λ _ _ any. out;
  }

-- so it is where meta is there with a row of a known schema, and another table is not
pub row_missing : (s : State) → HasFirstTables meta_schema.tables s → has_all_tables (as_store_state s) ≡ false → ¬ HasNoRecord (rows_in s.now.trees) → ((meta : MetaRow) → first_meta (rows_in s.now.trees) ≡ Some meta → is_known meta ≡ true) → form_of (rows_in s.now.trees) ≡ OutOfForm form.Form
row_missing s first missing has known = by (first_meta (rows_in s.now.trees)) refl
  where
    by : (found : Option MetaRow) → first_meta (rows_in s.now.trees) ≡ found → form_of (rows_in s.now.trees) ≡ OutOfForm form.Form
    by None at = absurd (has at)
    by (Some meta) at = missing_form s first missing meta at (known meta at)

-- a number that was read is that of the digits
digits_read : (text : List ℕ) (number : ℕ) → cond (bytes_eq text (digits_of (number_in text))) (Some (number_in text)) None ≡ Some number → text ≡ digits_of number
digits_read text number is = by (bytes_eq text (digits_of (number_in text))) refl is
  where
    by : (b : Bool) → bytes_eq text (digits_of (number_in text)) ≡ b → cond b (Some (number_in text)) None ≡ Some number → text ≡ digits_of number
    by true e is = let same : number_in text ≡ number = cc in (bytes_eq-Decides text (digits_of (number_in text))).0 e ∙ ap digits_of same
    by false e is = cc

module _ (rows : Rows) (found : Meta) (image : List ℕ) (is : Some found ≡ option_map typed.meta_of (first_meta rows)) where
  pub none_before_head : NoDamageBefore wrong.Head rows image
  none_before_head = none_before_next wrong.NoRecord wrong.Head rows image refl (none_before_all rows image) (has_record rows found is)

  module _ (number : ℕ) (lt : number < 2 ^ 64) (head : bytes_at image 0 4096 ≡ head_of number) where
    pub none_before_volume : NoDamageBefore wrong.Volume rows image
    none_before_volume = none_before_next wrong.Head wrong.Volume rows image refl none_before_head (λ other. other number lt head)

    -- the row is that of the volume
    no_other_volume : (size : ℕ) → length image ≡ 4096 * size → found.number ≡ Some number → found.blocks ≡ pos size → ¬ IsDamaged wrong.Volume rows image
    no_other_volume size long same_number same_blocks other =
        let same : found ≡ typed.meta_of other.0 = some_same _ _ (is ∙ ap (option_map typed.meta_of) other.3) in
        other.5 (record {
          number_is = digits_read other.0.number number (ap (λ (m : Meta). m.number) (sym same) ∙ same_number) ∙ digits_by_head number other.1 (sym head ∙ other.4);
          size = long ∙ ap (λ b. 4096 * natural b) (sym same_blocks ∙ ap (λ (m : Meta). m.blocks) same);
        })

    pub none_before_schema : (blocks size : ℕ) → blocks ≡ size → length image ≡ 4096 * size → (found.number ≡ Some number) × (found.blocks ≡ pos blocks) → NoDamageBefore wrong.Schema rows image
    none_before_schema blocks size same long of = none_before_next wrong.Volume wrong.Schema rows image refl none_before_volume (no_other_volume size long of.0 (of.1 ∙ ap pos same))

-- ---- rows whose volume is found and whose schema is known

-- records in form that break a rule
module _ (records : Records) (rows : Rows) (is : form_of rows ≡ InForm records) where
  in_form_not : (why : rows_damage.RowDamage) → ¬ (form_of rows ≡ OutOfForm why)
  in_form_not why out = let clash : InForm records ≡ OutOfForm why = sym is ∙ out in cc

  module _ (image : List ℕ) (before : NoDamageBefore wrong.Schema rows image) where
    before_range : NoDamageBefore wrong.Extent rows image
    before_range = none_before_next wrong.Form wrong.Extent rows image refl (none_before_next wrong.Schema wrong.Form rows image refl before (in_form_not form.Schema)) (in_form_not form.Form)

    before_once : HaveExtentsInRange records → NoDamageBefore wrong.Overlap rows image
    before_once range = none_before_next wrong.Extent wrong.Overlap rows image refl before_range (λ other. other.2 (subst HaveExtentsInRange (InForm-injective records other.0 (sym is ∙ other.1)) range))

    before_linked : HaveExtentsInRange records → HaveBlocksOnce records → NoDamageBefore wrong.Link rows image
    before_linked range once = none_before_next wrong.Overlap wrong.Link rows image refl (before_once range) (λ other. other.2 (subst HaveBlocksOnce (InForm-injective records other.0 (sym is ∙ other.1)) once))

  first_broken : (damage : Damage) → BreaksFirst damage records → (image : List ℕ) → NoDamageBefore wrong.Schema rows image → NoDamageBefore damage rows image
  first_broken wrong.Extent breaks image before = before_range image before
  first_broken wrong.Overlap breaks image before = before_once image before breaks.0
  first_broken wrong.Link breaks image before = before_linked image before breaks.0 breaks.1
  first_broken _ breaks image before = absurd breaks

  pub broken_rows : (damage : Damage) → BreaksFirst damage records → IsRowDamage rows damage
  broken_rows damage breaks = record { is_true = λ image. broken_damaged damage records rows image is breaks; first = first_broken damage breaks }
