-- What the rows of meta say, and the rows of a table as records of new keys.
use Rattle.std.proofs.Common.{◌≡◌, inl, inr, ℕ, ◌<◌, ◌≤◌, Bool, true, false, cond, List, [], ◌∷◌, length, Option, Some, None, refl, sym, ap, ◌∙◌, arith}
use Rattle.std.specs.Prelude.{option_map, slice_get, is_some, not, ◌&&◌, Result, Ok, Err, IfErr, MatchResult}
use Rattle.std.specs.Result.{IsErrAnd}
use Rattle.std.specs.FinMap.{FinMap}
use Rattle.std.proofs.Math.Bool.{and-false}
use Rattle.std.proofs.lemmas.Bool.{false≢true, cases_Bool}
use Rattle.custody_records.specs.declared.damage.RowDamage.{RowDamage}
use Rattle.custody_records.specs.declared.damage.RowDamage.TheVariants as damage
use Rattle.custody_records.specs.declared.errors.RowError.{RowError}
use Rattle.custody_records.specs.declared.errors.RowError.TheVariants as row_error
use Rattle.custody_records.specs.declared.meta.Meta.{Meta}
use Rattle.custody_records.specs.declared.records.Records.{Records as Held}
use Rattle.custody_records.specs.MemoryRecords.{records_of}
use Rattle.custody_records.specs.Keys.{text_cmp, part_cmp, notice_cmp}
use Rattle.custody_records.specs.Records.{PartRecord, Notice, Release}
use Rattle.custody_records.specs.Rows.{MetaRow, HoldRow, Rows}
use Rattle.custody_records.specs.TypedRecords.{meta_of, meta_volume}
use Rattle.custody_records.specs.Form.{natural, number_in, is_schema, has_holds, holds_in, is_meta, is_known, are_none, gathered_table, all_records, registry_in, part_in, notice_in, release_in, records_in, in_form_or, Form, InForm, OutOfForm, form_after, form_of}
use Rattle.custody_store.specs.inside.Loading.{fault_of, IsFormFault}
use Rattle.custody_store.specs.declared.faults.StoreFault.{StoreFault}
use Rattle.custody_store.specs.declared.faults.StoreFault.TheVariants.{Damaged}
use Rattle.custody_records.proofs.ReadLemmas.{some_same}
use Rattle.custody_records.proofs.MetaLemmas.{volume_of-meta_of}

-- ---- the rows of meta

value : {X : Type 0} (b : Bool) (x y : X) → cond b (Some x) None ≡ Some y → (b ≡ true) × (x ≡ y)
value true x y e = (refl, (let same = e in cc))
value false x y e = absurd (let clash = e in cc)

pub many : (metas : List MetaRow) (m : Meta) (rest : Rows) → option_map meta_of (slice_get metas 0) ≡ Some m → is_schema m.schema_no ≡ true → 1 < length metas → form_after metas rest ≡ OutOfForm damage.Form
many [] m rest first good more = absurd (let clash = first in cc)
many (meta ∷ []) m rest first good more = absurd (omega arith)
many (meta ∷ (other ∷ others)) m rest first good more =
    let known : is_known meta ≡ true = ap (λ (x : Meta). is_schema x.schema_no) (some_same (meta_of meta) m first) ∙ good in rw (known, and-false (is_meta meta)) refl

pub no_holds : (number blocks : ℕ) (r : Option (FinMap text_cmp ℕ)) (p : Option (FinMap part_cmp PartRecord)) (n : Option (FinMap notice_cmp Notice)) (o : Option (FinMap text_cmp Release)) → all_records number blocks r p n o None ≡ None
no_holds number blocks None p n o = refl
no_holds number blocks (Some r) None n o = refl
no_holds number blocks (Some r) (Some p) None o = refl
no_holds number blocks (Some r) (Some p) (Some n) None = refl
no_holds number blocks (Some r) (Some p) (Some n) (Some o) = refl

disagree : (with_holds : Bool) (rows : Option (List HoldRow)) → is_some rows ≡ not with_holds → holds_in with_holds rows ≡ None
disagree true None apart = refl
disagree true (Some rows) apart = absurd (false≢true (sym apart))
disagree false None apart = absurd (false≢true apart)
disagree false (Some rows) apart = refl

-- a table of holds in schema 1, or none in schema 2
pub mismatch : (metas : List MetaRow) (m : Meta) (rest : Rows) → option_map meta_of (slice_get metas 0) ≡ Some m → is_schema m.schema_no ≡ true → is_some rest.holds ≡ not (has_holds m.schema_no) → form_after metas rest ≡ OutOfForm damage.Form
mismatch [] m rest first good apart = absurd (let clash = first in cc)
mismatch (meta ∷ others) m rest first good apart =
    let same = some_same (meta_of meta) m first in
    let known : is_known meta ≡ true = ap (λ (x : Meta). is_schema x.schema_no) same ∙ good in
    let none : holds_in (has_holds meta.schema_no) rest.holds ≡ None = disagree (has_holds meta.schema_no) rest.holds (apart ∙ sym (ap (λ (x : Meta). not (has_holds x.schema_no)) same)) in
    elim (cases_Bool (is_meta meta && are_none others)) [
      | inl good ↦ rw (known, good, none, no_holds (number_in meta.number) (natural meta.blocks) (gathered_table registry_in rest.registries) (gathered_table part_in rest.parts) (gathered_table notice_in rest.notices) (gathered_table release_in rest.handovers)) refl
      | inr bad ↦ rw (known, bad) refl
    ]

pub volume : (metas : List MetaRow) (m : Meta) (v : ℕ × ℕ) (rest : Rows) → option_map meta_of (slice_get metas 0) ≡ Some m → is_schema m.schema_no ≡ true → length metas ≤ 1 → meta_volume m ≡ Some v
    → form_after metas rest ≡ in_form_or damage.Form (records_in (has_holds m.schema_no) v.0 v.1 rest)
volume [] m v rest first good few some = absurd (let clash = first in cc)
volume (meta ∷ (other ∷ others)) m v rest first good few some = absurd (omega arith)
volume (meta ∷ []) m v rest first good few some =
    let same = some_same (meta_of meta) m first in
    let known : is_known meta ≡ true = ap (λ (x : Meta). is_schema x.schema_no) same ∙ good in
    let in_form = value (is_meta meta) (number_in meta.number, natural meta.blocks) v (sym (volume_of-meta_of meta) ∙ ap meta_volume same ∙ some) in
    rw (known, in_form.0) (ap (λ (p : ℕ × ℕ). in_form_or damage.Form (records_in (has_holds meta.schema_no) p.0 p.1 rest)) in_form.1 ∙ ap (λ (x : Meta). in_form_or damage.Form (records_in (has_holds x.schema_no) v.0 v.1 rest)) same)

pub form_is : (metas : List MetaRow) (rows : Rows) → rows.meta ≡ Some metas → form_of rows ≡ form_after metas rows
unfolding form_of
form_is metas rows is = rw is refl

-- what all rows stand for, where those but meta were read, and are the same as before
pub loaded_form : (form : Form) (with_holds : Bool) (number blocks : ℕ) (rows read : Rows) (r : Result Held StoreFault) → form ≡ in_form_or damage.Form (records_in with_holds number blocks rows) → read ≡ rows
    → MatchResult r (λ records. records_in with_holds number blocks read ≡ Some (records_of records)) (λ e. e ≡ Damaged damage.Form → records_in with_holds number blocks read ≡ None)
    → IfErr r IsFormFault → MatchResult r (λ records. form ≡ InForm (records_of records)) (λ e. (why : RowDamage) → e ≡ Damaged why → form ≡ OutOfForm why)
loaded_form form with_holds number blocks rows read (Ok records) is same found kind = is ∙ ap (in_form_or damage.Form) (ap (records_in with_holds number blocks) (sym same) ∙ found)
loaded_form form with_holds number blocks rows read (Err e) is same found (inl failed) = λ why told. absurd (let clash = sym failed ∙ told in cc)
loaded_form form with_holds number blocks rows read (Err e) is same found (inr bad) = λ why told.
    let one : damage.Form ≡ why = (let both = sym bad ∙ told in cc) in
    is ∙ ap (in_form_or damage.Form) (ap (records_in with_holds number blocks) (sym same) ∙ found bad) ∙ ap OutOfForm one

-- a fault of form comes of a row out of form alone
form_fault : (error : RowError) → fault_of error ≡ Damaged damage.Form → error ≡ row_error.OutOfForm
form_fault row_error.OutOfForm told = refl
form_fault row_error.NoMemory told = absurd (let clash = told in cc)

pub on_fault : {A : Type 0} (P : A → Type 0) (Q : Type 0) (r : Result A StoreFault) (error : RowError) → IsErrAnd r (λ fault. fault ≡ fault_of error) → (error ≡ row_error.OutOfForm → Q) → MatchResult r P (λ fault. fault ≡ Damaged damage.Form → Q)
on_fault P Q (Ok x) error is q = absurd is
on_fault P Q (Err fault) error is q = λ told. q (form_fault error (sym is ∙ told))

-- a fault that is passed on
pub same_fault : {A : Type 0} (P : A → Type 0) (Q : Type 0) (r : Result A StoreFault) (error : StoreFault) → IsErrAnd r (λ fault. fault ≡ error) → (error ≡ Damaged damage.Form → Q) → MatchResult r P (λ fault. fault ≡ Damaged damage.Form → Q)
same_fault P Q (Ok x) error is q = absurd is
same_fault P Q (Err fault) error is q = λ told. q (sym is ∙ told)
