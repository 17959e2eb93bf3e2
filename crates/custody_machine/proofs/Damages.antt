-- What is damaged stands for no state, and what is not for one.
use Rattle.std.proofs.Common.{◌≡◌, ℕ, suc, ◌*◌, ◌<◌, ◌≤◌, List, [], ◌∷◌, length, Option, Some, None, Bool, true, false, nat_lt, refl, sym, ◌∙◌, ap, subst, arith}
use Rattle.std.specs.Prelude.{slice_get, slice_index_or}
use Rattle.std.specs.Bool.{Decides}
use Rattle.std.proofs.lemmas.Bool.Decides.{Decides-eqb, Decides-ltb}
use Rattle.std.proofs.lemmas.Option.{none-some, same_Some}
use Rattle.extent_map.specs.declared.extent.Extent.{Extent}
use Rattle.vault_volume.specs.Image.{bytes_at}
use Rattle.vault_volume.specs.Extents.{IsExtentOf, AreApart, block_count, blocks_of}
use Rattle.vault_volume.specs.Head.{head_of}
use Rattle.custody_records.specs.declared.damage.RowDamage as rows_damage
use Rattle.custody_records.specs.declared.damage.RowDamage.TheVariants as form
use Rattle.custody_records.specs.Keys.{PartKey, NoticeKey}
use Rattle.custody_records.specs.Records.{Records}
use Rattle.custody_records.specs.Rows.{MetaRow, Rows, first_meta}
use Rattle.custody_records.specs.Form.{Form, NoVault, OutOfForm, InForm, form_of}
use Rattle.custody_machine.specs.declared.damage.Damage.{Damage}
use Rattle.custody_machine.specs.declared.damage.Damage.TheVariants.{NoRecord, Head, Volume, Schema, Form as FormDamage, Extent as ExtentDamage, Overlap, Link, Digest}
use Rattle.custody_machine.specs.State.{State}
use Rattle.custody_machine.specs.StoredState.{ForExtents, AreExtents, HaveExtentsInRange, HaveBlocksOnce, AreLinked, state_in, StandsFor}
use Rattle.custody_machine.specs.Damage.{IsRowOf, IsDamaged, damage_number, NoDamageBefore, IsFirstDamage, IsRefinement}
use Rattle.custody_machine.proofs.SameValues.{text_decides, key_decides, notice_key_decides}
use Rattle.custody_records.proofs.FormLemmas.{InForm-injective}
use Rattle.custody_machine.proofs.Forms.{IsRecordsOf, meta_in_form, row_in_form}
use Rattle.custody_machine.proofs.Heads.{head_by_digits, head_in_range, digits_by_head}
use Rattle.custody_machine.proofs.Stored.{stands_for_one}

-- ---- what is not false

-- what a test decides is so where it is not otherwise
pub stable : {P : Type 0} (b : Bool) → Decides b P → ¬ (¬ P) → P
stable true d denied = d.0 refl
stable false d denied = absurd (denied (λ p. let yes = d.1 p in cc))

pub stable_test : (b : Bool) → ¬ (¬ (b ≡ true)) → b ≡ true
stable_test true denied = refl
stable_test false denied = absurd (denied (λ e. cc))

stable_le : (a b : ℕ) → ¬ (¬ (a ≤ b)) → a ≤ b
stable_le a b denied = by (nat_lt b a) refl
  where
    by : (t : Bool) → nat_lt b a ≡ t → a ≤ b
    by true e = let lt = (Decides-ltb b a).0 e in absurd (denied (λ le. omega arith))
    by false e = not_lt e
      where
        not_lt : nat_lt b a ≡ false → a ≤ b
        not_lt e = grind arith

stable_extent : (size : ℕ) (e : Extent) → ¬ (¬ IsExtentOf size e) → IsExtentOf size e
stable_extent size e denied = (stable_le _ _ (λ out. denied (λ h. out h.0)), stable_le _ _ (λ out. denied (λ h. out h.1)), stable_le _ _ (λ out. denied (λ h. out h.2)))

stable_extents : (blocks len : ℕ) (o : Option (List Extent)) → ¬ (¬ ForExtents o (AreExtents blocks len)) → ForExtents o (AreExtents blocks len)
stable_extents blocks len None denied = tt
stable_extents blocks len (Some extents) denied = record {
  each = λ k d lt. stable_extent blocks (slice_index_or extents k d) (λ out. denied (λ h. out (h.each k d lt)));
  counts = stable _ (Decides-eqb (blocks_of extents) (block_count len)) (λ out. denied (λ h. out h.counts));
}

stable_apart : (extents : List Extent) → ¬ (¬ AreApart extents) → AreApart extents
stable_apart [] denied = tt
stable_apart (e ∷ extents) denied = (λ b here there. denied (λ h. h.0 b here there), stable_apart extents (λ out. denied (λ h. out h.1)))

stable_apart_of : (o : Option (List Extent)) → ¬ (¬ ForExtents o AreApart) → ForExtents o AreApart
stable_apart_of None denied = tt
stable_apart_of (Some extents) denied = stable_apart extents denied

stable_key : (j k : PartKey) → ¬ (¬ (j ≡ k)) → j ≡ k
stable_key j k denied = stable _ (key_decides j k) denied

stable_notice_key : (j k : NoticeKey) → ¬ (¬ (j ≡ k)) → j ≡ k
stable_notice_key j k denied = stable _ (notice_key_decides j k) denied

stable_range : (records : Records) → ¬ (¬ HaveExtentsInRange records) → HaveExtentsInRange records
stable_range records denied key part at = stable_extents records.blocks part.len part.extents (λ out. denied (λ h. out (h key part at)))

stable_once : (records : Records) → ¬ (¬ HaveBlocksOnce records) → HaveBlocksOnce records
stable_once records denied = record {
  within = λ key part at. stable_apart_of part.extents (λ out. denied (λ h. out (h.within key part at)));
  between = λ j k p q b at_j at_k in_p in_q. stable_key j k (λ out. denied (λ h. out (h.between j k p q b at_j at_k in_p in_q)));
}

stable_linked : (records : Records) → ¬ (¬ AreLinked records) → AreLinked records
stable_linked records denied = record {
  part_registry = λ key part at. stable_test _ (λ out. denied (λ h. out (h.part_registry key part at)));
  notice_registry = λ key notice at. stable_test _ (λ out. denied (λ h. out (h.notice_registry key notice at)));
  release_registry = λ reference release at. stable_test _ (λ out. denied (λ h. out (h.release_registry reference release at)));
  hold_registry = λ reference hold at. stable_test _ (λ out. denied (λ h. out (h.hold_registry reference hold at)));
  released = λ reference release at. stable_test _ (λ out. denied (λ h. out (h.released reference release at)));
  series = λ key part at n e. stable_test _ (λ out. denied (λ h. out (h.series key part at n e)));
  numbers = λ key notice at n e. stable_test _ (λ out. denied (λ h. out (h.numbers key notice at n e)));
  verdict_parts = λ key notice rev at of. stable_test _ (λ out. denied (λ h. out (h.verdict_parts key notice rev at of)));
  one_verdict = λ j k m n rev at_j at_k day of_m of_n. stable_notice_key j k (λ out. denied (λ h. out (h.one_verdict j k m n rev at_j at_k day of_m of_n)));
  due = λ key part at lt. stable_test _ (λ out. denied (λ h. out (h.due key part at lt)));
  one_receipt = λ j k m n at_j at_k day is_m is_n. stable_notice_key j k (λ out. denied (λ h. out (h.one_receipt j k m n at_j at_k day is_m is_n)));
  one_absence = λ j k m n at_j at_k day is_m is_n. stable_notice_key j k (λ out. denied (λ h. out (h.one_absence j k m n at_j at_k day is_m is_n)));
}

-- ---- damaged: no state

-- the volume of whole records is that of the row
volume_stands : (rows : Rows) (image : List ℕ) (state : State) → StandsFor rows image state → (meta : MetaRow) (number : ℕ) → first_meta rows ≡ Some meta → bytes_at image 0 4096 ≡ head_of number → IsRowOf meta number image
volume_stands rows image state s meta number is head =
    let row = meta_in_form rows s.records s.in_form in
    let same : row.0 ≡ meta = same_Some row.0 meta (sym row.1 ∙ is) in
    subst (λ m. IsRowOf m number image) same (record {
      number_is = row.2.digits ∙ digits_by_head s.records.number number (sym s.good.volume.head ∙ head);
      size = s.good.volume.size ∙ ap (λ n. 4096 * n) (sym row.2.blocks);
    })

not_both : (form : Form) (damage : rows_damage.RowDamage) (records : Records) → form ≡ OutOfForm damage → form ≡ InForm records → ⊥
not_both form damage records p q = cc

pub damaged_stands : (damage : Damage) (rows : Rows) (image : List ℕ) (state : State) → IsDamaged damage rows image → ¬ StandsFor rows image state
damaged_stands NoRecord rows image state none s = let row = meta_in_form rows s.records s.in_form in none-some row.0 (sym none ∙ row.1)
damaged_stands Head rows image state denied s = let m = head_in_range s.records.number in denied m.0 m.1 (s.good.volume.head ∙ sym m.2)
damaged_stands Volume rows image state d s = d.5 (volume_stands rows image state s d.0 d.1 d.3 d.4)
damaged_stands Schema rows image state out s = not_both _ form.Schema s.records out s.in_form
damaged_stands FormDamage rows image state out s = not_both _ form.Form s.records out s.in_form
damaged_stands ExtentDamage rows image state d s = d.2 (subst HaveExtentsInRange (InForm-injective s.records d.0 (sym s.in_form ∙ d.1)) s.good.whole.extents)
damaged_stands Overlap rows image state d s = d.2 (subst HaveBlocksOnce (InForm-injective s.records d.0 (sym s.in_form ∙ d.1)) s.good.whole.once)
damaged_stands Link rows image state d s = d.2 (subst AreLinked (InForm-injective s.records d.0 (sym s.in_form ∙ d.1)) s.good.whole.linked)
damaged_stands Digest rows image state none s = absurd none

-- ---- not damaged: one state

module _ (rows : Rows) (image : List ℕ) (undamaged : (damage : Damage) → ¬ IsDamaged damage rows image) where
  module _ (records : Records) (is : form_of rows ≡ InForm records) where
    row : (meta : MetaRow) × (first_meta rows ≡ Some meta) × IsRecordsOf meta records
    row = meta_in_form rows records is

    head : bytes_at image 0 4096 ≡ head_of records.number
    head = stable _ (text_decides (bytes_at image 0 4096) (head_of records.number)) (λ other.
        undamaged Head (λ number lt e. undamaged Volume (row.0, number, lt, row.1, e, λ of. other (e ∙ head_by_digits number records.number (sym of.number_is ∙ row.2.digits)))))

    size : length image ≡ 4096 * records.blocks
    size = stable _ (Decides-eqb (length image) (4096 * records.blocks)) (λ other.
        let m = head_in_range records.number in undamaged Volume (row.0, m.0, m.1, row.1, head ∙ sym m.2, λ of. other (of.size ∙ ap (λ n. 4096 * n) row.2.blocks)))

    in_form_stands : (state : State) × StandsFor rows image state
    in_form_stands = (
      state_in records image,
      record {
        records = records;
        in_form = is;
        good = record {
          whole = record {
            extents = stable_range records (λ out. undamaged ExtentDamage (records, is, out));
            once = stable_once records (λ out. undamaged Overlap (records, is, out));
            linked = stable_linked records (λ out. undamaged Link (records, is, out));
          };
          volume = record { head = head; size = size };
        };
        meaning = refl;
      },
    )

  undamaged_stands : (state : State) × StandsFor rows image state
  undamaged_stands = by (form_of rows) refl
    where
      by_meta : (o : Option MetaRow) → first_meta rows ≡ o → form_of rows ≡ NoVault → ⊥
      by_meta None none e = undamaged NoRecord none
      by_meta (Some meta) some e = row_in_form rows meta some e

      by : (f : Form) → form_of rows ≡ f → (state : State) × StandsFor rows image state
      by NoVault e = absurd (by_meta (first_meta rows) refl e)
      by (OutOfForm form.Schema) e = absurd (undamaged Schema e)
      by (OutOfForm form.Form) e = absurd (undamaged FormDamage e)
      by (InForm records) e = in_form_stands records e

-- ---- the first damage

abbrev in_order : List Damage
in_order = NoRecord ∷ Head ∷ Volume ∷ Schema ∷ FormDamage ∷ ExtentDamage ∷ Overlap ∷ Link ∷ Digest ∷ []

at_its_number : (damage : Damage) → slice_get in_order (damage_number damage) ≡ Some damage
at_its_number NoRecord = refl
at_its_number damage = refl

one_of_number : (a b : Damage) → damage_number a ≡ damage_number b → a ≡ b
one_of_number a b e = let same : Some a ≡ Some b = sym (at_its_number a) ∙ ap (slice_get in_order) e ∙ at_its_number b in cc

-- nothing is before the first
pub none_before_all : (rows : Rows) (image : List ℕ) → NoDamageBefore NoRecord rows image
none_before_all rows image earlier lt = absurd (omega arith)

-- and one step further, where the next is not true
pub none_before_next : (damage next : Damage) (rows : Rows) (image : List ℕ) → damage_number next ≡ suc (damage_number damage) → NoDamageBefore damage rows image → ¬ IsDamaged damage rows image → NoDamageBefore next rows image
none_before_next damage next rows image follows before none earlier lt wrong =
    let not_before : ¬ (damage_number earlier < damage_number damage) = λ lt. before earlier lt wrong in
    let same : damage_number earlier ≡ damage_number damage = omega arith in
    none (subst (λ d. IsDamaged d rows image) (one_of_number earlier damage same) wrong)

told_once : (rows : Rows) (image : List ℕ) (a b : Damage) → IsFirstDamage a rows image → IsFirstDamage b rows image → a ≡ b
told_once rows image a b one other =
    let not_before : ¬ (damage_number a < damage_number b) = λ lt. other.first a lt one.is_true in
    let not_after : ¬ (damage_number b < damage_number a) = λ lt. one.first b lt other.is_true in
    one_of_number a b (omega arith)

pub is_refinement : IsRefinement
is_refinement = record { none = damaged_stands; some = undamaged_stands; one = stands_for_one; told_once = told_once }
