-- That what an open custody keeps in memory can be known in one way only: so it may stand in the type.
use Rattle.std.specs.Prelude.{◌≡◌, ℕ, List, [], ◌∷◌, Option, Some, None, Bool}
use mathlib.Core.HLevel.{⊥_prop}
use Rattle.std.specs.Coded.{Coded, Coded-set, code_by, coded×, coded_list, coded_ℕ, coded_bool, ×_prop, Π_prop, Unit-prop, le_prop}
use mathlib.Core.Path.{refl}
use Rattle.extent_map.specs.declared.extent.Extent.{Extent}
use Rattle.vault_volume.specs.Extents.{AreApart}
use Rattle.custody_records.specs.Keys.{PartKey, NoticeKey}
use Rattle.custody_records.specs.Records.{Records}
use Rattle.custody_machine.specs.StoredState.{ForExtents, AreExtents, HaveBlocksOnce, AreLinked, AreWhole}
use Rattle.custody_machine.specs.Custody.{IsPlaceable, IsInOrder}

part_key_code : Coded PartKey
part_key_code = code_by (List ℕ × (ℕ × (ℕ × ℕ))) (coded× (coded_list coded_ℕ) (coded× coded_ℕ (coded× coded_ℕ coded_ℕ))) (λ k. (k.tld, (k.day, (k.rev, k.part)))) (λ t. record { tld = t.0; day = t.1.0; rev = t.1.1.0; part = t.1.1.1 }) (λ _. refl)

notice_key_code : Coded NoticeKey
notice_key_code = code_by (List ℕ × ℕ) (coded× (coded_list coded_ℕ) coded_ℕ) (λ k. (k.tld, k.number)) (λ t. record { tld = t.0; number = t.1 }) (λ _. refl)

is_true_prop : {a b : Bool} → IsProp (a ≡ b)
is_true_prop {a} {b} = Coded-set coded_bool a b

AreExtents-prop : (blocks len : ℕ) (extents : List Extent) → IsProp (AreExtents blocks len extents)
AreExtents-prop blocks len extents = λ a b i. record {
  each = λ k d lt. (le_prop (a.each k d lt).0 (b.each k d lt).0 i, le_prop (a.each k d lt).1 (b.each k d lt).1 i, le_prop (a.each k d lt).2 (b.each k d lt).2 i);
  counts = Coded-set coded_ℕ _ _ a.counts b.counts i;
}

ForExtents-prop : (o : Option (List Extent)) (P : List Extent → Type 0) → ((extents : List Extent) → IsProp (P extents)) → IsProp (ForExtents o P)
ForExtents-prop None P each = Unit-prop
ForExtents-prop (Some extents) P each = each extents

AreApart-prop : (extents : List Extent) → IsProp (AreApart extents)
AreApart-prop [] = Unit-prop
AreApart-prop (e ∷ extents) = ×_prop (Π_prop λ _. Π_prop λ _. Π_prop λ _. ⊥_prop) (AreApart-prop extents)

AreOnce-prop : (records : Records) → IsProp (HaveBlocksOnce records)
AreOnce-prop records = λ a b i. record {
  within = (Π_prop λ key. Π_prop λ part. Π_prop λ _. ForExtents-prop part.extents AreApart AreApart-prop) a.within b.within i;
  between = (Π_prop λ j. Π_prop λ k. Π_prop λ _. Π_prop λ _. Π_prop λ _. Π_prop λ _. Π_prop λ _. Π_prop λ _. Π_prop λ _. Coded-set part_key_code j k) a.between b.between i;
}

AreLinked-prop : (records : Records) → IsProp (AreLinked records)
AreLinked-prop records = λ a b i. record {
  part_registry = (Π_prop λ _. Π_prop λ _. Π_prop λ _. is_true_prop) a.part_registry b.part_registry i;
  notice_registry = (Π_prop λ _. Π_prop λ _. Π_prop λ _. is_true_prop) a.notice_registry b.notice_registry i;
  release_registry = (Π_prop λ _. Π_prop λ _. Π_prop λ _. is_true_prop) a.release_registry b.release_registry i;
  hold_registry = (Π_prop λ _. Π_prop λ _. Π_prop λ _. is_true_prop) a.hold_registry b.hold_registry i;
  released = (Π_prop λ _. Π_prop λ _. Π_prop λ _. is_true_prop) a.released b.released i;
  series = (Π_prop λ _. Π_prop λ _. Π_prop λ _. Π_prop λ _. Π_prop λ _. is_true_prop) a.series b.series i;
  numbers = (Π_prop λ _. Π_prop λ _. Π_prop λ _. Π_prop λ _. Π_prop λ _. is_true_prop) a.numbers b.numbers i;
  verdict_parts = (Π_prop λ _. Π_prop λ _. Π_prop λ _. Π_prop λ _. Π_prop λ _. is_true_prop) a.verdict_parts b.verdict_parts i;
  one_verdict = (Π_prop λ j. Π_prop λ k. Π_prop λ _. Π_prop λ _. Π_prop λ _. Π_prop λ _. Π_prop λ _. Π_prop λ _. Π_prop λ _. Π_prop λ _. Coded-set notice_key_code j k) a.one_verdict b.one_verdict i;
  due = (Π_prop λ _. Π_prop λ _. Π_prop λ _. Π_prop λ _. is_true_prop) a.due b.due i;
  one_receipt = (Π_prop λ j. Π_prop λ k. Π_prop λ _. Π_prop λ _. Π_prop λ _. Π_prop λ _. Π_prop λ _. Π_prop λ _. Π_prop λ _. Coded-set notice_key_code j k) a.one_receipt b.one_receipt i;
  one_absence = (Π_prop λ j. Π_prop λ k. Π_prop λ _. Π_prop λ _. Π_prop λ _. Π_prop λ _. Π_prop λ _. Π_prop λ _. Π_prop λ _. Coded-set notice_key_code j k) a.one_absence b.one_absence i;
}

AreWhole-prop : (records : Records) → IsProp (AreWhole records)
AreWhole-prop records = λ a b i. record {
  extents = (Π_prop λ key. Π_prop λ part. Π_prop λ _. ForExtents-prop part.extents (AreExtents records.blocks part.len) (AreExtents-prop records.blocks part.len)) a.extents b.extents i;
  once = AreOnce-prop records a.once b.once i;
  linked = AreLinked-prop records a.linked b.linked i;
}

IsPlaceable-prop : (records : Records) (b : ℕ) → IsProp (IsPlaceable records b)
IsPlaceable-prop records b = λ x y i. (le_prop x.0 y.0 i, le_prop x.1 y.1 i, (Π_prop λ _. ⊥_prop) x.2 y.2 i)

pub IsInOrder-prop : (records : Records) (size failures : ℕ) (free : ℕ → Type 0) → ((b : ℕ) → IsProp (free b)) → IsProp (IsInOrder records size failures free)
IsInOrder-prop records size failures free each = λ a b i. record {
  whole = AreWhole-prop records a.whole b.whole i;
  blocks = Coded-set coded_ℕ _ _ a.blocks b.blocks i;
  placeable = (Π_prop λ n. ×_prop (Π_prop λ _. IsPlaceable-prop records n) (Π_prop λ _. each n)) a.placeable b.placeable i;
  count = le_prop a.count b.count i;
}
