-- The orders of the keys are total, tell all keys apart, and keep registries, days and revisions together.
use Rattle.std.proofs.Common.{◌≡◌, ◌≤◌, ℕ, List, false, refl, sym, ap, ◌∙◌, arith}
use Rattle.std.specs.Ordering.{nat_cmp, is_gt, ordering_then, ordering_index}
use Rattle.std.specs.declared.cmp.Ordering.{Ordering}
use Rattle.std.specs.declared.cmp.Ordering.TheVariants.{Less, Equal, Greater}
use Rattle.std.specs.FinMap.{IsAntisymmetric}
use Rattle.std.proofs.lemmas.Cmp.{alike_right}
use Rattle.std.proofs.lemmas.Map.Lookups.{exact_pairs, exact_bytes, exact_unsigned}
use Rattle.std.specs.Cmp.{IsTotalOrder, nat_cmp_total, on_total, then_total}
use Rattle.std.specs.Cmp.Lexicographic.{nat_list_cmp_total}
use Rattle.custody_records.specs.Keys.{text_cmp, PartKey, part_cmp, day_cmp, revision_cmp, NoticeKey, notice_cmp}

pub text_total : IsTotalOrder text_cmp
text_total = nat_list_cmp_total

pub text_exact : IsAntisymmetric text_cmp
text_exact = exact_bytes

pub part_total : IsTotalOrder part_cmp
part_total = then_total (on_total (λ (k : PartKey). k.tld) nat_list_cmp_total) (then_total (on_total (λ (k : PartKey). k.day) nat_cmp_total) (then_total (on_total (λ (k : PartKey). k.rev) nat_cmp_total) (on_total (λ (k : PartKey). k.part) nat_cmp_total)))

pub part_exact : IsAntisymmetric part_cmp
part_exact a b h = ap (λ (p : List ℕ × (ℕ × (ℕ × ℕ))). record { tld = p.0; day = p.1.0; rev = p.1.1.0; part = p.1.1.1 })
    (exact_pairs text_cmp (λ (x y : ℕ × (ℕ × ℕ)). ordering_then (nat_cmp x.0 y.0) (ordering_then (nat_cmp x.1.0 y.1.0) (nat_cmp x.1.1 y.1.1))) exact_bytes
    (exact_pairs nat_cmp (λ (x y : ℕ × ℕ). ordering_then (nat_cmp x.0 y.0) (nat_cmp x.1 y.1)) exact_unsigned (exact_pairs nat_cmp nat_cmp exact_unsigned exact_unsigned))
    (a.tld, (a.day, (a.rev, a.part))) (b.tld, (b.day, (b.rev, b.part))) h)

pub notice_total : IsTotalOrder notice_cmp
notice_total = then_total (on_total (λ (k : NoticeKey). k.tld) nat_list_cmp_total) (on_total (λ (k : NoticeKey). k.number) nat_cmp_total)

pub notice_exact : IsAntisymmetric notice_cmp
notice_exact a b h = ap (λ (p : List ℕ × ℕ). record { tld = p.0; number = p.1 }) (exact_pairs text_cmp nat_cmp exact_bytes exact_unsigned (a.tld, a.number) (b.tld, b.number) h)

-- ---- along an order, keys come no closer to the front of a group

-- of two keys in order, the second stands no further before a third
ascends : {K : Type 0} {R : K → K → Ordering} → IsTotalOrder R → (a b c : K) → is_gt (R a b) ≡ false → ordering_index (R a c) ≤ ordering_index (R b c)
ascends {K} {R} o a b c low = by (R a b) (R b c) refl refl low
  where
    by : (first second : Ordering) → R a b ≡ first → R b c ≡ second → is_gt first ≡ false → ordering_index (R a c) ≤ ordering_index (R b c)
    by Less Less is next low = let less = o.trans a b c is next in rw (less, next) (omega arith)
    by Less Equal is next low = let less : R a c ≡ Less = sym (alike_right o b c a next) ∙ is in rw (less, next) (omega arith)
    by Less Greater is next low = rw next (high (R a c))
      where
        high : (r : Ordering) → ordering_index r ≤ 2
        high r = grind arith
    by Equal second is next low = let same : R a c ≡ R b c = o.congr a b c is in rw same (omega arith)
    by Greater second is next low = cc

first_in_order : (o rest : Ordering) → ordering_then o rest ≡ Less → is_gt o ≡ false
first_in_order o rest e = grind arith

two_in_order : (a b c : Ordering) → ordering_then a (ordering_then b c) ≡ Less → is_gt (ordering_then a b) ≡ false
two_in_order a b c e = grind arith

three_in_order : (a b c d : Ordering) → ordering_then a (ordering_then b (ordering_then c d)) ≡ Less → is_gt (ordering_then a (ordering_then b c)) ≡ false
three_in_order a b c d e = grind arith

pub part_registries_ascend : (tld : List ℕ) (a b : PartKey) → part_cmp a b ≡ Less → ordering_index (text_cmp a.tld tld) ≤ ordering_index (text_cmp b.tld tld)
part_registries_ascend tld a b less = ascends text_total a.tld b.tld tld (first_in_order (text_cmp a.tld b.tld) _ less)

pub notice_registries_ascend : (tld : List ℕ) (a b : NoticeKey) → notice_cmp a b ≡ Less → ordering_index (text_cmp a.tld tld) ≤ ordering_index (text_cmp b.tld tld)
notice_registries_ascend tld a b less = ascends text_total a.tld b.tld tld (first_in_order (text_cmp a.tld b.tld) _ less)

day_total : IsTotalOrder day_cmp
day_total = then_total (on_total (λ (k : List ℕ × ℕ). k.0) nat_list_cmp_total) (on_total (λ (k : List ℕ × ℕ). k.1) nat_cmp_total)

pub part_days_ascend : (place : List ℕ × ℕ) (a b : PartKey) → part_cmp a b ≡ Less → ordering_index (day_cmp (a.tld, a.day) place) ≤ ordering_index (day_cmp (b.tld, b.day) place)
part_days_ascend place a b less = ascends day_total (a.tld, a.day) (b.tld, b.day) place (two_in_order (text_cmp a.tld b.tld) (nat_cmp a.day b.day) _ less)

revision_total : IsTotalOrder revision_cmp
revision_total = then_total (on_total (λ (k : PartKey). k.tld) nat_list_cmp_total) (then_total (on_total (λ (k : PartKey). k.day) nat_cmp_total) (on_total (λ (k : PartKey). k.rev) nat_cmp_total))

pub part_revisions_ascend : (place a b : PartKey) → part_cmp a b ≡ Less → ordering_index (revision_cmp a place) ≤ ordering_index (revision_cmp b place)
part_revisions_ascend place a b less =
    ascends revision_total a b place (three_in_order (text_cmp a.tld b.tld) (nat_cmp a.day b.day) (nat_cmp a.rev b.rev) (nat_cmp a.part b.part) less)

-- ---- the first of the fields is the registry

first_less : (o rest : Ordering) → o ≡ Less → ordering_then o rest ≡ Less
first_less o rest e = grind arith

first_equal : (o rest : Ordering) → ordering_then o rest ≡ Equal → o ≡ Equal
first_equal o rest e = grind arith

pub part_by_registry : (a b : PartKey) → text_cmp a.tld b.tld ≡ Less → part_cmp a b ≡ Less
part_by_registry a b less = first_less (text_cmp a.tld b.tld) _ less

pub notice_by_registry : (a b : NoticeKey) → text_cmp a.tld b.tld ≡ Less → notice_cmp a b ≡ Less
notice_by_registry a b less = first_less (text_cmp a.tld b.tld) _ less

pub part_of_registry : (tld : List ℕ) (key : PartKey) → text_cmp key.tld tld ≡ Equal → key.tld ≡ tld
part_of_registry tld key same = text_exact key.tld tld same

pub notice_of_registry : (tld : List ℕ) (key : NoticeKey) → text_cmp key.tld tld ≡ Equal → key.tld ≡ tld
notice_of_registry tld key same = text_exact key.tld tld same

pub part_of_day : (place : List ℕ × ℕ) (key : PartKey) → day_cmp (key.tld, key.day) place ≡ Equal → key.tld ≡ place.0
part_of_day place key same = text_exact key.tld place.0 (first_equal (text_cmp key.tld place.0) _ same)

pub part_of_revision : (place key : PartKey) → revision_cmp key place ≡ Equal → key.tld ≡ place.tld
part_of_revision place key same = text_exact key.tld place.tld (first_equal (text_cmp key.tld place.tld) _ same)
