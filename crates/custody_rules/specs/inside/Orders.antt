-- The orders of what notices tell, which tell all of it apart.
use Rattle.std.proofs.Common.{ℕ, List, Option, Some, None, refl, ap}
use Rattle.std.specs.Option.{option_cmp}
use Rattle.std.specs.Ordering.{nat_cmp, ordering_then}
use Rattle.std.specs.declared.cmp.Ordering.{Ordering}
use Rattle.std.proofs.lemmas.Map.Lookups.{CmpEqualImpliesEq, exact_pairs, exact_bytes, exact_unsigned}
use Rattle.custody_records.specs.Keys.{text_cmp}
use Rattle.custody_rules.specs.declared.chain.PassedRevision.{PassedRevision}
use Rattle.custody_rules.specs.declared.unique_keys.Subject.{Subject}
use Rattle.custody_rules.specs.declared.unique_keys.RegistryDay.{RegistryDay}
use Rattle.custody_rules.specs.declared.unique_keys.FailedRevision.{FailedRevision}

-- by registry, day and revision, the day itself before its revisions
abbrev pub subject_cmp : Subject → Subject → Ordering
subject_cmp a b = ordering_then (text_cmp a.tld b.tld) (ordering_then (nat_cmp a.day b.day) (option_cmp nat_cmp a.rev b.rev))

-- by registry and day
abbrev pub registry_day_cmp : RegistryDay → RegistryDay → Ordering
registry_day_cmp a b = ordering_then (text_cmp a.tld b.tld) (nat_cmp a.day b.day)

-- by registry, day and revision
abbrev pub failed_revision_cmp : FailedRevision → FailedRevision → Ordering
failed_revision_cmp a b = ordering_then (text_cmp a.tld b.tld) (ordering_then (nat_cmp a.day b.day) (nat_cmp a.rev b.rev))

-- by day and revision
abbrev pub passed_revision_cmp : PassedRevision → PassedRevision → Ordering
passed_revision_cmp a b = ordering_then (nat_cmp a.day b.day) (nat_cmp a.rev b.rev)

exact_revisions : CmpEqualImpliesEq (option_cmp nat_cmp)
exact_revisions None None e = refl
exact_revisions None (Some b) e = cc
exact_revisions (Some a) None e = cc
exact_revisions (Some a) (Some b) e = ap Some (exact_unsigned a b e)

pub exact_subjects : CmpEqualImpliesEq subject_cmp
exact_subjects a b e = ap (λ (p : List ℕ × (ℕ × Option ℕ)). record { tld = p.0; day = p.1.0; rev = p.1.1 })
    (exact_pairs text_cmp (λ (x y : ℕ × Option ℕ). ordering_then (nat_cmp x.0 y.0) (option_cmp nat_cmp x.1 y.1)) exact_bytes
    (exact_pairs nat_cmp (option_cmp nat_cmp) exact_unsigned exact_revisions)
    (a.tld, (a.day, a.rev)) (b.tld, (b.day, b.rev)) e)

pub exact_registry_days : CmpEqualImpliesEq registry_day_cmp
exact_registry_days a b e = ap (λ (p : List ℕ × ℕ). record { tld = p.0; day = p.1 }) (exact_pairs text_cmp nat_cmp exact_bytes exact_unsigned (a.tld, a.day) (b.tld, b.day) e)

pub exact_failed_revisions : CmpEqualImpliesEq failed_revision_cmp
exact_failed_revisions a b e = ap (λ (p : List ℕ × (ℕ × ℕ)). record { tld = p.0; day = p.1.0; rev = p.1.1 })
    (exact_pairs text_cmp (λ (x y : ℕ × ℕ). ordering_then (nat_cmp x.0 y.0) (nat_cmp x.1 y.1)) exact_bytes
    (exact_pairs nat_cmp nat_cmp exact_unsigned exact_unsigned)
    (a.tld, (a.day, a.rev)) (b.tld, (b.day, b.rev)) e)
