-- Records belong together exactly where each record finds among the others what it has to.
use Rattle.std.proofs.Common.{◌≡◌, ℕ, zero, suc, ◌-◌, ◌<◌, List, Bool, true, false, ◌&&◌, ◌||◌, ◌==◌, Option, Some, None, refl, sym, ◌∙◌, ap, subst, arith}
use Rattle.std.specs.Prelude.{is_some, nat_le}
use Rattle.std.specs.Bool.{Decides}
use Rattle.std.specs.List.{list_all}
use Rattle.std.specs.FinMap.{get}
use Rattle.std.proofs.lemmas.Bool.Decides.{Decides-and, nat_tests}
use Rattle.custody_records.specs.Keys.{PartKey, NoticeKey}
use Rattle.custody_records.specs.inside.Orders.{text_total, text_exact, part_total, part_exact, notice_total, notice_exact}
use Rattle.custody_records.specs.Records.{PartRecord, Notice, Release, Hold, Records}
use Rattle.custody_machine.specs.NameReading.{read_name}
use Rattle.custody_machine.specs.State.{key_with_part, has_notice}
use Rattle.custody_machine.specs.Machine.{is_failure_of}
use Rattle.custody_machine.specs.StoredState.{AreLinked, is_part_of, is_name_of_part, revision_of}
use Rattle.custody_rules.specs.inside.Links.{is_part_linked, has_parts, is_notice_linked, is_release_linked, is_hold_linked, each_passes}
use Rattle.custody_rules.specs.inside.UniqueKeys.{HaveNoRivals, has_failed}
use Rattle.custody_rules.proofs.Tables.{each_decides}

itself : (b : Bool) → Decides b (b ≡ true)
itself b = (λ e. e, λ e. e)

above_zero : (n : ℕ) → (suc n == 0) ≡ false
above_zero n = grind (arith, nat_tests)

above_one : (n : ℕ) → nat_le (suc (suc n)) 1 ≡ false
above_one n = grind (arith, nat_tests)

-- what is asked of the number before, where there is one from 1 on
before_decides : (n : ℕ) (f : ℕ → Bool) → Decides (nat_le n 1 || f (n - 1)) ((m : ℕ) → n ≡ suc (suc m) → f (suc m) ≡ true)
before_decides zero f = (λ h m e. absurd (omega arith), λ h. refl)
before_decides (suc zero) f = (λ h m e. absurd (omega arith), λ h. refl)
before_decides (suc (suc n)) f =
    let before : suc (suc n) - 1 ≡ suc n = omega arith in
    let is : (nat_le (suc (suc n)) 1 || f (suc (suc n) - 1)) ≡ f (suc n) = (λ i. above_one n i || f (before i)) in
    (λ h m e. let same : n ≡ m = omega arith in ap (λ k. f (suc k)) (sym same) ∙ sym is ∙ h, λ h. is ∙ h n refl)

above_zero_decides : (n : ℕ) (b : Bool) → Decides (n == 0 || b) (0 < n → b ≡ true)
above_zero_decides zero b = (λ h above. absurd (omega arith), λ h. refl)
above_zero_decides (suc n) b = (λ h above. sym (ap (λ t. t || b) (above_zero n)) ∙ h, λ h. ap (λ t. t || b) (above_zero n) ∙ h (omega arith))

module _ (records : Records) where
  -- ---- parts

  abbrev PartLinks : PartKey → PartRecord → Type 0
  PartLinks key part =
      (is_some (get records.registries key.tld) ≡ true)
      × (((n : ℕ) → key.part ≡ suc (suc n) → is_part_of part.kind (get records.parts (key_with_part key (suc n))) ≡ true)
      × (0 < key.rev → has_notice records.notices key.tld key.day (is_failure_of (key.rev - 1)) ≡ true))

  part_decides : (key : PartKey) (part : PartRecord) → Decides (is_part_linked records (has_failed records.notices) key part) (PartLinks key part)
  part_decides key part =
      Decides-and _ _ (itself _) (Decides-and _ _ (before_decides key.part (λ n. is_part_of part.kind (get records.parts (key_with_part key n)))) (above_zero_decides key.rev _))

  -- ---- notices

  parts_decide : (tld : List ℕ) (day : ℕ) (rev : Option ℕ) → Decides (has_parts records tld day rev) ((n : ℕ) → rev ≡ Some n → is_some (get records.parts (record { tld = tld; day = day; rev = n; part = 1 })) ≡ true)
  parts_decide tld day None = (λ h n e. cc, λ h. refl)
  parts_decide tld day (Some rev) = (λ h n e. let same : rev ≡ n = cc in subst (λ r. is_some (get records.parts (record { tld = tld; day = day; rev = r; part = 1 })) ≡ true) same h, λ h. h rev refl)

  abbrev NoticeLinks : NoticeKey → Notice → Type 0
  NoticeLinks key notice =
      (is_some (get records.registries key.tld) ≡ true)
      × (((n : ℕ) → key.number ≡ suc (suc n) → is_some (get records.notices (record { tld = key.tld; number = suc n })) ≡ true)
      × ((rev : ℕ) → revision_of notice.kind ≡ Some rev → is_some (get records.parts (record { tld = key.tld; day = notice.day; rev = rev; part = 1 })) ≡ true))

  notice_decides : (key : NoticeKey) (notice : Notice) → Decides (is_notice_linked records key notice) (NoticeLinks key notice)
  notice_decides key notice =
      Decides-and _ _ (itself _)
      (Decides-and _ _ (before_decides key.number (λ n. is_some (get records.notices (record { tld = key.tld; number = n }))))
      (parts_decide key.tld notice.day (revision_of notice.kind)))

  -- ---- releases

  abbrev ReleaseLinks : List ℕ → Release → Type 0
  ReleaseLinks reference release = (is_some (get records.registries release.tld) ≡ true) × (list_all (λ text. is_name_of_part records release.tld (read_name text)) release.names ≡ true)

  release_decides : (reference : List ℕ) (release : Release) → Decides (is_release_linked records release) (ReleaseLinks reference release)
  release_decides reference release = Decides-and _ _ (itself _) (itself _)

  abbrev HoldLinks : List ℕ → Hold → Type 0
  HoldLinks reference hold = is_some (get records.registries hold.tld) ≡ true

  -- ---- all of them

  abbrev Links : Type 0
  Links = ((key : PartKey) (part : PartRecord) → get records.parts key ≡ Some part → PartLinks key part)
      × (((key : NoticeKey) (notice : Notice) → get records.notices key ≡ Some notice → NoticeLinks key notice)
      × (((reference : List ℕ) (release : Release) → get records.releases reference ≡ Some release → ReleaseLinks reference release)
      × ((reference : List ℕ) (hold : Hold) → get records.holds reference ≡ Some hold → HoldLinks reference hold)))

  are_links : AreLinked records → Links
  are_links l = (
    λ key part at. (l.part_registry key part at, (l.series key part at, l.due key part at)),
    (
      λ key notice at. (l.notice_registry key notice at, (l.numbers key notice at, λ rev. l.verdict_parts key notice rev at)),
      (λ reference release at. (l.release_registry reference release at, l.released reference release at), l.hold_registry),
    ),
  )

  -- ---- the tests of them

  abbrev pub parts_test : Bool
  parts_test = each_passes (is_part_linked records (has_failed records.notices)) records.parts

  abbrev pub notices_test : Bool
  notices_test = each_passes (is_notice_linked records) records.notices

  abbrev pub releases_test : Bool
  releases_test = each_passes (λ (_ : List ℕ). is_release_linked records) records.releases

  abbrev pub holds_test : Bool
  holds_test = each_passes (λ (_ : List ℕ). is_hold_linked records) records.holds

  abbrev pub references_test : Bool
  references_test = releases_test && holds_test

  abbrev pub passes : Bool
  passes = parts_test && (notices_test && references_test)

  -- each record finds among the others what it has to
  each_linked : Decides passes Links
  each_linked =
      Decides-and _ _ (each_decides part_total part_exact (is_part_linked records (has_failed records.notices)) PartLinks part_decides records.parts)
      (Decides-and _ _ (each_decides notice_total notice_exact (is_notice_linked records) NoticeLinks notice_decides records.notices)
      (Decides-and _ _ (each_decides text_total text_exact (λ (_ : List ℕ). is_release_linked records) ReleaseLinks release_decides records.releases)
      (each_decides text_total text_exact (λ (_ : List ℕ). is_hold_linked records) HoldLinks (λ reference hold. itself _) records.holds)))

  pub some_broken : passes ≡ false → ¬ AreLinked records
  some_broken some linked = let all = each_linked.1 (are_links linked) in cc

  -- where no day has two notices of which it has one at most
  links_are : HaveNoRivals records.notices → Links → AreLinked records
  links_are only h = record {
    part_registry = λ key part at. (h.0 key part at).0;
    notice_registry = λ key notice at. (h.1.0 key notice at).0;
    release_registry = λ reference release at. (h.1.1.0 reference release at).0;
    hold_registry = h.1.1.1;
    released = λ reference release at. (h.1.1.0 reference release at).1;
    series = λ key part at. (h.0 key part at).1.0;
    numbers = λ key notice at. (h.1.0 key notice at).1.0;
    verdict_parts = λ key notice rev at. (h.1.0 key notice at).1.1 rev;
    one_verdict = only.one_verdict;
    due = λ key part at. (h.0 key part at).1.1;
    one_receipt = only.one_receipt;
    one_absence = only.one_absence;
  }

  pub all_linked : HaveNoRivals records.notices → passes ≡ true → AreLinked records
  all_linked only all = links_are only (each_linked.0 all)

  pub linked_only : AreLinked records → HaveNoRivals records.notices
  linked_only linked = record { one_verdict = linked.one_verdict; one_receipt = linked.one_receipt; one_absence = linked.one_absence }
