-- A revision that has failed, and the notices before that, as the records tell them.
use Rattle.std.proofs.Common.{◌≡◌, ℕ, List, Option, Some, None, Bool, true, false, ◌&&◌, ◌==◌, nat_lt, cond, refl, sym, ◌∙◌, ap, is_none, is_some}
use Rattle.std.specs.Prelude.{option_map, bytes_eq}
use Rattle.std.specs.List.{filter, find}
use Rattle.std.specs.Option.{option_and_then}
use Rattle.std.specs.Ordering.{is_eq}
use Rattle.std.specs.FinMap.{FinMap, entries, entries_sorted, entries-from_sorted, get}
use Rattle.std.specs.FinMap.Entries.{is_sorted-where_key}
use Rattle.std.proofs.lemmas.Bool.{and_parts}
use Rattle.std.proofs.lemmas.Bool.Decides.{Decides-eqb}
use Rattle.std.proofs.lemmas.Map.Text.{is_eq-slice_cmp}
use Rattle.deposit_name.specs.declared.kinds.Kind.TheVariants.{Full}
use Rattle.deposit_name.proofs.KindLemmas.{same_kind_decides}
use Rattle.desk.specs.declared.notices.Notice as desk
use Rattle.desk.specs.declared.notices.NoticeKind.{NoticeKind}
use Rattle.desk.specs.declared.notices.NoticeKind.TheVariants.{Receipt, Failure, Absence}
use Rattle.custody_records.specs.Keys.{NoticeKey, PartKey, notice_cmp, text_cmp}
use Rattle.custody_records.specs.Records.{Notice, PartRecord, Records, key_of}
use Rattle.custody_records.specs.TypedRecords.{notice_entry, notice_key, notice_value}
use Rattle.custody_records.specs.inside.Orders.{notice_total}
use Rattle.custody_records.proofs.GroupLemmas.{filter_entries}
use Rattle.custody_machine.specs.declared.answers.Refusal.{Refusal}
use Rattle.custody_machine.specs.declared.answers.Refusal.TheVariants.{RegistryUnknown, DroppedAfterKeeping, NoFailure}
use Rattle.custody_machine.specs.Explaining.{explain_refusal, is_before, notices_before, records_before}
use Rattle.custody_machine.specs.Machine.{first_part, is_failure_of}
use Rattle.custody_machine.specs.State.{is_notice_of}
use Rattle.custody_machine.specs.StoredState.{AreLinked, part_of, revision_of, state_in}
use Rattle.custody_machine.proofs.Entries.{get_found, passes_found}
use Rattle.custody_machine.proofs.SameValues.{text_decides}
use Rattle.custody_rules.specs.declared.explaining.StatedFailure.{StatedFailure}
use Rattle.custody_rules.specs.Explaining.{AreNoticesOf, HasFailed, failure_key}
use Rattle.custody_rules.specs.Judging.{count_parts_in, has_dropped_part_in, if_of_kind}
use Rattle.custody_rules.proofs.Chains.{filter_both}
use Rattle.custody_rules.proofs.Judged.{count_in_state, dropped_in_state, recorded_in_state}

-- ---- the notices before one of them

entries_before : (notices : FinMap notice_cmp Notice) (key : NoticeKey) → entries (notices_before notices key) ≡ filter (is_before key) (entries notices)
unfolding notices_before
entries_before notices key =
    entries-from_sorted notice_cmp (filter (is_before key) (entries notices)) (is_sorted-where_key notice_cmp (λ (k : NoticeKey). bytes_eq k.tld key.tld && nat_lt k.number key.number) (entries notices) (entries_sorted notices))

-- of the rows of a registry those with lower numbers
pub rows_before : (records : Records) (key : NoticeKey) (rows : List desk.Notice) → AreNoticesOf records key.tld rows → AreNoticesOf (records_before records key) key.tld (filter (λ (n : desk.Notice). nat_lt n.number key.number) rows)
rows_before records key rows is =
    sym (filter_entries notice_key notice_value is_lower rows) ∙ ap (filter is_lower) is ∙ filter_both is_of_registry is_lower (entries records.notices)
    ∙ (λ i. filter (λ (e : NoticeKey × Notice). once (is_of_registry e) (bytes_eq e.0.tld key.tld) (is_lower e) (is_eq-slice_cmp e.0.tld key.tld) i) (entries records.notices))
    ∙ sym (filter_both (is_before key) is_of_registry (entries records.notices)) ∙ ap (filter is_of_registry) (sym (entries_before records.notices key))
  where
    is_lower : NoticeKey × Notice → Bool
    is_lower e = nat_lt e.0.number key.number

    is_of_registry : NoticeKey × Notice → Bool
    is_of_registry e = is_eq (text_cmp e.0.tld key.tld)

    once : (a b c : Bool) → a ≡ b → (a && c) ≡ ((b && c) && a)
    once true true true e = refl
    once true true false e = refl
    once false false c e = refl
    once a b c e = cc

-- ---- refusals

abbrev explain_refusals : (RegistryUnknown NoFailure DroppedAfterKeeping : Bool) → Option Refusal
explain_refusals a b c = cond a (Some RegistryUnknown) (cond b (Some NoFailure) (cond c (Some DroppedAfterKeeping) None))

-- a revision, by the place of its first part
abbrev pub first_place : List ℕ → ℕ → ℕ → PartKey
first_place tld day rev = record { tld = tld; day = day; rev = rev; part = 1 }

abbrev pub failure_in : Records → List ℕ → ℕ → ℕ → Option (NoticeKey × Notice)
failure_in records tld day rev = find (is_notice_of tld day (is_failure_of rev)) (entries records.notices)

not_none : (o : Option ℕ) → is_some o ≡ true → is_none o ≡ false
not_none None e = cc
not_none (Some first) e = refl

-- in a registry that is known, of a revision that has failed
module _ (records : Records) (tld : List ℕ) (day rev : ℕ) (known : is_some (get records.registries tld) ≡ true) (entry : NoticeKey × Notice) (found : failure_in records tld day rev ≡ Some entry) where
  refusal_is : (lost : Bool) → has_dropped_part_in records (first_place tld day rev) ≡ lost → (image : List ℕ) → explain_refusal (state_in records image) tld day rev ≡ explain_refusals false false lost
  refusal_is lost is image = λ i. explain_refusals (not_none (get records.registries tld) known i) (is_none (found i)) ((dropped_in_state records image (record { tld = tld; day = day; kind = Full; part = 1; rev = rev }) ∙ is) i)

  pub dropped_since : has_dropped_part_in records (first_place tld day rev) ≡ true → (image : List ℕ) → explain_refusal (state_in records image) tld day rev ≡ Some DroppedAfterKeeping
  dropped_since = refusal_is true

  pub not_refused : has_dropped_part_in records (first_place tld day rev) ≡ false → (image : List ℕ) → explain_refusal (state_in records image) tld day rev ≡ None
  not_refused = refusal_is false

-- ---- what is found

revision_is : (rev : ℕ) (kind : NoticeKind) → is_failure_of rev kind ≡ true → revision_of kind ≡ Some rev
revision_is rev (Receipt of id) fails = cc
revision_is rev (Failure of id check) fails = ap Some ((Decides-eqb of rev).0 fails)
revision_is rev Absence fails = cc

module _ (records : Records) (tld : List ℕ) (day rev : ℕ) (notice : desk.Notice) (found : failure_in records tld day rev ≡ Some (notice_entry notice)) where
  abbrev IsOfDay : Type 0
  IsOfDay = (notice.tld ≡ tld) × (notice.day ≡ day) × (is_failure_of rev notice.kind ≡ true)

  of_day : IsOfDay
  of_day =
      let both = and_parts (bytes_eq notice.tld tld) (notice.day == day && is_failure_of rev notice.kind) (passes_found (is_notice_of tld day (is_failure_of rev)) (entries records.notices) (notice_entry notice) found) in
      let rest = and_parts (notice.day == day) (is_failure_of rev notice.kind) both.1 in
      ((text_decides notice.tld tld).0 both.0, (Decides-eqb notice.day day).0 rest.0, rest.1)

  pub fails : is_failure_of rev notice.kind ≡ true
  fails = of_day.2

  -- the first part of its revision is recorded
  pub first_recorded : AreLinked records → is_some (get records.parts (first_place tld day rev)) ≡ true
  first_recorded linked =
      (λ i. is_some (get records.parts (first_place (sym of_day.0 i) (sym of_day.1 i) rev)))
      ∙ linked.verdict_parts (notice_key notice) (notice_value notice) rev (get_found notice_total records.notices (is_notice_of tld day (is_failure_of rev)) (notice_entry notice) found) (revision_is rev notice.kind fails)

  -- what its notice tells and what was stated
  module _ (stated : StatedFailure) (place : notice_key notice ≡ failure_key stated) (day_is : stated.statement.day ≡ notice.day) (told : notice.kind ≡ Failure stated.statement.rev stated.statement.id stated.check)
      (part : PartRecord) (recorded : get records.parts (first_place tld day rev) ≡ Some part) (kind : part.kind ≡ stated.statement.kind) (parts : stated.statement.parts ≡ count_parts_in records (first_place tld day rev)) where
    registry : stated.statement.tld ≡ tld
    registry = sym (ap (λ (k : NoticeKey). k.tld) place) ∙ of_day.0

    day_right : stated.statement.day ≡ day
    day_right = day_is ∙ of_day.1

    rev_right : stated.statement.rev ≡ rev
    rev_right = (Decides-eqb stated.statement.rev rev).0 (sym (ap (is_failure_of rev) told) ∙ fails)

    first_place_is : key_of (first_part stated.statement) ≡ first_place tld day rev
    first_place_is = λ i. first_place (registry i) (day_right i) (rev_right i)

    first_is : get records.parts (key_of (first_part stated.statement)) ≡ Some part
    first_is = ap (get records.parts) first_place_is ∙ recorded

    under : (image : List ℕ) → is_some (option_map (part_of image) (option_and_then (if_of_kind stated.statement.kind) (get records.parts (key_of (first_part stated.statement))))) ≡ true
    under image = ap (λ o. is_some (option_map (part_of image) (option_and_then (if_of_kind stated.statement.kind) o))) first_is
        ∙ ap (λ b. is_some (option_map (part_of image) (cond b (Some part) None))) ((same_kind_decides part.kind stated.statement.kind).1 kind)

    pub has_failed : ((image : List ℕ) → explain_refusal (state_in records image) tld day rev ≡ None) → HasFailed records tld day rev stated
    has_failed held = record {
      registry = registry;
      day_right = day_right;
      rev_right = rev_right;
      notice = notice_value notice;
      failed = λ image. record {
        found = (λ i. failure_in records (registry i) (day_right i) (rev_right i)) ∙ found ∙ ap (λ (k : NoticeKey). Some (k, notice_value notice)) place;
        told = told;
        kind = ap is_some (recorded_in_state records image (first_part stated.statement)) ∙ under image;
        parts = count_in_state records image (first_part stated.statement) ∙ ap (count_parts_in records) first_place_is ∙ sym parts;
      };
      held = held;
      first = part;
      first_recorded = first_is;
      first_kind = kind;
    }
