-- The plain program's answers are the machine's steps.
use Rattle.std.proofs.Common.{◌≡◌, ℕ, List, [], ◌∷◌, ◌++◌, length, Option, Some, None, true, false, ◌&&◌, map, refl, sym, ◌∙◌, ap, subst, is_none, Ok}
use Rattle.std.specs.List.{list_any}
use Rattle.std.specs.FinMap.{IsAntisymmetric, get, insert, from_entries, get-from_entries, from_entries_push}
use Rattle.std.specs.Cmp.{IsTotalOrder}
use Rattle.std.specs.declared.cmp.Ordering.{Ordering}
use Rattle.std.proofs.lemmas.List.{map-append}
use Rattle.std.proofs.lemmas.Map.Lookups.{exact_bytes}
use Rattle.deposit_name.specs.Name.{Name}
use Rattle.deposit_name.specs.declared.errors.NameError.{NameError}
use Rattle.deposit_name.specs.Fault.{IsFault}
use Rattle.deposit_name.proofs.KindLemmas.{same_kind_decides}
use Rattle.custody_records.specs.Keys.{text_cmp, part_cmp}
use Rattle.custody_records.specs.Records.{key_of}
use Rattle.plain_machine.specs.declared.state.PlainRegistry.{PlainRegistry}
use Rattle.plain_machine.specs.declared.state.PlainPart.{PlainPart}
use Rattle.plain_machine.specs.declared.state.PlainAnswer.{PlainAnswer}
use Rattle.plain_machine.specs.declared.state.PlainAnswer.TheVariants as answer
use Rattle.custody_machine.specs.NameReading.{read_name}
use Rattle.plain_machine.specs.Plain.{plain_registry_entry, plain_part_entry, part_view, IsPlainStep}
use Rattle.custody_machine.specs.State.{State, Part, part_numbers}
use Rattle.custody_machine.specs.Machine.{Register, Receive, Statement, Check, content_len, absence_notice, absence_of, check_tests, OfRegistry, OfPart, OfNotice, statement_tests, kept_verdict, next_key, verdict_notice, verdict_on, state_with_notice, notice_step, Step, Accept, first_day_of, part_at, revision_part, part_under_name, has_other_kind, has_other_bytes, is_dropped, refusal_of, step, state_with_registry, state_with_part, received_part, receive_tests, named_tests, first_refusal}
use Rattle.custody_records.specs.inside.Orders.{text_total, part_total, part_exact}
use Rattle.custody_machine.specs.declared.answers.Refusal.{Refusal}
use Rattle.custody_machine.specs.declared.answers.Refusal.TheVariants.{NameRefused}
use Rattle.custody_machine.proofs.Accepting.{none_stand, step_none, step_refuses, step_refuses_text, registered, answered, rules_part, held_bytes, place_is_empty}
use Rattle.custody_machine.proofs.Accepting.{recorded_is}
use Rattle.custody_machine.proofs.Composed.{register_repeats}
use Rattle.custody_machine.proofs.Stated.{stated_by}
use Rattle.custody_machine.proofs.Checked.{missed_by}
use Rattle.custody_machine.specs.declared.command.Statement as statement
use Rattle.custody_records.specs.Keys.{NoticeKey}
use Rattle.custody_records.specs.Records.{Notice}
use Rattle.custody_records.specs.TypedRecords.{notice_entry, notice_key, notice_value}
use Rattle.desk.specs.declared.notices.Notice as desk

-- ---- an entry more

module _ {K X E : Type 0} {R : K → K → Ordering} (total : IsTotalOrder R) (exact : IsAntisymmetric R) (entry_of : E → K × X) where
  pub pushed : (es : List E) (e : E) → get (from_entries {R = R} (map entry_of es)) (entry_of e).0 ≡ None → from_entries {R = R} (map entry_of (es ++ e ∷ [])) ≡ insert (from_entries (map entry_of es)) (entry_of e).0 (entry_of e).1
  pushed es e none = ap from_entries (map-append entry_of es (e ∷ [])) ∙ from_entries_push total exact (map entry_of es) (entry_of e).0 (entry_of e).1 (sym (get-from_entries total (map entry_of es) (entry_of e).0) ∙ none)

pub registry_pushed : (es : List PlainRegistry) (r : PlainRegistry) → get (from_entries {R = text_cmp} (map plain_registry_entry es)) r.tld ≡ None → from_entries {R = text_cmp} (map plain_registry_entry (es ++ r ∷ [])) ≡ insert (from_entries (map plain_registry_entry es)) r.tld r.first_day
registry_pushed = pushed text_total exact_bytes plain_registry_entry

pub part_pushed : (es : List PlainPart) (p : PlainPart) → get (from_entries {R = part_cmp} (map plain_part_entry es)) (key_of p.name) ≡ None → from_entries {R = part_cmp} (map plain_part_entry (es ++ p ∷ [])) ≡ insert (from_entries (map plain_part_entry es)) (key_of p.name) (part_view p)
part_pushed = pushed part_total part_exact plain_part_entry

pub as_answered : (a b : PlainAnswer) (old new : State) (r : Step) → a ≡ b → IsPlainStep b old new r → IsPlainStep a old new r
as_answered a b old new r e h = subst (λ c. IsPlainStep c old new r) (sym e) h

-- ---- registrations

pub registers_again : (s : State) (tld : List ℕ) (day now first : ℕ) → first_day_of s tld ≡ Some first → IsPlainStep (answer.Registry tld first true) s s (step s (Register tld day) now)
registers_again s tld day now first e = register_repeats s tld day now first e

pub registers : (s new : State) (tld : List ℕ) (day now : ℕ) → first_day_of s tld ≡ None → new ≡ state_with_registry s tld day → IsPlainStep (answer.Registry tld day false) s new (step s (Register tld day) now)
registers s new tld day now e is = step_none s (Register tld day) now refl ∙ ap (registered s tld day now) e ∙ ap (Accept (record { entry = OfRegistry tld day; is_repeat = false })) (sym is)

-- ---- parts

-- a text that is refused
pub refuses_text : (s : State) (text bytes : List ℕ) (now : ℕ) (fault : NameError) → IsFault text fault → IsPlainStep (answer.Refused (NameRefused fault)) s s (step s (Receive text bytes) now)
refuses_text s text bytes now fault is = (step_refuses_text s text bytes now fault is, refl)

module _ (s : State) (text bytes : List ℕ) (now : ℕ) (name : Name) (named : read_name text ≡ Ok name) where
  refusal_is : (o : Option Refusal) → first_refusal (receive_tests s name bytes now) ≡ o → refusal_of s (Receive text bytes) now ≡ o
  refusal_is o e = ap (λ r. first_refusal (named_tests s r bytes now)) named ∙ e

  pub refuses : (q : Refusal) → first_refusal (receive_tests s name bytes now) ≡ Some q → IsPlainStep (answer.Refused q) s s (step s (Receive text bytes) now)
  refuses q e = (step_refuses s (Receive text bytes) now q (refusal_is (Some q) e), refl)

  ruled : first_refusal (receive_tests s name bytes now) ≡ None → step s (Receive text bytes) now ≡ answered s name bytes now (part_under_name s name)
  ruled none = let stand = none_stand s name bytes now none in step_none s (Receive text bytes) now (refusal_is None none) ∙ rules_part s text bytes now name named stand.bytes stand.dropped

  pub repeats : (part : Part) → first_refusal (receive_tests s name bytes now) ≡ None → part_under_name s name ≡ Some part → IsPlainStep (answer.Part name part.received (length bytes) true) s s (step s (Receive text bytes) now)
  repeats part none at =
      let stand = none_stand s name bytes now none in
      let content = held_bytes part bytes (ap (has_other_bytes bytes) (sym at) ∙ stand.bytes) (ap is_dropped (sym at) ∙ stand.dropped) in
      (part, ruled none ∙ ap (answered s name bytes now) at, (same_kind_decides part.kind name.kind).0 (recorded_is s name part at).1, refl, ap content_len content)

  pub place_is_free : first_refusal (receive_tests s name bytes now) ≡ None → part_under_name s name ≡ None → part_at s (key_of name) ≡ None
  place_is_free none at = let stand = none_stand s name bytes now none in
      place_is_empty s text name named at (ap (λ o. is_none o && list_any (λ place. has_other_kind name.kind (revision_part s name place)) part_numbers) (sym at) ∙ stand.kind)

  pub receives_new : (new : State) → first_refusal (receive_tests s name bytes now) ≡ None → part_under_name s name ≡ None → new ≡ state_with_part s (key_of name) (received_part name bytes now)
      → IsPlainStep (answer.Part name now (length bytes) false) s new (step s (Receive text bytes) now)
  receives_new new none at is =
      (received_part name bytes now, ruled none ∙ ap (answered s name bytes now) at ∙ ap (Accept (record { entry = OfPart (key_of name) (received_part name bytes now); is_repeat = false })) (sym is), refl, refl, refl)

-- ---- statements

module _ (s : State) (st : statement.Statement) (now : ℕ) where
  pub refuses_stated : (q : Refusal) → first_refusal (statement_tests s st now) ≡ Some q → IsPlainStep (answer.Refused q) s s (step s (Statement st) now)
  refuses_stated q e = (step_refuses s (Statement st) now q e, refl)

  ruled_stated : (o : Option (NoticeKey × Notice)) → first_refusal (statement_tests s st now) ≡ None → kept_verdict s st ≡ o → step s (Statement st) now ≡ stated_by s st now o
  ruled_stated o none e = step_none s (Statement st) now none ∙ ap (stated_by s st now) e

  pub repeats_stated : (n : desk.Notice) → first_refusal (statement_tests s st now) ≡ None → kept_verdict s st ≡ Some (notice_entry n) → IsPlainStep (answer.Notice n true) s s (step s (Statement st) now)
  repeats_stated n none e = ruled_stated (Some (notice_entry n)) none e

  pub states_new : (n : desk.Notice) (new : State) → first_refusal (statement_tests s st now) ≡ None → kept_verdict s st ≡ None → notice_key n ≡ next_key s.notices st.tld → notice_value n ≡ verdict_notice st (verdict_on s st) now
      → new ≡ state_with_notice s (notice_key n) (notice_value n) → IsPlainStep (answer.Notice n false) s new (step s (Statement st) now)
  states_new n new none e key value is =
      ruled_stated None none e ∙ ap (λ k. notice_step s k (verdict_notice st (verdict_on s st) now)) (sym key) ∙ ap (notice_step s (notice_key n)) (sym value)
      ∙ ap (Accept (record { entry = OfNotice (notice_key n) (notice_value n); is_repeat = false })) (sym is)

module _ (s : State) (tld : List ℕ) (day now : ℕ) where
  pub refuses_check : (q : Refusal) → first_refusal (check_tests s tld day now) ≡ Some q → IsPlainStep (answer.Refused q) s s (step s (Check tld day) now)
  refuses_check q e = (step_refuses s (Check tld day) now q e, refl)

  ruled_check : (o : Option (NoticeKey × Notice)) → first_refusal (check_tests s tld day now) ≡ None → absence_of s tld day ≡ o → step s (Check tld day) now ≡ missed_by s tld day now o
  ruled_check o none e = step_none s (Check tld day) now none ∙ ap (missed_by s tld day now) e

  pub repeats_check : (n : desk.Notice) → first_refusal (check_tests s tld day now) ≡ None → absence_of s tld day ≡ Some (notice_entry n) → IsPlainStep (answer.Notice n true) s s (step s (Check tld day) now)
  repeats_check n none e = ruled_check (Some (notice_entry n)) none e

  pub misses_new : (n : desk.Notice) (new : State) → first_refusal (check_tests s tld day now) ≡ None → absence_of s tld day ≡ None → notice_key n ≡ next_key s.notices tld → notice_value n ≡ absence_notice day now
      → new ≡ state_with_notice s (notice_key n) (notice_value n) → IsPlainStep (answer.Notice n false) s new (step s (Check tld day) now)
  misses_new n new none e key value is =
      ruled_check None none e ∙ ap (λ k. notice_step s k (absence_notice day now)) (sym key) ∙ ap (notice_step s (notice_key n)) (sym value)
      ∙ ap (Accept (record { entry = OfNotice (notice_key n) (notice_value n); is_repeat = false })) (sym is)
