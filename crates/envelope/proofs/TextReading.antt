-- The frame and the envelope that are read of a text are those whose text it is.
use Rattle.std.specs.Prelude.{◌↔◌, nat_lt}
use Rattle.std.proofs.Common.{◌≡◌, ◌^◌, ◌++◌, ◌∙◌, ℕ, List, Option, Some, None, ap, cond, drop, drop_at, length, option_and_then, refl, subst, sym, take, take_at, true, ◌&&◌}
use Rattle.std.specs.Str.{bytes_eq}
use Rattle.std.proofs.lemmas.Bool.{and_from, and_parts, lt-ltb, ltb-true}
use Rattle.std.proofs.lemmas.List.{drop-drop}
use Rattle.std.proofs.lemmas.Option.{cond_some, option_and_then_some, same_Some}
use Rattle.std.proofs.lemmas.Slice.Eq.{bytes_eq-Decides}
use Rattle.serde_json.specs.Read.{read}
use Rattle.envelope.specs.Envelope.{Env, IsEnvelope, env_text}
use Rattle.envelope.specs.Frame.{IsFrame, frame, with_length}
use Rattle.envelope.specs.JsonReading.{◌>>=◌, env_at}
use Rattle.envelope.specs.Readers.{AreReaders, after_head, after_length, envelope_at, frame_at, length_shown, number_shown, parts_shown, spelled_env}
use Rattle.envelope.proofs.Again.{env_again}
use Rattle.envelope.proofs.Digits.{not_refused, number_again, one_refusal, without_length}
use Rattle.envelope.proofs.FormDecided.{envelope_decides}
use Rattle.envelope.proofs.Forms.{env_reads}
use Rattle.envelope.proofs.Lengths.{env_most}

-- ---- frames

-- the parts of a frame are those that it shows
parts_again : (text envelope rest : List ℕ) → IsFrame text envelope rest → parts_shown text ≡ (envelope, rest)
parts_again text envelope rest is =
    let n = length envelope in
    let behind : after_head text ≡ with_length n (envelope ++ rest) = ap (drop 5) is.1 in
    let cut = without_length n (envelope ++ rest) (after_head text) behind in
    let shown : length_shown text ≡ n = ap number_shown cut.1 ∙ number_again 8 n is.0 in
    let later : after_length text ≡ envelope ++ rest = sym (drop-drop 1 8 (after_head text)) ∙ ap (drop 1) cut.2 in
    let first : take (length_shown text) (after_length text) ≡ envelope = (λ i. take (shown i) (later i)) ∙ take_at envelope rest n refl in
    let second : drop (length_shown text) (after_length text) ≡ rest = (λ i. drop (shown i) (later i)) ∙ drop_at envelope rest n refl in
    λ i. (first i, second i)

frame_of : (text : List ℕ) (parts : List ℕ × List ℕ) → nat_lt (length parts.0) (10 ^ 8) ≡ true → bytes_eq text (frame parts.0 parts.1) ≡ true → IsFrame text parts.0 parts.1
frame_of text parts small same = (ltb-true (length parts.0) (10 ^ 8) small, (bytes_eq-Decides text (frame parts.0 parts.1)).0 same)

frame_is : (text : List ℕ) (parts : List ℕ × List ℕ) → (frame_at text ≡ Some parts) ↔ IsFrame text parts.0 parts.1
unfolding frame_at
frame_is text parts = (
  λ e.
      let found = cond_some _ _ _ e in
      let tests = and_parts _ _ found.0 in
      subst (λ (p : List ℕ × List ℕ). IsFrame text p.0 p.1) found.1 (frame_of text (parts_shown text) tests.0 tests.1),
  λ is.
      ap (λ (p : List ℕ × List ℕ). cond (nat_lt (length p.0) (10 ^ 8) && bytes_eq text (frame p.0 p.1)) (Some p) None) (parts_again text parts.0 parts.1 is)
      ∙ ap (λ b. cond b (Some parts) None) (and_from _ _ (lt-ltb (length parts.0) (10 ^ 8) is.0) ((bytes_eq-Decides text (frame parts.0 parts.1)).1 is.1)),
)

-- ---- envelopes

spelled_some : (text : List ℕ) (v w : Env) → spelled_env text v ≡ Some w → IsEnvelope w × (text ≡ env_text w)
spelled_some text v w e =
    let found = cond_some _ _ _ e in
    let tests = and_parts _ _ found.0 in
    subst (λ (u : Env). IsEnvelope u × (text ≡ env_text u)) found.1 ((envelope_decides v).0 tests.0, (bytes_eq-Decides text (env_text v)).0 tests.1)

envelope_some : (text : List ℕ) (v : Env) → envelope_at text ≡ Some v → IsEnvelope v × (text ≡ env_text v)
unfolding envelope_at
envelope_some text v e =
    option_and_then_some (λ value. env_at value >>= spelled_env text) (read text) v e (λ value _ more.
    option_and_then_some (spelled_env text) (env_at value) v more (λ w _ last. spelled_some text w v last))

envelope_is : (text : List ℕ) (v : Env) → IsEnvelope v × (text ≡ env_text v) → envelope_at text ≡ Some v
unfolding envelope_at
envelope_is text v is =
    ap (option_and_then (λ value. env_at value >>= spelled_env text)) (ap read is.1 ∙ env_reads v is.0)
    ∙ ap (option_and_then (spelled_env text)) (env_again v is.0)
    ∙ ap (λ b. cond b (Some v) None) (and_from _ _ ((envelope_decides v).1 is.0) ((bytes_eq-Decides text (env_text v)).1 is.1))

pub one_envelope : (v w : Env) → IsEnvelope v → IsEnvelope w → env_text v ≡ env_text w → v ≡ w
one_envelope v w hv hw e = same_Some v w (sym (envelope_is (env_text v) v (hv, refl)) ∙ envelope_is (env_text v) w (hw, e))

-- ---- both

pub ruleset one_reading = (one_envelope, env_most, one_refusal, not_refused)

-- what reads something where a fact holds reads nothing just where it never holds
none_is : {X : Type 0} (found : Option X) (P : X → Type 0) → ((x : X) → (found ≡ Some x) ↔ P x) → (found ≡ None) ↔ ((x : X) → ¬ P x)
none_is None P some = (λ _ x h. let clash = (some x).1 h in cc clash, λ _. refl)
none_is (Some y) P some = (λ e. cc e, λ none. absurd (none y ((some y).0 refl)))

pub are_readers : AreReaders
are_readers = record {
  frame_read = λ text envelope rest. frame_is text (envelope, rest);
  no_frame = λ text.
      let none = none_is (frame_at text) (λ parts. IsFrame text parts.0 parts.1) (frame_is text) in
      (λ e envelope rest. none.0 e (envelope, rest), λ none_there. none.1 (λ parts. none_there parts.0 parts.1));
  envelope_read = λ text v. (envelope_some text v, envelope_is text v);
  no_envelope = λ text.
      let none = none_is (envelope_at text) (λ v. IsEnvelope v × (text ≡ env_text v)) (λ v. (envelope_some text v, envelope_is text v)) in
      (λ e v form spelled. none.0 e v (form, spelled), λ none_there. none.1 (λ v h. none_there v h.0 h.1));
}
