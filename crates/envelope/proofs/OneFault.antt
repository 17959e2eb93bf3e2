-- A text has at most one spelling fault.
use Rattle.std.proofs.Common.{◌≡◌, ◌<◌, ◌∙◌, [], ◌∷◌, ℕ, List, Option, Some, None, IsUtf8, ap, arith, inl, inr, length, refl, subst, suc, sym, take, zero}
use Rattle.std.specs.Prelude.{slice_get}
use Rattle.std.specs.Str.{IsValidUpTo}
use Rattle.std.proofs.lemmas.Bool.{cases_lt}
use Rattle.std.proofs.lemmas.List.{take_all}
use Rattle.std.proofs.lemmas.Option.{same_Some}
use Rattle.std.proofs.lemmas.Str.{utf8_valid_len-IsValidUpTo}
use Rattle.serde_json.specs.Data.{Data}
use Rattle.serde_json.specs.Read.{read}
use Rattle.envelope.specs.declared.errors.Member.{Member}
use Rattle.envelope.specs.declared.errors.SpellingFault.{SpellingFault}
use Rattle.envelope.specs.declared.errors.SpellingFault.TheVariants as fault
use Rattle.envelope.specs.Envelope.{Env, env_text}
use Rattle.envelope.specs.JsonReading.{env_at}
use Rattle.envelope.specs.Spelling.{HasSpellingFault, IsJson, IsSameFault, PartsAt, first_out_of_form}
use Rattle.envelope.proofs.Again.{in_form_if_read}

get-take : (xs : List ℕ) (n i : ℕ) → i < n → slice_get (take n xs) i ≡ slice_get xs i
get-take xs zero i h = absurd (omega arith)
get-take [] (suc n) i h = refl
get-take (x ∷ xs) (suc n) zero h = refl
get-take (x ∷ xs) (suc n) (suc i) h = get-take xs n i (omega arith)

module _ (t : List ℕ) where
  not_utf8 : (offset : ℕ) → IsValidUpTo t offset → IsUtf8 t → ⊥
  not_utf8 offset h utf8 = h.longest (length t) h.short (subst IsUtf8 (sym (take_all (length t) t (omega arith))) utf8)

  one_value : (value other : Data) → IsJson t value → IsJson t other → value ≡ other
  one_value value other h k = same_Some value other (sym h.1 ∙ k.1)

  no_value : (value : Data) → read t ≡ None → IsJson t value → ⊥
  no_value value none json = let clash : None ≡ Some value = sym none ∙ json.1 in cc clash

  -- a member is out of form, or an envelope is read
  not_both : (value other : Data) (m : Member) (v : Env) → IsJson t value → first_out_of_form value ≡ Some m → IsJson t other → env_at other ≡ Some v → ⊥
  not_both value other m v h out k found =
      let clash : Some m ≡ None = sym out ∙ ap first_out_of_form (one_value value other h k) ∙ in_form_if_read v other found in
      cc clash

  not_before : (wanted : List ℕ) (i j : ℕ) (a b : Option ℕ) → PartsAt i a t wanted → PartsAt j b t wanted → i < j → ⊥
  not_before wanted i j a b h k less =
      h.other_there (sym (get-take t j i less) ∙ ap (λ l. slice_get l i) k.same ∙ get-take wanted j i less ∙ h.wanted_there)

  one_offset : (wanted : List ℕ) (i j : ℕ) (a b : Option ℕ) → PartsAt i a t wanted → PartsAt j b t wanted → i ≡ j
  one_offset wanted i j a b h k = elim (cases_lt i j) [
    | inl less ↦ absurd (not_before wanted i j a b h k less)
    | inr most ↦ elim (cases_lt j i) [
      | inl less ↦ absurd (not_before wanted j i b a k h less)
      | inr least ↦ omega arith
    ]
  ]

  one_difference : (wanted : List ℕ) (i j : ℕ) (a b : Option ℕ) → PartsAt i a t wanted → PartsAt j b t wanted → fault.Byte i a ≡ fault.Byte j b
  one_difference wanted i j a b h k =
      let offset = one_offset wanted i j a b h k in
      let byte : a ≡ b = sym h.wanted_there ∙ ap (slice_get wanted) offset ∙ k.wanted_there in
      λ x. fault.Byte (offset x) (byte x)

  pub one_fault : (f g : SpellingFault) → HasSpellingFault f t → HasSpellingFault g t → IsSameFault f g
  one_fault fault.Long fault.Long h k = refl
  one_fault fault.Long (fault.NotUtf8 j) h k = absurd (omega (arith, h, k.0))
  one_fault fault.Long (fault.NotJson line column) h k = absurd (omega (arith, h, k.0))
  one_fault fault.Long (fault.Member n) h k = absurd (omega (arith, h, k.0))
  one_fault fault.Long (fault.Byte j b) h k = absurd (omega (arith, h, k.0))
  one_fault (fault.NotUtf8 i) fault.Long h k = absurd (omega (arith, h.0, k))
  one_fault (fault.NotUtf8 i) (fault.NotUtf8 j) h k = ap fault.NotUtf8 (sym (utf8_valid_len-IsValidUpTo t i h.1) ∙ utf8_valid_len-IsValidUpTo t j k.1)
  one_fault (fault.NotUtf8 i) (fault.NotJson line column) h k = absurd (not_utf8 i h.1 k.1)
  one_fault (fault.NotUtf8 i) (fault.Member n) h k = absurd (not_utf8 i h.1 k.2.0)
  one_fault (fault.NotUtf8 i) (fault.Byte j b) h k = absurd (not_utf8 i h.1 k.3.0)
  one_fault (fault.NotJson line column) fault.Long h k = absurd (omega (arith, h.0, k))
  one_fault (fault.NotJson line column) (fault.NotUtf8 j) h k = absurd (not_utf8 j k.1 h.1)
  one_fault (fault.NotJson line column) (fault.NotJson other_line other_column) h k = tt
  one_fault (fault.NotJson line column) (fault.Member n) h k = absurd (no_value k.1 h.2 k.2)
  one_fault (fault.NotJson line column) (fault.Byte j b) h k = absurd (no_value k.1 h.2 k.3)
  one_fault (fault.Member m) fault.Long h k = absurd (omega (arith, h.0, k))
  one_fault (fault.Member m) (fault.NotUtf8 j) h k = absurd (not_utf8 j k.1 h.2.0)
  one_fault (fault.Member m) (fault.NotJson line column) h k = absurd (no_value h.1 k.2 h.2)
  one_fault (fault.Member m) (fault.Member n) h k = ap fault.Member (same_Some m n (sym h.3 ∙ ap first_out_of_form (one_value h.1 k.1 h.2 k.2) ∙ k.3))
  one_fault (fault.Member m) (fault.Byte j b) h k = absurd (not_both h.1 k.1 m k.2 h.2 h.3 k.3 k.4)
  one_fault (fault.Byte i a) fault.Long h k = absurd (omega (arith, h.0, k))
  one_fault (fault.Byte i a) (fault.NotUtf8 j) h k = absurd (not_utf8 j k.1 h.3.0)
  one_fault (fault.Byte i a) (fault.NotJson line column) h k = absurd (no_value h.1 k.2 h.3)
  one_fault (fault.Byte i a) (fault.Member n) h k = absurd (not_both k.1 h.1 n h.2 k.2 k.3 h.3 h.4)
  one_fault (fault.Byte i a) (fault.Byte j b) h k =
      let same : h.2 ≡ k.2 = same_Some h.2 k.2 (sym h.4 ∙ ap env_at (one_value h.1 k.1 h.3 k.3) ∙ k.4) in
      one_difference (env_text k.2) i j a b (subst (λ v. PartsAt i a t (env_text v)) same h.6) k.6
