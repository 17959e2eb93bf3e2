-- A text with a fault is no envelope's.
use Rattle.std.proofs.Common.{◌≡◌, ℕ, List, Some, None, length, subst, sym, ap, ◌∙◌, arith, refl, IsUtf8}
use Rattle.std.specs.Prelude.{slice_get}
use Rattle.std.proofs.lemmas.List.{take_all}
use Rattle.std.proofs.lemmas.Option.{same_Some}
use Rattle.serde_json.specs.Data.{Data}
use Rattle.serde_json.specs.Read.{read}
use Rattle.envelope.specs.declared.errors.EnvError.{EnvError}
use Rattle.envelope.specs.declared.errors.EnvError.TheVariants.{Spelling, Memory}
use Rattle.envelope.specs.declared.errors.SpellingFault.{SpellingFault}
use Rattle.envelope.specs.declared.errors.SpellingFault.TheVariants as fault
use Rattle.envelope.specs.Envelope.{Env, IsEnvelope, env_text}
use Rattle.envelope.specs.JsonReading.{env_at}
use Rattle.envelope.specs.Spelling.{HasSpellingFault, IsJson, IsNoEnvelope, IsShort, NamesMember, RefusesEnvelope, TellsFault, first_out_of_form}
use Rattle.envelope.proofs.Again.{env_again, in_form_again}
use Rattle.envelope.proofs.Forms.{env_reads, env_utf8}
use Rattle.envelope.proofs.Lengths.{env_most}
use Rattle.envelope.proofs.Values.{env_data}

module _ {t : List ℕ} {v : Env} (form : IsEnvelope v) (spelled : t ≡ env_text v) where
  utf8 : IsUtf8 t
  utf8 = subst IsUtf8 (sym spelled) (env_utf8 v form)

  reads : read t ≡ Some (env_data v)
  reads = ap read spelled ∙ env_reads v form

  value_is : (value : Data) → IsJson t value → value ≡ env_data v
  value_is value json = same_Some value (env_data v) (sym json.1 ∙ reads)

  -- what a value of the text stands for
  pub stands_for : (value : Data) (w : Env) → IsJson t value → env_at value ≡ Some w → w ≡ v
  stands_for value w json found = same_Some w v (sym found ∙ ap env_at (value_is value json) ∙ env_again v form)

  no_fault : (f : SpellingFault) → HasSpellingFault f t → ⊥
  no_fault fault.Long h = omega (arith, env_most v form, ap length spelled, h)
  no_fault (fault.NotUtf8 offset) h = h.1.longest (length t) h.1.short (subst IsUtf8 (sym (take_all (length t) t (omega arith))) utf8)
  no_fault (fault.NotJson line column) h = let clash : None ≡ Some (env_data v) = sym h.2 ∙ reads in cc clash
  no_fault (fault.Member m) h =
      let clash : Some m ≡ None = sym h.3 ∙ ap first_out_of_form (value_is h.1 h.2) ∙ in_form_again v form in
      cc clash
  no_fault (fault.Byte offset byte) h =
      let same = stands_for h.1 h.2 h.3 h.4 in
      h.6.other_there (ap (λ l. slice_get l offset) (spelled ∙ ap env_text (sym same)) ∙ h.6.wanted_there)

pub none_with_fault : (f : SpellingFault) (t : List ℕ) → HasSpellingFault f t → IsNoEnvelope t
none_with_fault f t h = λ v form spelled. no_fault form spelled f h

pub refuses : (f : SpellingFault) (t : List ℕ) → HasSpellingFault f t → RefusesEnvelope (Spelling f) t
refuses f t h = (h, none_with_fault f t h)

pub refuses_told : (e : EnvError) (t : List ℕ) → TellsFault e t → RefusesEnvelope e t
refuses_told (Spelling f) t h = refuses f t h
refuses_told Memory t h = tt

pub refuses_member : (e : EnvError) (t : List ℕ) (value : Data) → IsShort t → IsJson t value → NamesMember e value → RefusesEnvelope e t
refuses_member (Spelling f) t value short json h = subst (λ g. RefusesEnvelope (Spelling g) t) (sym h.1) (refuses (fault.Member h.0) t (short, value, json, h.2))
refuses_member Memory t value short json h = tt

-- so the text of an envelope is refused only for want of memory
pub only_memory : (e : EnvError) (t : List ℕ) → RefusesEnvelope e t → (v : Env) → IsEnvelope v → t ≡ env_text v → e ≡ Memory
only_memory (Spelling f) t h v form spelled = absurd (h.1 v form spelled)
only_memory Memory t h v form spelled = refl
