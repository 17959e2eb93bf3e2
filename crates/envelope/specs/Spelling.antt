-- Where a text parts from the one text of an envelope (RFC 8259 for JSON, RFC 8909, section 5.1, for the envelope).
use Rattle.std.specs.Prelude.{◌≡◌, ◌≢◌, ◌<◌, ◌≤◌, ℕ, Bool, List, [], ◌∷◌, codes, length, take, slice_get, Option, Some, None, is_some, not, IsUtf8}
use Rattle.std.specs.List.{find}
use Rattle.std.specs.Str.{IsValidUpTo}
use Rattle.serde_json.specs.Data.{Data}
use Rattle.serde_json.specs.Read.{read}
use Rattle.envelope.specs.declared.errors.EnvError.{EnvError}
use Rattle.envelope.specs.declared.errors.EnvError.TheVariants.{Spelling, Memory}
use Rattle.envelope.specs.declared.errors.Member.{Member}
use Rattle.envelope.specs.declared.errors.Member.TheVariants.{Contents, «Type», Deletes, Count, Tld, Id, PrevId, ObjectUris, Resend, Watermark}
use Rattle.envelope.specs.declared.errors.SpellingFault.{SpellingFault}
use Rattle.envelope.specs.declared.errors.SpellingFault.TheVariants as fault
use Rattle.envelope.specs.Envelope.{Env, IsEnvelope, env_text, text_max}
use Rattle.envelope.specs.JsonReading.{◌>>=◌, contents_at, type_at, deletes_at, count_in_header, tld_in_header, id_at, prev_id_at, uris_in_menu, resend_at, watermark_at, env_at}

-- ---- the members

-- a member is in form in a JSON value; which deletes there are depends on the type
abbrev pub is_in_form : Data → Member → Bool
is_in_form d Contents = is_some (contents_at d)
is_in_form d «Type» = is_some (type_at d)
is_in_form d Deletes = is_some (type_at d >>= λ kind. deletes_at kind d)
is_in_form d Count = is_some (count_in_header d)
is_in_form d Tld = is_some (tld_in_header d)
is_in_form d Id = is_some (id_at (codes "id") d)
is_in_form d PrevId = is_some (prev_id_at d)
is_in_form d ObjectUris = is_some (uris_in_menu d)
is_in_form d Resend = is_some (resend_at d)
is_in_form d Watermark = is_some (watermark_at d)

-- in the order in which they are read
abbrev pub members : List Member
members = Contents ∷ «Type» ∷ Deletes ∷ Count ∷ Tld ∷ Id ∷ PrevId ∷ ObjectUris ∷ Resend ∷ Watermark ∷ []

-- the first that is not in form
abbrev pub first_out_of_form : Data → Option Member
first_out_of_form d = find (λ m. not (is_in_form d m)) members

-- ---- the text

-- the text is JSON, and this is its value
abbrev pub IsJson : List ℕ → Data → Type 0
IsJson t value = IsUtf8 t × (read t ≡ Some value)

-- A text parts from a wanted one at this offset: they are the same before it, and there the wanted one has this byte (None: it ends), and the text has not.
pub record PartsAt (offset : ℕ) (byte : Option ℕ) (t wanted : List ℕ) : Type 0 where
  pub same : take offset t ≡ take offset wanted
  pub wanted_there : slice_get wanted offset ≡ byte
  pub other_there : slice_get t offset ≢ byte

-- the text has no more bytes than an envelope may have
abbrev pub IsShort : List ℕ → Type 0
IsShort t = length t ≤ text_max

-- the fault is one of the text; a text of more bytes has no fault but its length
abbrev pub HasSpellingFault : SpellingFault → List ℕ → Type 0
HasSpellingFault fault.Long t = text_max < length t
HasSpellingFault (fault.NotUtf8 offset) t = IsShort t × IsValidUpTo t offset
HasSpellingFault (fault.NotJson line column) t = IsShort t × IsUtf8 t × (read t ≡ None)
HasSpellingFault (fault.Member m) t = IsShort t × (value : Data) × IsJson t value × (first_out_of_form value ≡ Some m)
HasSpellingFault (fault.Byte offset byte) t =
    IsShort t × (value : Data) × (v : Env) × IsJson t value × (env_at value ≡ Some v) × IsEnvelope v × PartsAt offset byte t (env_text v)

-- the faults are the same, but for the place in a text that is no JSON
abbrev pub IsSameFault : SpellingFault → SpellingFault → Type 0
IsSameFault (fault.NotJson line column) (fault.NotJson other_line other_column) = Unit {0}
IsSameFault f g = f ≡ g

-- a text of no envelope in form
abbrev pub IsNoEnvelope : List ℕ → Type 0
IsNoEnvelope t = (v : Env) → IsEnvelope v → t ≢ env_text v

-- why a text is no envelope's; want of memory says nothing of it
abbrev pub RefusesEnvelope : EnvError → List ℕ → Type 0
RefusesEnvelope (Spelling f) t = HasSpellingFault f t × IsNoEnvelope t
RefusesEnvelope Memory t = Unit {0}

-- ---- of the parts, for private clauses

-- the error names the first member that is not in form, or memory ran out
abbrev pub NamesMember : EnvError → Data → Type 0
NamesMember (Spelling f) d = (m : Member) × (f ≡ fault.Member m) × (first_out_of_form d ≡ Some m)
NamesMember Memory d = Unit {0}

-- the fault that the error tells is one of the text; want of memory says nothing of it
abbrev pub TellsFault : EnvError → List ℕ → Type 0
TellsFault (Spelling f) t = HasSpellingFault f t
TellsFault Memory t = Unit {0}
