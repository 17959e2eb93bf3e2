-- Frame and envelope as functions of a text (RFC 8909, section 5.1). Only their law is used: `AreReaders`, which says them by `IsFrame`, and by `IsEnvelope` and `env_text`.
use Rattle.std.specs.Prelude.{◌≡◌, ◌≢◌, ◌↔◌, ◌==◌, ◌&&◌, ◌+◌, ◌*◌, ◌-◌, ◌^◌, ℕ, Bool, true, false, List, [], ◌∷◌, fold, length, map, take, drop, Option, Some, None, if◌then◌else◌, nat_le, nat_lt}
use Rattle.std.specs.Cmp.Lexicographic.{slice_cmp}
use Rattle.std.specs.List.{list_all}
use Rattle.std.specs.Ordering.{is_lt, nat_cmp}
use Rattle.std.specs.Str.{bytes_eq}
use Rattle.serde_json.specs.Read.{read}
use Rattle.schedule.specs.Schedule.{last_day}
use Rattle.deposit_name.specs.Identifiers.{is_tld, is_deposit_id}
use Rattle.deposit_name.specs.Tables.{has_deletes}
use Rattle.deposit_name.specs.declared.kinds.Kind.{Kind}
use Rattle.deposit_name.specs.declared.kinds.Kind.TheVariants.{Full, Diff, Incr}
use Rattle.envelope.specs.Uri.{is_uri}
use Rattle.envelope.specs.declared.envelope.FileEntry.{FileEntry}
use Rattle.envelope.specs.declared.envelope.Count.{Count}
use Rattle.envelope.specs.Envelope.{Env, IsEnvelope, env_text, file_length_max}
use Rattle.envelope.specs.Frame.{IsFrame, frame, frame_head}
use Rattle.envelope.specs.JsonReading.{◌>>=◌, env_at}

-- ---- the frame

-- the number that decimal digits show
abbrev pub number_shown : List ℕ → ℕ
number_shown digits = fold (λ number digit. number * 10 + (digit - 48)) 0 digits

-- what stands behind the head, and behind the eight digits and their line feed
abbrev pub after_head : List ℕ → List ℕ
after_head text = drop (length frame_head) text

abbrev pub after_length : List ℕ → List ℕ
after_length text = drop 9 (after_head text)

-- the length that the eight digits show
abbrev pub length_shown : List ℕ → ℕ
length_shown text = number_shown (take 8 (after_head text))

-- as many bytes as that, and what follows them
abbrev pub parts_shown : List ℕ → List ℕ × List ℕ
parts_shown text = (take (length_shown text) (after_length text), drop (length_shown text) (after_length text))

-- the envelope's text and what follows it, where the text is their frame
unfoldable pub frame_at : List ℕ → Option (List ℕ × List ℕ)
frame_at text =
    if nat_lt (length (parts_shown text).0) (10 ^ 8) && bytes_eq text (frame (parts_shown text).0 (parts_shown text).1)
    then Some (parts_shown text)
    else None

-- ---- an envelope in form, as a test

abbrev pub is_file : FileEntry → Bool
is_file f = nat_le f.length file_length_max && (length f.sha256 == 32 && list_all (λ byte. nat_lt byte 256) f.sha256)

abbrev pub are_files : ℕ → List FileEntry → Bool
are_files most fs = nat_le (length fs) most && list_all is_file fs

abbrev pub are_deletes : List FileEntry → Bool
are_deletes ds = are_files 4 ds && list_all (λ f. has_deletes f.name) ds

abbrev pub fits_kind : Kind → Option (List FileEntry) → Bool
fits_kind Full None = true
fits_kind Full (Some ds) = false
fits_kind Diff None = false
fits_kind Diff (Some ds) = are_deletes ds
fits_kind Incr None = false
fits_kind Incr (Some ds) = are_deletes ds

abbrev pub is_count : Count → Bool
is_count c = is_uri c.uri && nat_lt c.count (2 ^ 32)

-- each text is below all after it
abbrev pub are_rising_texts : List (List ℕ) → Bool
are_rising_texts [] = true
are_rising_texts (text ∷ texts) = list_all (λ later. is_lt (slice_cmp nat_cmp text later)) texts && are_rising_texts texts

abbrev pub are_counts : List Count → Bool
are_counts cs = nat_le (length cs) 16 && (list_all is_count cs && are_rising_texts (map (λ c. c.uri) cs))

abbrev pub is_prev_id : Option (List ℕ) → Bool
is_prev_id None = true
is_prev_id (Some id) = is_deposit_id id

abbrev pub are_uris : List (List ℕ) → Bool
are_uris uris = nat_le 1 (length uris) && (nat_le (length uris) 16 && list_all is_uri uris)

abbrev pub is_envelope : Env → Bool
is_envelope v =
    are_files 8 v.contents && (fits_kind v.kind v.deletes && (are_counts v.count && (is_tld v.tld && (is_deposit_id v.id
    && (is_prev_id v.prev_id && (are_uris v.object_uris && (nat_le v.resend 99 && nat_le v.watermark last_day)))))))

-- ---- the envelope

-- the envelope that a JSON value stands for, where it is in form and the text is its one text
abbrev pub spelled_env : List ℕ → Env → Option Env
spelled_env text v = if is_envelope v && bytes_eq text (env_text v) then Some v else None

unfoldable pub envelope_at : List ℕ → Option Env
envelope_at text = do
  value ← read text
  v ← env_at value
  spelled_env text v

-- Frame and envelope are read from their one text, and none from other texts.
pub record AreReaders : Type 0 where
  pub frame_read : (text envelope rest : List ℕ) → (frame_at text ≡ Some (envelope, rest)) ↔ IsFrame text envelope rest
  pub no_frame : (text : List ℕ) → (frame_at text ≡ None) ↔ ((envelope rest : List ℕ) → ¬ IsFrame text envelope rest)
  pub envelope_read : (text : List ℕ) (v : Env) → (envelope_at text ≡ Some v) ↔ (IsEnvelope v × (text ≡ env_text v))
  pub no_envelope : (text : List ℕ) → (envelope_at text ≡ None) ↔ ((v : Env) → IsEnvelope v → text ≢ env_text v)
