-- What the bytes of a request ask for, or the least of A1 to A10 that stands (RFC 9112, with the grammar of a head as httparse has it).
use Rattle.std.specs.Prelude.{◌≡◌, ◌≢◌, ◌<◌, ◌≤◌, ◌⊎◌, ℕ, List, [], ◌∷◌, length, take, map, codes, true, false, Option, Some, None, if◌then◌else◌}
use Rattle.std.specs.Char.{is_ascii_digit, to_ascii_lowercase}
use Rattle.std.specs.Int.{IsInRange}
use Rattle.std.specs.List.{list_all}
use Rattle.std.specs.Str.{bytes_eq}
use Rattle.std.specs.Str.Parse.{digits_value}
use Rattle.httparse.specs.Grammar.{RequestHead, ReadsRequest}
use Rattle.httparse.specs.Spans.{name_and_value}
use Rattle.http_request.specs.Head.{IsShortHead, HasNoShortHead}
use Rattle.http_request.specs.Paths.{Target, NamesTarget, is_target_byte, limit_of, method_of, target_at}
use Rattle.http_request.specs.declared.routes.Route.TheVariants.{Deposit}
use Rattle.http_request.specs.Action.{RequestAction, Means}
pub use Rattle.http_request.specs.declared.faults.Method.{Method}
pub use Rattle.http_request.specs.declared.faults.Method.TheVariants.{Get, Post, Put}
pub use Rattle.http_request.specs.declared.faults.RequestFault.{RequestFault}
pub use Rattle.http_request.specs.declared.faults.RequestFault.TheVariants as fault

abbrev pub method_text : Method → List ℕ
method_text Get = codes "GET"
method_text Post = codes "POST"
method_text Put = codes "PUT"

-- ---- the fields

-- the values of the fields of a name, in any letter case
abbrev pub values_named : List ℕ → List (List ℕ × List ℕ) → List (List ℕ)
values_named name [] = []
values_named name (field ∷ fields) = if bytes_eq (map to_ascii_lowercase field.0) (map to_ascii_lowercase name) then field.1 ∷ values_named name fields else values_named name fields

abbrev pub transfer_codings : RequestHead → List (List ℕ)
transfer_codings h = values_named (codes "transfer-encoding") (map name_and_value h.fields)

abbrev pub content_lengths : RequestHead → List (List ℕ)
content_lengths h = values_named (codes "content-length") (map name_and_value h.fields)

-- one value, of 1 to 10 digits, which is this number
abbrev pub AreContentLength : List (List ℕ) → ℕ → Type 0
AreContentLength values n = (value : List ℕ) × (values ≡ value ∷ []) × IsInRange 1 10 (length value) × (list_all is_ascii_digit value ≡ true) × (n ≡ digits_value 10 value)

-- ---- what is asked

-- the body: none where the route takes none, and else as many bytes behind the head as are declared
abbrev pub IsRequestBody : Option ℕ → RequestHead → List ℕ → List ℕ → Type 0
IsRequestBody None h rest body = body ≡ []
IsRequestBody (Some limit) h rest body = (n : ℕ) × AreContentLength (content_lengths h) n × (n ≤ length rest) × (body ≡ take n rest)

-- the route takes a body, and P holds of its limit
abbrev pub HasBodyLimit : Option ℕ → (ℕ → Type 0) → Type 0
HasBodyLimit None P = ⊥
HasBodyLimit (Some limit) P = P limit

-- why the length that is told is refused under a limit
abbrev pub IsLengthFault : Option ℕ → List (List ℕ) → RequestFault → Type 0
IsLengthFault None values found = ⊥
IsLengthFault (Some limit) values fault.NoLength = values ≡ []
IsLengthFault (Some limit) values fault.Length = (values ≢ []) × ((n : ℕ) → ¬ AreContentLength values n)
IsLengthFault (Some limit) values fault.TooLong = (n : ℕ) × AreContentLength values n × (limit < n)
IsLengthFault (Some limit) values _ = ⊥

-- the same of the target's limit
abbrev pub HasLengthFault : RequestHead → RequestFault → Type 0
HasLengthFault h found = (target : Target) × NamesTarget h.target target × IsLengthFault (limit_of target) (content_lengths h) found

-- what stands of a head with the bytes behind it
abbrev pub HasFault : RequestHead → List ℕ → RequestFault → Type 0
HasFault h rest fault.Head = ⊥
HasFault h rest fault.Target = list_all is_target_byte h.target ≡ false
HasFault h rest fault.NoRoute = (target : Target) → ¬ NamesTarget h.target target
HasFault h rest (fault.Method allowed) = (target : Target) × NamesTarget h.target target × (allowed ≡ method_of target) × (h.method ≢ method_text allowed)
HasFault h rest fault.TransferCoding = transfer_codings h ≢ []
HasFault h rest fault.NoLength = HasLengthFault h fault.NoLength
HasFault h rest fault.Length = HasLengthFault h fault.Length
HasFault h rest fault.TooLong = HasLengthFault h fault.TooLong
HasFault h rest fault.BodyShort = (target : Target) × NamesTarget h.target target × HasBodyLimit (limit_of target) (λ limit. (n : ℕ) × AreContentLength (content_lengths h) n × (length rest < n))
HasFault h rest fault.Form = (target : Target) × (body : List ℕ) × NamesTarget h.target target × IsRequestBody (limit_of target) h rest body × ((wanted : RequestAction) → ¬ Means target body wanted)

abbrev pub fault_number : RequestFault → ℕ
fault_number fault.Head = 1
fault_number fault.Target = 2
fault_number fault.NoRoute = 3
fault_number (fault.Method allowed) = 4
fault_number fault.TransferCoding = 5
fault_number fault.NoLength = 6
fault_number fault.Length = 7
fault_number fault.TooLong = 8
fault_number fault.BodyShort = 9
fault_number fault.Form = 10

-- none stands with a number below this
abbrev pub HasNoFaultBelow : ℕ → RequestHead → List ℕ → Type 0
HasNoFaultBelow n h rest = (other : RequestFault) → fault_number other < n → ¬ HasFault h rest other

pub data RequestMeaning : Type 0 where
  bad : RequestFault → RequestMeaning
  asks_for : RequestAction → RequestMeaning

abbrev pub HeadMeans : RequestHead → List ℕ → RequestMeaning → Type 0
HeadMeans h rest (bad found) = HasFault h rest found × HasNoFaultBelow (fault_number found) h rest
HeadMeans h rest (asks_for wanted) = ((target : Target) × (body : List ℕ) × NamesTarget h.target target × IsRequestBody (limit_of target) h rest body × Means target body wanted) × HasNoFaultBelow 11 h rest

-- the input asks this: it has no short head, or what its head and the bytes behind it ask
abbrev pub RequestMeans : List ℕ → RequestMeaning → Type 0
RequestMeans input asked = (HasNoShortHead input × (asked ≡ bad fault.Head)) ⊎ ((h : RequestHead) × (rest : List ℕ) × ReadsRequest input h rest × IsShortHead h × HeadMeans h rest asked)

-- The input sends a part: its head has a deposit as its target, and no fault (A1 to A8).
abbrev pub SendsPart : List ℕ → Type 0
SendsPart input = (h : RequestHead) × (rest : List ℕ) × ReadsRequest input h rest × IsShortHead h × ((name : List ℕ) × NamesTarget h.target (target_at Deposit (name ∷ []))) × HasNoFaultBelow 9 h rest

-- An input asks one thing at most.
abbrev pub RequestsMeanOne : Type 0
RequestsMeanOne = (input : List ℕ) (a b : RequestMeaning) → RequestMeans input a → RequestMeans input b → a ≡ b
