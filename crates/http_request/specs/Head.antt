-- The head of a request within the limits of this interface (RFC 9112, section 2.1).
use Rattle.std.specs.Prelude.{◌≤◌, ℕ, List, length, drop}
use Rattle.httparse.specs.Grammar.{ReadsRequest, RequestHead, print_request}
use Rattle.httparse.specs.Spans.{IsRequestAt, IsRequestWithin}
use Rattle.http_request.specs.declared.head.Head.{Head}

-- at most 8,192 bytes, and at most 32 fields
abbrev pub IsShortHead : RequestHead → Type 0
IsShortHead h = (length (print_request h) ≤ 8192) × (length h.fields ≤ 32)

-- no beginning of the input is such a head
abbrev pub HasNoShortHead : List ℕ → Type 0
HasNoShortHead input = (h : RequestHead) (rest : List ℕ) → ReadsRequest input h rest → ¬ (IsShortHead h)

-- the bytes begin with such a head, and the spans cover its parts
abbrev pub IsHeadOf : Head → Type 0
IsHeadOf head = IsRequestWithin head.bytes.items head.headers head.spans × ((h : RequestHead) × IsRequestAt head.bytes.items head.headers head.spans h × IsShortHead h)

-- the spans cover the parts of this head
abbrev pub CoversHead : Head → RequestHead → Type 0
CoversHead head h = IsRequestAt head.bytes.items head.headers head.spans h

-- what was read behind the head
abbrev pub rest_of : Head → List ℕ
rest_of head = drop head.spans.len head.bytes.items
