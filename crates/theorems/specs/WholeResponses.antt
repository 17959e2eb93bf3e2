-- What a client can tell from the bytes that it has read (RFC 9112, section 6.3: a response ends where its Content-Length says).
use Rattle.std.specs.Prelude.{◌≡◌, ◌<◌, ◌^◌, ℕ, List, [], ◌++◌, length}
use Rattle.custody_machine.specs.Moves.{Place}
use Rattle.http_api.specs.Responses.{HttpResponse, response_bytes}
use Rattle.theorems.specs.Service.{Exchange, Exchanged, IsBeginning, ServiceMoves}

-- its length has a number of 64 bits, as that of all that is in memory
abbrev pub HasCountableBody : HttpResponse → Type 0
HasCountableBody answer = length answer.body < 2 ^ 64

-- No response is the beginning of another: bytes that begin with a whole response are that one, and nothing more.
abbrev pub NoResponseBeginsAnother : Type 0
NoResponseBeginsAnother = (a b : HttpResponse) (rest : List ℕ) → HasCountableBody a → HasCountableBody b → response_bytes b ≡ response_bytes a ++ rest → (b ≡ a) × (rest ≡ [])

-- So where a client has read a whole response, it is the one that was made, and all of that was written.
abbrev pub ClientsCanTell : Type 0
ClientsCanTell = (old new : Place) (x : Exchange) (read : List ℕ) (answer : HttpResponse) → ServiceMoves old (Exchanged x) new
    → IsBeginning read x.written → read ≡ response_bytes answer → HasCountableBody answer → HasCountableBody x.answer
    → (x.answer ≡ answer) × (x.written ≡ response_bytes x.answer)
