-- Why a request asks nothing of the agent.
use Rattle.std.specs.Prelude.{◌≡◌, ◌<◌, ℕ, List, length, Option, Some}
use Rattle.http_request.specs.declared.errors.RequestError.{RequestError}
use Rattle.http_request.specs.declared.errors.RequestError.TheVariants as error
use Rattle.http_request.specs.declared.faults.RequestFault.{RequestFault}
use Rattle.http_request.specs.declared.faults.RequestFault.TheVariants as fault
use Rattle.http_request.specs.RequestMeaning.{RequestMeans, bad}

-- a fault that is told is what the input asks
abbrev pub IsRequestError : List ℕ → RequestError → Type 0
IsRequestError input error.Unread = Unit {0}
IsRequestError input error.NoMemory = Unit {0}
IsRequestError input (error.Fault found) = RequestMeans input (bad found)

-- the input ends within a body of which so many bytes are declared
abbrev pub IsBodyShort : List ℕ → Option ℕ → RequestFault → Type 0
IsBodyShort rest declared fault.BodyShort = (n : ℕ) × (declared ≡ Some n) × (length rest < n)
IsBodyShort rest declared _ = ⊥

-- the same while the body is read
abbrev pub IsBodyError : List ℕ → Option ℕ → RequestError → Type 0
IsBodyError rest declared error.Unread = Unit {0}
IsBodyError rest declared error.NoMemory = Unit {0}
IsBodyError rest declared (error.Fault found) = IsBodyShort rest declared found

-- a target and a body stand for nothing, or memory was refused
abbrev pub IsMeaningError : RequestError → Type 0
IsMeaningError error.Unread = ⊥
IsMeaningError error.NoMemory = Unit {0}
IsMeaningError (error.Fault found) = found ≡ fault.Form
