-- What is known of a request once its head is read.
use Rattle.std.specs.Prelude.{◌≡◌, ◌≤◌, ℕ, List, true, Option, Some, None}
use Rattle.httparse.specs.Grammar.{RequestHead}
use Rattle.http_request.specs.RequestMeaning.{AreContentLength, content_lengths, method_text, HasNoFaultBelow}
use Rattle.std.specs.List.{list_all}
use Rattle.http_request.specs.declared.plan.Plan.{Plan}
use Rattle.http_request.specs.Paths.{Target, NamesTarget, is_target_byte, limit_of, method_of}
use Rattle.http_request.specs.Targets.{target_view}

-- the target is found, and the method is its route's
pub record IsReached (h : RequestHead) (target : Target) : Type 0 where
  pub bytes : list_all is_target_byte h.target ≡ true
  pub names : NamesTarget h.target target
  pub method : h.method ≡ method_text (method_of target)

-- the length is told, and within the limit
abbrev pub FitsLength : Option ℕ → List (List ℕ) → Option ℕ → Type 0
FitsLength None values n = n ≡ None
FitsLength (Some limit) values None = ⊥
FitsLength (Some limit) values (Some n) = AreContentLength values n × (n ≤ limit)

-- the head's target and the length of its body, and no fault of the head stands
abbrev pub IsPlanOf : RequestHead → Plan → Type 0
IsPlanOf h plan = NamesTarget h.target (target_view plan.target) × FitsLength (limit_of (target_view plan.target)) (content_lengths h) plan.length × ((rest : List ℕ) → HasNoFaultBelow 9 h rest)
