-- What a target and a body ask of the agent (ICANN Registry Agreement, Specification 2, Part B).
use Rattle.std.specs.Prelude.{◌≡◌, ◌≤◌, ℕ, List, [], decimal, get_or}
use Rattle.std.specs.Int.{IsInRange}
use Rattle.schedule.specs.Schedule.{IsDay}
use Rattle.schedule.specs.Text.{day_text}
use Rattle.deposit_name.specs.Identifiers.{IsTld, IsDepositId, IsReference}
use Rattle.deposit_name.specs.Name.{kind_text}
use Rattle.desk.specs.declared.grounds.Ground.{Ground}
use Rattle.desk.specs.Grounds.{ground_text}
use Rattle.custody_machine.specs.declared.command.Statement as statement
use Rattle.custody_machine.specs.Machine.{Command, Register, Receive, Statement, Check, Release, Hold, Lift, Purge}
use Rattle.http_request.specs.Bodies.{StatementTexts, ReleaseTexts, HoldTexts, IsJsonOf, registration_json, statement_json, release_json, hold_json}
use Rattle.http_request.specs.Paths.{Target}
use Rattle.http_request.specs.declared.routes.Route.{Route}
use Rattle.http_request.specs.declared.routes.Route.TheVariants as route

pub data RequestAction : Type 0 where
  -- a command of the agent
  Do : Command → RequestAction
  -- the notices of a registry
  Report : (tld : List ℕ) → RequestAction
  -- why a revision has failed
  Explain : (tld : List ℕ) → (day rev : ℕ) → RequestAction
  -- the records, and the free blocks
  State : RequestAction
  -- the days that a sweep would record as missed
  Due : RequestAction
  -- the digests of a registry's parts
  Digests : (tld : List ℕ) → RequestAction
  -- the bytes of a part, under a release that lists this name
  Fetch : (reference name : List ℕ) → RequestAction

-- the values of a statement are in form
pub record IsStatement (s : statement.Statement) : Type 0 where
  pub tld : IsTld s.tld
  pub day : IsDay s.day
  pub rev : s.rev ≤ 99
  pub parts : IsInRange 1 8 s.parts
  pub id : IsDepositId s.id

-- the texts that they have in a body
abbrev pub texts_of_statement : statement.Statement → StatementTexts
texts_of_statement s = record { date = day_text s.day; id = s.id; kind = kind_text s.kind; parts = s.parts; revision = s.rev; tld = s.tld }

abbrev pub handover_texts : List ℕ → Ground → ReleaseTexts
handover_texts tld reason = record { reason = ground_text reason; tld = tld }

abbrev pub held_day_texts : List ℕ → ℕ → HoldTexts
held_day_texts tld day = record { date = day_text day; tld = tld }

-- what a route, its parameters and a body stand for: they are those of the command or reading, all in form
abbrev pub MeansAt : Route → (first second third body : List ℕ) → RequestAction → Type 0
MeansAt route.Registry tld _ _ body wanted = IsTld tld × ((first_day : ℕ) × IsDay first_day × IsJsonOf body (registration_json (day_text first_day)) × (wanted ≡ Do (Register tld first_day)))
MeansAt route.Deposit name _ _ body wanted = wanted ≡ Do (Receive name body)
MeansAt route.Statements _ _ _ body wanted = (s : statement.Statement) × IsStatement s × IsJsonOf body (statement_json (texts_of_statement s)) × (wanted ≡ Do (Statement s))
MeansAt route.Check tld date _ body wanted = IsTld tld × ((day : ℕ) × IsDay day × (date ≡ day_text day) × (wanted ≡ Do (Check tld day)))
MeansAt route.Release reference _ _ body wanted =
    IsReference reference × ((tld : List ℕ) × (reason : Ground) × IsTld tld × IsJsonOf body (release_json (handover_texts tld reason)) × (wanted ≡ Do (Release reference tld reason)))
MeansAt route.ReleasedPart reference name _ body wanted = IsReference reference × (wanted ≡ Fetch reference name)
MeansAt route.Hold reference _ _ body wanted =
    IsReference reference × ((tld : List ℕ) × (day : ℕ) × IsTld tld × IsDay day × IsJsonOf body (hold_json (held_day_texts tld day)) × (wanted ≡ Do (Hold reference tld day)))
MeansAt route.Lift reference _ _ body wanted = IsReference reference × (wanted ≡ Do (Lift reference))
MeansAt route.Notices tld _ _ body wanted = IsTld tld × (wanted ≡ Report tld)
MeansAt route.Reasons tld date revision body wanted =
    IsTld tld × ((day : ℕ) × (rev : ℕ) × IsDay day × (rev ≤ 99) × (date ≡ day_text day) × (revision ≡ decimal rev) × (wanted ≡ Explain tld day rev))
MeansAt route.Digests tld _ _ body wanted = IsTld tld × (wanted ≡ Digests tld)
MeansAt route.State _ _ _ body wanted = wanted ≡ State
MeansAt route.Due _ _ _ body wanted = wanted ≡ Due
MeansAt route.Purges _ _ _ body wanted = wanted ≡ Do Purge

abbrev pub Means : Target → List ℕ → RequestAction → Type 0
Means target body wanted = MeansAt target.route (get_or target.parameters 0 []) (get_or target.parameters 1 []) (get_or target.parameters 2 []) body wanted
