-- The thirteen checks of a deposit, each said by what the deposit reads as, and the verdict.
use Rattle.std.specs.Prelude.{◌≡◌, ◌≢◌, ◌<◌, ⊤, ℕ, List, [], ◌∷◌, Contains, IfSome, IsTrue, Option, Some, None, codes, length, map, take}
use Rattle.std.specs.List.{AllZip}
use Rattle.std.specs.List.Sorted.{IsStrictlyIncreasing}
use Rattle.schedule.specs.Schedule.{is_sunday}
use Rattle.deposit_name.specs.Name.{Name}
use Rattle.deposit_name.specs.declared.kinds.Kind.{Kind}
use Rattle.deposit_name.specs.declared.kinds.Kind.TheVariants.{Full, Diff, Incr}
use Rattle.deposit_name.specs.declared.table.TableName.{TableName}
use Rattle.deposit_name.specs.declared.table.TableName.TheVariants.{Domain, Host, Contact, Registrar}
use Rattle.desk.specs.Checks.{check_number}
use Rattle.desk.specs.declared.checks.Check.{Check}
use Rattle.desk.specs.declared.checks.Check.TheVariants as check
use Rattle.envelope.specs.Frame.{IsFrame}
use Rattle.envelope.specs.Envelope.{Env}
use Rattle.envelope.specs.declared.envelope.Count.{Count}
use Rattle.deposit_verify.specs.declared.verdict.Verdict.{Verdict}
use Rattle.deposit_verify.specs.declared.verdict.Verdict.TheVariants.{Pass, Fail}
use Rattle.deposit_verify.specs.Known.{Known}
use Rattle.deposit_verify.specs.declared.base.Base.{Base}
use Rattle.deposit_verify.specs.Deposit.{AreTables, HasDeletes, HasEnvelope, HasFiles, IsTableFile, contents_files, deletes_of}
use Rattle.deposit_verify.specs.Keys.{IsKeyAfter, IsNumberOf, keys_in}
use Rattle.deposit_verify.specs.Places.{all_tables, table_place}
use Rattle.deposit_verify.specs.References.{AreReferencesKept}

-- ---- what the envelope has to say

-- the deposit is the one that its name tells
pub record AgreesWithName (v : Env) (name : Name) : Type 0 where
  pub kind : v.kind ≡ name.kind
  pub tld : v.tld ≡ name.tld
  pub day : v.watermark ≡ name.day
  pub resend : v.resend ≡ name.rev

-- a full deposit has passed, and no other deposit is named as the one before
abbrev pub FollowsFull : Option (List ℕ) → Option (List ℕ) → Type 0
FollowsFull prev_id full = (id : List ℕ) × (full ≡ Some id) × IfSome prev_id (λ named. named ≡ id)

-- a full deposit follows none, a differential one the latest that passed, and an incremental one the latest full one that passed
abbrev pub FollowsPassed : Kind → Option (List ℕ) → Known → Type 0
FollowsPassed Full prev_id known = prev_id ≡ None
FollowsPassed Diff prev_id known = (id : List ℕ) × (prev_id ≡ Some id) × (known.latest ≡ Some id)
FollowsPassed Incr prev_id known = FollowsFull prev_id known.full

-- the objects of a deposit, by the URIs of their namespaces (RFC 9022)
abbrev pub object_uris : List (List ℕ)
object_uris =
    codes "urn:ietf:params:xml:ns:csvContact-1.0"
    ∷ codes "urn:ietf:params:xml:ns:csvDomain-1.0"
    ∷ codes "urn:ietf:params:xml:ns:csvHost-1.0"
    ∷ codes "urn:ietf:params:xml:ns:csvRegistrar-1.0"
    ∷ codes "urn:ietf:params:xml:ns:rdeHeader-1.0"
    ∷ []

-- those that are counted, and their tables
abbrev pub counted_uris : List (List ℕ)
counted_uris = take 4 object_uris

abbrev pub counted_tables : List TableName
counted_tables = Contact ∷ Domain ∷ Host ∷ Registrar ∷ []

-- some tables in that order, each at most once
abbrev pub StandInOrder : List TableName → Type 0
StandInOrder names = IsStrictlyIncreasing (map table_place names)

-- a full deposit has all tables, and any other some of them, in order
abbrev pub HasContents : Kind → List TableName → Type 0
HasContents Full names = names ≡ all_tables
HasContents Diff names = StandInOrder names
HasContents Incr names = StandInOrder names

pub record HasMenu (v : Env) : Type 0 where
  pub objects : v.object_uris ≡ object_uris
  pub counted : map (λ c. c.uri) v.count ≡ counted_uris
  pub contents : HasContents v.kind (map (λ f. f.name) v.contents)
  pub deletes : StandInOrder (map (λ f. f.name) (deletes_of v))

-- ---- what the files have to say

-- the files of contents are tables, of which this holds
abbrev pub HasTables : Env → List ℕ → ((TableName → List (List (List ℕ))) → Type 0) → Type 0
HasTables v rest P = HasFiles v rest (λ files. (tables : TableName → List (List (List ℕ))) × AreTables v.contents (contents_files v files) tables × P tables)

-- the header's counts, in the order of the counted tables, are the numbers of their rows
abbrev pub AreRowCounts : List Count → (TableName → List (List (List ℕ))) → Type 0
AreRowCounts counts tables = map (λ c. c.count) counts ≡ map (λ name. length (tables name)) counted_tables

-- they are the numbers of the keys that there are after the deposit, where these are there before it
abbrev pub AreKeyCounts : Env → List ℕ → Base → Type 0
AreKeyCounts v rest base = AllZip (λ count name. IsNumberOf (IsKeyAfter v rest (keys_in base name) name) count.count) v.count counted_tables

-- what a deposit that is not full counts is said where the keys before it are known, and those that it deletes are read
abbrev pub AreChainCounts : Env → List ℕ → Known → Type 0
AreChainCounts v rest known = IfSome known.base (λ base. HasDeletes v rest → AreKeyCounts v rest base)

-- ---- the checks

-- what a check says of the deposit that has this envelope, and these bytes behind it
abbrev pub CheckSays : Env → List ℕ → Known → Check → Type 0
CheckSays v rest known check.Frame = ⊤
CheckSays v rest known check.Envelope = ⊤
CheckSays v rest known check.Name = AgreesWithName v known.name
CheckSays v rest known check.Statement = v.id ≡ known.id
CheckSays v rest known check.Weekday = IsTrue (is_sunday v.watermark) → v.kind ≡ Full
CheckSays v rest known check.PrevId = FollowsPassed v.kind v.prev_id known
CheckSays v rest known check.IdTaken = ¬ Contains known.passed v.id
CheckSays v rest known check.Menu = HasMenu v
CheckSays v rest known check.Files = HasFiles v rest (λ files. ⊤)
CheckSays v rest known check.Table = HasFiles v rest (λ files. AllZip IsTableFile v.contents (contents_files v files))
CheckSays v rest known check.Counts = (v.kind ≡ Full → HasTables v rest (AreRowCounts v.count)) × (v.kind ≢ Full → AreChainCounts v rest known)
CheckSays v rest known check.References = v.kind ≡ Full → HasTables v rest AreReferencesKept
CheckSays v rest known check.Deletes = HasDeletes v rest

-- the deposit passes a check
abbrev pub PassesCheck : List ℕ → Known → Check → Type 0
PassesCheck joined known check.Frame = (envelope : List ℕ) × (rest : List ℕ) × IsFrame joined envelope rest
PassesCheck joined known c = HasEnvelope joined (λ v rest. CheckSays v rest known c)

-- each check below this one holds
abbrev pub PassesBelow : (Check → Type 0) → ℕ → Type 0
PassesBelow P n = (c : Check) → check_number c < n → P c

-- this check is the least that fails
abbrev pub IsLeastFailing : (Check → Type 0) → Check → Type 0
IsLeastFailing P c = (¬ P c) × PassesBelow P (check_number c)

-- the verdict names the least check that fails, or is a pass where none does
abbrev pub IsLeast : (Check → Type 0) → Verdict → Type 0
IsLeast P Pass = (c : Check) → P c
IsLeast P (Fail c) = IsLeastFailing P c

abbrev pub IsVerdict : List ℕ → Known → Verdict → Type 0
IsVerdict joined known v = IsLeast (PassesCheck joined known) v
