-- Why a deposit fails a check of what its envelope says: the first place at which the check does not hold.
use Rattle.std.specs.Prelude.{◌≡◌, ◌≢◌, ◌≤◌, ◌-◌, ℕ, List, Contains, IsTrue, Option, Some, None, map, slice_get, take}
use Rattle.schedule.specs.Schedule.{is_sunday}
use Rattle.deposit_name.specs.Name.{Name}
use Rattle.deposit_name.specs.declared.kinds.Kind.{Kind}
use Rattle.deposit_name.specs.declared.kinds.Kind.TheVariants.{Full, Diff, Incr}
use Rattle.deposit_name.specs.declared.table.TableName.{TableName}
use Rattle.desk.specs.declared.checks.Check.{Check}
use Rattle.desk.specs.declared.checks.Check.TheVariants as check
use Rattle.envelope.specs.Envelope.{Env}
use Rattle.deposit_verify.specs.declared.files_reason.FileList.TheVariants as list
use Rattle.deposit_verify.specs.declared.header_reason.HeaderReason.{HeaderReason}
use Rattle.deposit_verify.specs.declared.header_reason.HeaderReason.TheVariants as header
use Rattle.deposit_verify.specs.declared.header_reason.MenuReason.{MenuReason}
use Rattle.deposit_verify.specs.declared.header_reason.MenuReason.TheVariants as menu
use Rattle.deposit_verify.specs.declared.header_reason.OtherName.{OtherName}
use Rattle.deposit_verify.specs.declared.header_reason.OtherName.TheVariants as other
use Rattle.deposit_verify.specs.Checks.{FollowsPassed, HasContents, StandInOrder, counted_uris, object_uris}
use Rattle.deposit_verify.specs.Deposit.{deletes_of}
use Rattle.deposit_verify.specs.Known.{Known}
use Rattle.deposit_verify.specs.Places.{all_tables, table_place}

-- the check that a deposit fails for this reason
abbrev pub header_check : HeaderReason → Check
header_check (header.Name reason) = check.Name
header_check (header.Id here stated) = check.Statement
header_check (header.Sunday day) = check.Weekday
header_check (header.PrevId kind here wanted) = check.PrevId
header_check (header.IdTaken id) = check.IdTaken
header_check (header.Menu reason) = check.Menu

-- ---- the name

-- what the envelope tells here is another than what is named
pub record IsOther {X : Type 0} (told wanted here named : X) : Type 0 where
  pub here_told : here ≡ told
  pub named_wanted : named ≡ wanted
  pub other : here ≢ named

-- the first of these members, in the order of the envelope's text, that is not what the name says
abbrev pub IsOtherName : Env → Name → OtherName → Type 0
IsOtherName v name (other.Tld here named) = IsOther v.tld name.tld here named
IsOtherName v name (other.Resend here named) = (v.tld ≡ name.tld) × IsOther v.resend name.rev here named
IsOtherName v name (other.Kind here named) = (v.tld ≡ name.tld) × (v.resend ≡ name.rev) × IsOther v.kind name.kind here named
IsOtherName v name (other.Watermark here named) = (v.tld ≡ name.tld) × (v.resend ≡ name.rev) × (v.kind ≡ name.kind) × IsOther v.watermark name.day here named

-- ---- the deposit before

-- the id of the deposit that one of this kind follows: none of a full one, the latest that passed, or the latest full one that passed
abbrev pub wanted_id : Kind → Known → Option (List ℕ)
wanted_id Full known = None
wanted_id Diff known = known.latest
wanted_id Incr known = known.full

-- ---- the menu

-- the lists are the same before this place, and not at it
abbrev pub FirstDiffers : {X : Type 0} → List X → List X → ℕ → Type 0
FirstDiffers xs ys place = (take place xs ≡ take place ys) × (slice_get xs place ≢ slice_get ys place)

-- this stands in the first at that place: none at its end
abbrev pub IsFirstOther : {X : Type 0} → List X → List X → ℕ → Option X → Type 0
IsFirstOther xs ys place here = FirstDiffers xs ys place × (here ≡ slice_get xs place)

-- the tables before this place stand in order, and the one at it does not stand behind the one before it
pub record IsOutOfOrder (names : List TableName) (place : ℕ) (before here : TableName) : Type 0 where
  pub later : 1 ≤ place
  pub in_order : StandInOrder (take place names)
  pub before_told : slice_get names (place - 1) ≡ Some before
  pub here_told : slice_get names place ≡ Some here
  pub not_behind : table_place here ≤ table_place before

-- the objects of the menu, and those that are counted, are right
abbrev pub HasObjects : Env → Type 0
HasObjects v = (v.object_uris ≡ object_uris) × (map (λ c. c.uri) v.count ≡ counted_uris)

-- the first place at which a list is not right: the contents of a full deposit are all tables, and any other contents and the deletes stand in order
abbrev pub IsMenuReason : Env → MenuReason → Type 0
IsMenuReason v (menu.ObjectUri place here) = IsFirstOther v.object_uris object_uris place here
IsMenuReason v (menu.Count place here) = (v.object_uris ≡ object_uris) × IsFirstOther (map (λ c. c.uri) v.count) counted_uris place here
IsMenuReason v (menu.Contents place here) = HasObjects v × (v.kind ≡ Full) × IsFirstOther (map (λ f. f.name) v.contents) all_tables place here
IsMenuReason v (menu.Order list.Contents place before here) = HasObjects v × (v.kind ≢ Full) × IsOutOfOrder (map (λ f. f.name) v.contents) place before here
IsMenuReason v (menu.Order list.Deletes place before here) = HasObjects v × HasContents v.kind (map (λ f. f.name) v.contents) × IsOutOfOrder (map (λ f. f.name) (deletes_of v)) place before here

-- ---- the reason

-- what the reason tells is so of the envelope, and of what is known
abbrev pub IsHeaderReason : Env → Known → HeaderReason → Type 0
IsHeaderReason v known (header.Name reason) = IsOtherName v known.name reason
IsHeaderReason v known (header.Id here stated) = IsOther v.id known.id here stated
IsHeaderReason v known (header.Sunday day) = (day ≡ v.watermark) × IsTrue (is_sunday day) × (v.kind ≢ Full)
IsHeaderReason v known (header.PrevId kind here wanted) = (kind ≡ v.kind) × (here ≡ v.prev_id) × (wanted ≡ wanted_id v.kind known) × ¬ FollowsPassed v.kind v.prev_id known
IsHeaderReason v known (header.IdTaken id) = (id ≡ v.id) × Contains known.passed id
IsHeaderReason v known (header.Menu reason) = IsMenuReason v reason
