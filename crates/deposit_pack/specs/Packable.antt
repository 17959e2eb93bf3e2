-- What a registry deposits so that it passes, and the law of that (Specification 2, Part A, sections 2 and 7).
use Rattle.std.specs.Prelude.{◌≡◌, ◌≢◌, ◌≤◌, ◌<◌, ◌^◌, ◌++◌, ⊤, ℕ, List, [], All, Contains, IfSome, IsSome, IsTrue, Option, Some, None, length, map}
use Rattle.std.specs.List.{AllZip}
use Rattle.schedule.specs.Schedule.{is_sunday}
use Rattle.deposit_name.specs.Identifiers.{IsDepositId}
use Rattle.deposit_name.specs.Name.{IsName}
use Rattle.deposit_name.specs.Tables.{has_deletes}
use Rattle.deposit_name.specs.declared.kinds.Kind.{Kind}
use Rattle.deposit_name.specs.declared.kinds.Kind.TheVariants.{Full, Diff, Incr}
use Rattle.deposit_name.specs.declared.table.TableName.{TableName}
use Rattle.envelope.specs.Envelope.{Env, file_length_max}
use Rattle.deposit_verify.specs.Checks.{AgreesWithName, FollowsPassed, HasContents, StandInOrder}
use Rattle.deposit_verify.specs.Deposit.{HasFiles, IsDeposit, IsKeyFileOf, IsTableOf, contents_files, deletes_files, deletes_of}
use Rattle.deposit_verify.specs.Known.{Known}
use Rattle.deposit_verify.specs.References.{AreReferencesKept}
use Rattle.deposit_verify.specs.Verdict.{verdict}
use Rattle.deposit_verify.specs.declared.base.Base.{Base}
use Rattle.deposit_verify.specs.declared.verdict.Verdict.TheVariants.{Pass}
use Rattle.deposit_pack.specs.Packing.{NamedRows, Objects, contents_rows, file_of, table_names, numbers_of, packed}
use Rattle.deposit_pack.specs.declared.source.Attributes.{Attributes}

-- ---- what passes

-- name and ids in form
pub record AreAttributes (a : Attributes) : Type 0 where
  pub name : IsName a.name
  pub id : IsDepositId a.id
  pub prev_id : IfSome a.prev_id IsDepositId

-- a full deposit names none before it, a differential one does, and an incremental one may
abbrev pub MayFollow : Kind → Option (List ℕ) → Type 0
MayFollow Full prev_id = prev_id ≡ None
MayFollow Diff prev_id = IsSome prev_id
MayFollow Incr prev_id = ⊤

-- a full deposit deletes no keys, and any other those of some of four tables, in order
abbrev pub MayDelete : Kind → List TableName → Type 0
MayDelete Full names = names ≡ []
MayDelete Diff names = StandInOrder names × All (λ name. IsTrue (has_deletes name)) names
MayDelete Incr names = StandInOrder names × All (λ name. IsTrue (has_deletes name)) names

-- the rows are in form, and no two have one key
abbrev pub AreTableRows : NamedRows → Type 0
AreTableRows f = IsTableOf f.name (file_of f) f.rows

abbrev pub AreKeyRows : NamedRows → Type 0
AreKeyRows f = IsKeyFileOf f.name (file_of f) f.rows

-- these objects may be deposited under these attributes, where these keys are there before
pub record IsPackable (a : Attributes) (o : Objects) (before : Base) : Type 0 where
  pub attributes : AreAttributes a
  pub weekday : IsTrue (is_sunday a.name.day) → a.name.kind ≡ Full
  pub prev_id : MayFollow a.name.kind a.prev_id
  pub contents : HasContents a.name.kind (table_names o.contents)
  pub deletes : MayDelete a.name.kind (table_names o.deletes)
  pub tables : All AreTableRows o.contents
  pub keys : All AreKeyRows o.deletes
  pub references : a.name.kind ≡ Full → AreReferencesKept (contents_rows o)
  pub lengths : All (λ f. length (file_of f) ≤ file_length_max) (o.contents ++ o.deletes)
  pub counts : All (λ n. n < 2 ^ 32) (numbers_of a.name.kind a o before)

-- ---- what is a deposit of these objects

-- these files have these tables and deleted keys, in any spelling that a deposit may have
pub record HaveObjects (o : Objects) (v : Env) (files : List (List ℕ)) : Type 0 where
  pub contents_named : map (λ entry. entry.name) v.contents ≡ table_names o.contents
  pub deletes_named : map (λ entry. entry.name) (deletes_of v) ≡ table_names o.deletes
  pub tables : AllZip (λ f file. IsTableOf f.name file f.rows) o.contents (contents_files v files)
  pub keys : AllZip (λ f file. IsKeyFileOf f.name file f.rows) o.deletes (deletes_files v files)

-- the deposit has these attributes and objects
pub record IsDepositOf (a : Attributes) (o : Objects) (joined : List ℕ) : Type 0 where
  pub envelope : Env
  pub rest : List ℕ
  pub deposit : IsDeposit joined envelope rest
  pub name : AgreesWithName envelope a.name
  pub id : envelope.id ≡ a.id
  pub prev_id : envelope.prev_id ≡ a.prev_id
  pub files : HasFiles envelope rest (HaveObjects o envelope)

-- ---- the law

-- what the agent knows when the deposit is stated: its name and its id, under which none has passed; that it follows what its kind has to follow; and the keys before it, if it knows any, are these
pub record IsKnownFor (a : Attributes) (before : Base) (known : Known) : Type 0 where
  pub name : known.name ≡ a.name
  pub id : known.id ≡ a.id
  pub follows : FollowsPassed a.name.kind a.prev_id known
  pub free : ¬ Contains known.passed a.id
  pub base : a.name.kind ≢ Full → IfSome known.base (λ base. base ≡ before)

-- What may be packed is packed as a deposit of these objects that passes, whatever else is known; and no other deposit of them passes.
pub record IsPackingLaw : Type 0 where
  pub packs : (a : Attributes) (o : Objects) (before : Base) → IsPackable a o before → IsDepositOf a o (packed a o before)
  pub passes : (a : Attributes) (o : Objects) (before : Base) (known : Known) → IsPackable a o before → IsKnownFor a before known
      → verdict (packed a o before) known ≡ Pass
  pub only : (a : Attributes) (o : Objects) (before : Base) (known : Known) (joined : List ℕ) → AreAttributes a
      → (a.name.kind ≢ Full → known.base ≡ Some before) → IsDepositOf a o joined → verdict joined known ≡ Pass
      → IsPackable a o before × (joined ≡ packed a o before)
