-- What may be wrong with database and volume, each a sentence over the rows of the tables and the image; and that what is not damaged stands for one state.
use Rattle.std.specs.Prelude.{◌≡◌, ◌≢◌, ℕ, ◌*◌, ◌<◌, ◌^◌, List, length, Some, None}
use Rattle.vault_volume.specs.Image.{bytes_at}
use Rattle.vault_volume.specs.Head.{head_of}
use Rattle.custody_records.specs.declared.damage.RowDamage.TheVariants as rows_damage
use Rattle.custody_records.specs.Records.{Records}
use Rattle.custody_records.specs.Rows.{MetaRow, Rows, first_meta}
use Rattle.custody_records.specs.RowsOfRecords.{digits_of}
use Rattle.custody_records.specs.Form.{form_of, OutOfForm, InForm, natural}
use Rattle.custody_machine.specs.declared.damage.Damage.{Damage}
use Rattle.custody_machine.specs.declared.damage.Damage.TheVariants.{NoRecord, Head, Volume, Schema, Form, Extent, Overlap, Link, Digest}
use Rattle.custody_machine.specs.State.{State}
use Rattle.custody_machine.specs.StoredState.{HaveExtentsInRange, HaveBlocksOnce, AreLinked, StandsFor}

-- a row of `meta` is of a volume with this number and this image
pub record IsRowOf (meta : MetaRow) (number : ℕ) (image : List ℕ) : Type 0 where
  pub number_is : meta.number ≡ digits_of number
  pub size : length image ≡ 4096 * natural meta.blocks

-- What is wrong, in the order in which an opening looks for it. An opening reads no part, so no digest is among them.
abbrev pub IsDamaged : Damage → Rows → List ℕ → Type 0
IsDamaged NoRecord rows image = first_meta rows ≡ None
IsDamaged Head rows image = (number : ℕ) → number < 2 ^ 64 → bytes_at image 0 4096 ≢ head_of number
IsDamaged Volume rows image = (meta : MetaRow) × (number : ℕ) × (number < 2 ^ 64) × (first_meta rows ≡ Some meta) × (bytes_at image 0 4096 ≡ head_of number) × (¬ IsRowOf meta number image)
IsDamaged Schema rows image = form_of rows ≡ OutOfForm rows_damage.Schema
IsDamaged Form rows image = form_of rows ≡ OutOfForm rows_damage.Form
IsDamaged Extent rows image = (records : Records) × (form_of rows ≡ InForm records) × (¬ HaveExtentsInRange records)
IsDamaged Overlap rows image = (records : Records) × (form_of rows ≡ InForm records) × (¬ HaveBlocksOnce records)
IsDamaged Link rows image = (records : Records) × (form_of rows ≡ InForm records) × (¬ AreLinked records)
IsDamaged Digest rows image = ⊥

-- the numbers H0 to H8
abbrev pub damage_number : Damage → ℕ
damage_number NoRecord = 0
damage_number Head = 1
damage_number Volume = 2
damage_number Schema = 3
damage_number Form = 4
damage_number Extent = 5
damage_number Overlap = 6
damage_number Link = 7
damage_number Digest = 8

-- no damage with a lower number is true
abbrev pub NoDamageBefore : Damage → Rows → List ℕ → Type 0
NoDamageBefore damage rows image = (earlier : Damage) → damage_number earlier < damage_number damage → ¬ IsDamaged earlier rows image

-- What an opening tells: the damage with the lowest number that is true.
pub record IsFirstDamage (damage : Damage) (rows : Rows) (image : List ℕ) : Type 0 where
  pub is_true : IsDamaged damage rows image
  pub first : NoDamageBefore damage rows image

-- A pair that is damaged stands for no state, and one that is not for exactly one. No two damages are the first of one pair.
pub record IsRefinement : Type 0 where
  pub none : (damage : Damage) (rows : Rows) (image : List ℕ) (state : State) → IsDamaged damage rows image → ¬ StandsFor rows image state
  pub some : (rows : Rows) (image : List ℕ) → ((damage : Damage) → ¬ IsDamaged damage rows image) → (state : State) × StandsFor rows image state
  pub one : (rows : Rows) (image : List ℕ) (a b : State) → StandsFor rows image a → StandsFor rows image b → a ≡ b
  pub told_once : (rows : Rows) (image : List ℕ) (a b : Damage) → IsFirstDamage a rows image → IsFirstDamage b rows image → a ≡ b
