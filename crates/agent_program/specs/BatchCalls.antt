-- The calls of a custody that the orders of a batch make.
use Rattle.std.specs.Prelude.{◌≡◌, ◌⊎◌, ◌++◌, ℕ, List, [], ◌∷◌, Option, IfSome}
use Rattle.vault_volume.specs.declared.volume.Volume as volume
use Rattle.sqlite.specs.Store.{Ghosts}
use Rattle.clap.specs.Words.{Text}
use Rattle.custody_records.specs.Records.{Records}
use Rattle.custody.specs.declared.custody.Custody.{Custody}
use Rattle.custody.specs.OpenCustody.{store_state_of}
use Rattle.custody.specs.Custody.{open_custody_of}
use Rattle.answer_lines.specs.Printing.{Writer}
use Rattle.agent_cli.specs.BatchLines.{batch_lines}
use Rattle.agent_cli.specs.declared.order.Order.{Order}
use Rattle.theorems.specs.CustodyCalls.{CustodyCall}
use Rattle.theorems.specs.Deeds.{AreDeedCalls, HasMadeCalls}
use Rattle.agent_program.specs.Host.{IsOrderMoment}
use Rattle.agent_program.specs.Parts.{IsOrderRead}
use Rattle.agent_program.specs.Batch.{AreLinesDone, LineAsksFor}

-- `held` gives the bytes of the files of a host by their paths, and `shown` the moment of its clock.
module _ (held : List ℕ → Option (List ℕ)) (shown : Option ℕ) where
  -- of an order: those of its deed, with the bytes of its part and at its moment; or none, where its part or the clock failed
  abbrev pub AreOrderCalls : Order → List CustodyCall → Type 0
  AreOrderCalls order calls = (calls ≡ [])
      ⊎ ((bytes : List ℕ) × (now : ℕ) × (records : Records) × IsOrderRead held order.deed bytes × IsOrderMoment shown order.now now × AreDeedCalls order.deed bytes now records calls)

  -- of lines: those of the orders of the first so many, in their turn
  abbrev pub AreBatchCalls : (folder : Text) → List (List ℕ) → List CustodyCall → Type 0
  AreBatchCalls folder [] calls = calls ≡ []
  AreBatchCalls folder (line ∷ lines) calls = (calls ≡ [])
      ⊎ ((order : Order) × (first others : List CustodyCall) × LineAsksFor folder line order × AreOrderCalls order first × AreBatchCalls folder lines others × (calls ≡ first ++ others))

module _ {V S : Type 0} {g : volume.Ghosts V} where
  -- A batch is the calls of its lines, which are those of the bytes that were read, where these are known; if the database is honest at the end.
  abbrev pub BatchesAreCalls : (database : Ghosts S) → (old new : Custody V S g database) → Type 0
  BatchesAreCalls database old new = (held : List ℕ → Option (List ℕ)) (shown : Option ℕ) (folder : Text) (bytes : Option (List ℕ)) (status : ℕ) (output errors : Writer) → AreLinesDone held shown folder bytes old new status output errors
      → (store_state_of database (open_custody_of new)).IsHonest → (lines : List (List ℕ)) × IfSome bytes (λ all. lines ≡ batch_lines all) × HasMadeCalls (AreBatchCalls held shown folder lines) database old new
