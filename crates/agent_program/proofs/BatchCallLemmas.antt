-- A batch is calls of a custody.
use Rattle.std.proofs.Common.{◌≡◌, ◌∷◌, [], ℕ, max, List, Option, Bool, true, false, inl, inr, refl}
use Rattle.vault_volume.specs.declared.volume.Volume as volume
use Rattle.sqlite.specs.Store.{Ghosts}
use Rattle.clap.specs.Words.{Text}
use Rattle.custody.specs.declared.custody.Custody.{Custody}
use Rattle.custody.specs.OpenCustody.{current_records}
use Rattle.custody.specs.Custody.{is_open, open_custody_of}
use Rattle.answer_lines.specs.Printing.{Writer}
use Rattle.agent_cli.specs.declared.order.Order.{Order}
use Rattle.theorems.specs.Deeds.{AreDeedCalls, HasMadeCalls}
use Rattle.theorems.proofs.DeedLemmas.{calls_join, deeds_are_calls, honest_before, no_calls}
use Rattle.theorems.proofs.HonestLemmas.{IsHonestIn}
use Rattle.agent_program.specs.Host.{IsOrderMoment}
use Rattle.agent_program.specs.Parts.{IsOrderRead}
use Rattle.agent_program.specs.Batch.{HasDoneOrder, IsBatch}
use Rattle.agent_program.specs.BatchCalls.{AreBatchCalls, AreOrderCalls, BatchesAreCalls}

no_batch : (held : List ℕ → Option (List ℕ)) (shown : Option ℕ) (folder : Text) (lines : List (List ℕ)) → AreBatchCalls held shown folder lines []
no_batch held shown folder [] = refl
no_batch held shown folder (line ∷ lines) = inl refl

module _ {V S : Type 0} {g : volume.Ghosts V} {database : Ghosts S} (held : List ℕ → Option (List ℕ)) (shown : Option ℕ) where
  of_order : (order : Order) (old new : Custody V S g database) (bytes : List ℕ) (now : ℕ) → IsOrderRead held order.deed bytes → HasMadeCalls (AreDeedCalls order.deed bytes now (current_records (open_custody_of old))) database old new
      → IsOrderMoment shown order.now now → HasMadeCalls (AreOrderCalls held shown order) database old new
  of_order order old new bytes now read made moment = record {
    calls = made.calls;
    are_calls = inr (bytes, now, current_records (open_custody_of old), read, moment, made.are_calls);
    goes = made.goes;
  }

  order_calls : (order : Order) (old new : Custody V S g database) (status : ℕ) (output errors : Writer) → HasDoneOrder held shown order old new status output errors → IsHonestIn new
      → HasMadeCalls (AreOrderCalls held shown order) database old new
  order_calls order old new status output errors (inl (bytes, now, read, moment, acts)) honest =
      of_order order old new bytes now read (deeds_are_calls old new order.deed bytes now status output errors acts honest) moment
  order_calls order old new status output errors (inr (error, kind, same, printed, unused)) honest = no_calls (AreOrderCalls held shown order) old new (inl refl) same

  batch_calls : (folder : Text) (lines : List (List ℕ)) (highest : ℕ) (old new : Custody V S g database) (status : ℕ) (output errors : Writer) → IsBatch held shown folder lines highest old new status output errors → IsHonestIn new
      → HasMadeCalls (AreBatchCalls held shown folder lines) database old new
  batch_calls folder [] highest old new status output errors (inl (error, kind, same, failed, unused, told)) honest = no_calls (AreBatchCalls held shown folder []) old new refl same
  batch_calls folder [] highest old new status output errors (inr (same, highest_is, unused, quiet)) honest = no_calls (AreBatchCalls held shown folder []) old new refl same
  batch_calls folder (line ∷ lines) highest old new status output errors (inl (error, kind, same, failed, unused, told)) honest = no_calls (AreBatchCalls held shown folder (line ∷ lines)) old new (inl refl) same
  batch_calls folder (line ∷ lines) highest old new status output errors (inr (inl (fault, none, same, after, unused))) honest = no_calls (AreBatchCalls held shown folder (line ∷ lines)) old new (inl refl) same
  batch_calls folder (line ∷ lines) highest old new status output errors (inr (inr (order, asks, (mid, told, out, err, did, goes_on, closed)))) honest =
      by (λ works. batch_calls folder lines (max highest told) mid new status (record { before = out; after = output.after }) (record { before = err; after = errors.after }) (goes_on works) honest) (is_open mid) refl
    where
      -- the order's calls, and then those of the other lines
      and_then : HasMadeCalls (AreBatchCalls held shown folder lines) database mid new → HasMadeCalls (AreBatchCalls held shown folder (line ∷ lines)) database old new
      and_then others =
          let first = order_calls order old mid told (record { before = output.before; after = out }) (record { before = errors.before; after = err }) did (honest_before (AreBatchCalls held shown folder lines) mid new others honest) in
          calls_join (AreOrderCalls held shown order) (AreBatchCalls held shown folder lines) (AreBatchCalls held shown folder (line ∷ lines)) old mid new (λ xs ys are then. inr (order, xs, ys, asks, are, then, refl)) first others

      by : (is_open mid ≡ true → HasMadeCalls (AreBatchCalls held shown folder lines) database mid new) → (b : Bool) → is_open mid ≡ b → HasMadeCalls (AreBatchCalls held shown folder (line ∷ lines)) database old new
      by others true works = and_then (others works)
      by others false shut = and_then (no_calls (AreBatchCalls held shown folder lines) mid new (no_batch held shown folder lines) (closed shut).0)

module _ {V S : Type 0} {g : volume.Ghosts V} {database : Ghosts S} where
  pub batches_are_calls : (old new : Custody V S g database) → BatchesAreCalls database old new
  batches_are_calls old new held shown folder bytes status output errors (lines, known, done) honest = (lines, known, batch_calls held shown folder lines 0 old new status output errors done honest)
