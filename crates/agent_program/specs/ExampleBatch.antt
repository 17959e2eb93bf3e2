-- The calls of a batch, written out, so that the law of batches speaks of something.
use Rattle.std.specs.Prelude.{◌≡◌, ℕ, List, [], ◌∷◌, Option, Some, Result, codes}
use Rattle.std.specs.Borrow.{Bor}
use Rattle.custody_machine.specs.Machine.{Purge}
use Rattle.custody.specs.declared.answers.Reply.{Reply}
use Rattle.custody.specs.declared.answers.Refused.{Refused}
use Rattle.theorems.specs.CustodyCalls.{Applies}
use Rattle.agent_program.specs.BatchCalls.{AreBatchCalls}

pub record BatchesHappen : Type 0 where
  -- A line that asks for a purge is that command, at the moment that the clock shows.
  pub purge : (held : List ℕ → Option (List ℕ)) (folder : Bor (List ℕ)) (now : ℕ) (answer : Result Reply Refused) → folder.now ≡ codes "vault" → AreBatchCalls held (Some now) folder.now (codes "purge" ∷ []) (Applies Purge now answer ∷ [])
  -- It is no call if it is not read.
  pub unread : (held : List ℕ → Option (List ℕ)) (shown : Option ℕ) → AreBatchCalls held shown (codes "vault") (codes "purge" ∷ []) []
