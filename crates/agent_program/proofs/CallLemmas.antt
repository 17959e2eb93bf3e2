-- What stops a call by its words stops it by the words that the program was started with.
use Rattle.std.proofs.Common.{◌≡◌, ℕ, List, Option, Result, Ok, Err, IfErr, IfSome, OnErr, inr}
use Rattle.std.proofs.lemmas.Result.{IfErr-weaker}
use Rattle.clap.specs.Words.{Text}
use Rattle.agent_cli.specs.declared.order.Order.{Order}
use Rattle.agent_program.specs.Calls.{AskFor, IsNotDone, MayStop}
use Rattle.agent_program.specs.Errors.{IsProgramFailure}
use Rattle.agent_program.specs.Folder.{IsSpared}
use Rattle.agent_program.specs.declared.errors.ProgramError.{ProgramError}

module _ (reveals : Type 0) (held later : List ℕ → Option (List ℕ)) where
  pub stops : {T : Type 0} (given : Option (List Text)) (words : List Text) (r : Result T ProgramError) → IfSome given (λ all. words ≡ all)
      → IfErr r (λ error. IsProgramFailure error × IsNotDone reveals held later words) → IfErr r (MayStop reveals held later given)
  stops given words r known failed =
      IfErr-weaker r (λ error. IsProgramFailure error × IsNotDone reveals held later words) (MayStop reveals held later given) (λ error why. inr (why.0, (words, known, why.1))) failed

  -- an order that the words ask for was not done
  pub not_done : {T : Type 0} (words : List Text) (order : Order) (r : Result T ProgramError) → AskFor words order → IfErr r IsProgramFailure → (reveals → OnErr r (IsSpared held later order))
      → IfErr r (λ error. IsProgramFailure error × IsNotDone reveals held later words)
  not_done words order (Ok done) asks failed spared = tt
  not_done words order (Err error) asks failed spared = (failed, (order, asks, spared))
