-- Commands in order.
use Rattle.std.proofs.Common.{◌≡◌, ℕ, ◌+◌, ◌<◌, List, [], ◌∷◌, ◌++◌, length, take, get_or, refl, sym, ap, subst, Result}
use Rattle.std.proofs.lemmas.List.{take_more}
use Rattle.sqlite.specs.Store.{Ghosts}
use Rattle.vault_volume.specs.declared.volume.Volume as volume
use Rattle.custody_machine.specs.declared.command.Command as asked
use Rattle.custody_machine.specs.Machine.{TimedCommand}
use Rattle.custody_machine.specs.Commands.{command_of}
use Rattle.custody.specs.declared.answers.Reply.{Reply}
use Rattle.custody.specs.declared.answers.Refused.{Refused}
use Rattle.custody.specs.declared.custody.Custody.{Custody}
use Rattle.custody.specs.Custody.{HasApplied, HasRun, timed_commands}

entries_more : (commands : List (asked.Command × ℕ)) (c : asked.Command × ℕ) → timed_commands (commands ++ c ∷ []) ≡ timed_commands commands ++ (command_of c.0, c.1) ∷ []
entries_more [] c = refl
entries_more (x ∷ commands) c = ap (λ (rest : List TimedCommand). (command_of x.0, x.1) ∷ rest) (entries_more commands c)

module _ {V S : Type 0} {g : volume.Ghosts V} {database : Ghosts S} where
  -- one more
  run_more : (old mid new : Custody V S g database) (entries : List TimedCommand) (answers : List (Result Reply Refused)) (entry : TimedCommand) (answer : Result Reply Refused)
      → HasRun old entries answers mid → HasApplied mid entry.0 entry.1 answer new → HasRun old (entries ++ entry ∷ []) (answers ++ answer ∷ []) new
  run_more old mid new [] [] entry answer e one = (new, subst (λ c. HasApplied c entry.0 entry.1 answer new) e one, refl)
  run_more old mid new [] (a ∷ answers) entry answer e one = absurd e
  run_more old mid new (e ∷ entries) [] entry answer h one = absurd h
  run_more old mid new (e ∷ entries) (a ∷ answers) entry answer h one = (h.0, h.1, run_more h.0 mid new entries answers entry answer h.2 one)

  pub run_next : (old mid new : Custody V S g database) (commands : List (asked.Command × ℕ)) (i : ℕ) (d : asked.Command × ℕ) (answers : List (Result Reply Refused)) (answer : Result Reply Refused) → i < length commands
      → HasRun old (timed_commands (take i commands)) answers mid → HasApplied mid (command_of (get_or commands i d).0) (get_or commands i d).1 answer new → HasRun old (timed_commands (take (i + 1) commands)) (answers ++ answer ∷ []) new
  run_next old mid new commands i d answers answer lt before one =
      subst (λ l. HasRun old (timed_commands l) (answers ++ answer ∷ []) new) (sym (take_more commands i d lt))
      (subst (λ es. HasRun old es (answers ++ answer ∷ []) new) (sym (entries_more (take i commands) (get_or commands i d)))
      (run_more old mid new (timed_commands (take i commands)) answers (command_of (get_or commands i d).0, (get_or commands i d).1) answer before one))
