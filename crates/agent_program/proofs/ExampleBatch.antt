-- A line that asks for a purge.
use Rattle.std.proofs.Common.{◌≡◌, ℕ, List, [], ◌∷◌, Option, None, Some, Ok, Result, arith, codes, inr, refl, subst, sym}
use Rattle.std.specs.Borrow.{Bor}
use Rattle.clap.specs.Words.{Text}
use Rattle.custody_records.specs.Records.{new_records}
use Rattle.custody_machine.specs.Machine.{Purge}
use Rattle.custody_machine.specs.declared.command.Command.TheVariants as command
use Rattle.custody.specs.declared.answers.Reply.{Reply}
use Rattle.custody.specs.declared.answers.Refused.{Refused}
use Rattle.agent_cli.specs.BatchLines.{BeginsWithWord, GivesCall}
use Rattle.agent_cli.specs.Examples.{GivesOrder}
use Rattle.agent_cli.specs.Order.{Do, ReadsWords}
use Rattle.agent_cli.specs.declared.order.Order.{Order}
use Rattle.agent_cli.specs.declared.order.Deed.TheVariants as deed
use Rattle.theorems.specs.CustodyCalls.{Applies}
use Rattle.agent_program.specs.BatchCalls.{AreBatchCalls}

abbrev purge_words : (folder : Text) → List Text
purge_words folder = codes "escrow" ∷ codes "purge" ∷ folder ∷ []

is_first : BeginsWithWord (codes "purge") (codes "purge") []
unfolding lib.Utf8.encode
is_first = record {
  gap = [];
  split = refl;
  nonempty = omega arith;
  gap_is_white = ([], refl, tt);
  word_has_no_white = (codes "purge", refl, (refl, (refl, (refl, (refl, (refl, tt))))));
  rest_begins_white = ([], λ some. absurd (omega (arith, some)));
}

gives_purge : (folder : Text) → GivesCall folder (codes "purge") (purge_words folder)
unfolding lib.Utf8.encode
gives_purge folder = record {
  fits = omega arith;
  is_text = (codes "purge", (refl, refl));
  own = codes "purge" ∷ [];
  has = ([], is_first, ([], refl, tt));
  words_are = refl;
}

pub purge_alone : GivesOrder (codes "purge" ∷ codes "vault" ∷ []) None (Do Purge) → (held : List ℕ → Option (List ℕ)) (folder : Bor (List ℕ)) (now : ℕ) (answer : Result Reply Refused) → folder.now ≡ codes "vault"
    → AreBatchCalls held (Some now) folder.now (codes "purge" ∷ []) (Applies Purge now answer ∷ [])
purge_alone reads held folder now answer is =
    let order : Order = record { folder = folder; now = None; deed = deed.Do command.Purge } in
    let asks = subst (λ (name : Text). ReadsWords (purge_words name) (Some (Ok (record { folder = name; now = None; deed = Do Purge })))) (sym is) reads in
    inr (order, Applies Purge now answer ∷ [], [], (purge_words folder.now, gives_purge folder.now, (asks, refl)), inr ([], now, new_records 0 0, refl, refl, (answer, refl)), refl, refl)
