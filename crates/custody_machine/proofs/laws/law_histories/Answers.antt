use Rattle.custody_machine.proofs.Examples.{histories_happen}
use Rattle.custody_machine.proofs.Histories.{openings_are_right, nothing_is_taken_back, accepted_is_found}
use Rattle.custody_machine.proofs.Findable.{nothing_else_is_found}
use Rattle.custody_machine.proofs.Moves.{moves_are_histories, places_are_right, reads_back, no_damage_is_told, finds_one_thing, chains_move}
use Rattle.custody_machine.proofs.Received.{held_as_received}
use Rattle.custody_machine.proofs.Retries.{acknowledged_is_kept}
use Rattle.custody_machine.proofs.laws.law_histories.Goals as goal

pub returns : goal.returns
returns c = record {
  histories = moves_are_histories;
  places = places_are_right;
  reads_back = reads_back;
  no_damage = no_damage_is_told;
  finds = finds_one_thing;
  runs = chains_move;
  opens = openings_are_right;
  again = nothing_is_taken_back;
  acknowledged = accepted_is_found;
  nothing_else = nothing_else_is_found;
  received = held_as_received;
  kept = acknowledged_is_kept;
  happen = histories_happen;
}
