use Rattle.std.proofs.Common.{refl}
use Rattle.theorems.proofs.custody_laws.law_rest.Goals as goal

pub returns-clause-moves : goal.returns-clause-moves
returns-clause-moves g c = λ tells serving rested. let r = rested.rests tells serving.image serving.rows in record {
  next = r.next;
  moves = r.moves;
  is_at = r.is_at;
  leaves = r.leaves.at_exit;
  serves = λ stays. record { opened = stays; image = rested.image stays tells serving.image; rows = rested.rows serving.rows };
}

pub returns-clause-stops : goal.returns-clause-stops
returns-clause-stops g c = λ tells serving rested rows image pair left w finds. let r = rested.rests tells serving.image serving.rows in (rows, image, r.leaves.within rows image left w, finds, refl)
