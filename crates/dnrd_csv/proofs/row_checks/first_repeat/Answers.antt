use Rattle.dnrd_csv.proofs.RepeatLemmas.{ArePlaced, repeats}
use Rattle.dnrd_csv.proofs.row_checks.first_repeat.Goals as goal

pub returns : goal.returns
returns c =
    let placed : ArePlaced c.args.key c.args.rows.now c.in_ok-placed.placed.items = record { keys = c.in_ok-placed.ensures.keys; places = c.in_ok-placed.ensures.places } in
    let moved = c.sort_unstable.new.self.items in
    let least = rw c.deref.ensures.value at c.first_of_neighbours.ensures.least in
    let found = rw c.deref.ensures.value at c.first_of_neighbours.ensures.found in
    repeats c.args.key c.args.rows.now c.in_ok-placed.placed.items moved c.first_of_neighbours.result c.requires.most c.requires.within placed
    c.sort_unstable.ensures.permutation c.sort_unstable.ensures.sorted least found
