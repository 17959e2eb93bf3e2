use Rattle.std.proofs.Common.{rules}
use Rattle.sqlite.specs.Held.{state}
use Rattle.custody_store.proofs.LiftLemmas.{lifts}
use Rattle.custody_store.proofs.store.Store.lift_hold.Goals as goal

pub returns : goal.returns
returns g c =
    let ran = rw (c.text.ensures, c.as_bytes.ensures.text, c.moment.ensures.value) at c.run.ensures.runs in
    rw (← c.self.view_is) (record {
      commits = lifts c.args.reference.now c.args.at (state g.S.Store c.self.inside.db) (state g.S.Store c.run.new.db) _ ran;
      runs = ran;
      in_form = search rules;
      kind = search rules;
    })
