use Rattle.std.proofs.Common.{◌≡◌, ◌+◌, true, false, arith, refl, sym, ◌∙◌, ap}
use Rattle.std.specs.Prelude.{is_none}
use Rattle.std.proofs.lemmas.Result.{err_from_is_err_and}
use Rattle.http_api.specs.Connections.{server_state}
use Rattle.http_api.proofs.TurnLemmas.{fails_before, turns_more}
use Rattle.http_api.proofs.connections.serve_connections.Goals.{in-Some+else-until_closed+then-was_open, in-Some+else-until_closed+else-was_open, in_default}
use Rattle.http_api.proofs.connections.serve_connections.Goals as goal

pub returns-in_err-serve_next-clause-fewer : goal.returns-in_err-serve_next-clause-fewer
returns-in_err-serve_next-clause-fewer g c =
    let last = server_state g.K.Clients c.loop.clients c.loop.custody in
    let returned = err_from_is_err_and c.from_residual.result c.from_residual.ensures.1 in
    let fault = c.in_err-serve_next.field-0.0 in
    rw (returned.1, returned.2) (record {
      served = c.loop.counter;
      last = last;
      fewer = fails_before fault c.loop.counter c.args.count c.loop-test.true;
      turns = c.loop.invariant.0;
      left = c.in_err-serve_next.ensures.none;
    })

pub returns-then-until_closed-clause-fewer : goal.returns-then-until_closed-clause-fewer
returns-then-until_closed-clause-fewer g c =
    let old = server_state g.K.Clients c.args.clients.now c.args.custody.now in
    let last = server_state g.K.Clients c.loop.clients c.loop.custody in
    let new = server_state g.K.Clients c.serve_next.new.clients c.serve_next.new.custody in
    record {
      served = c.loop.counter + 1;
      last = new;
      fewer = omega arith;
      turns = turns_more c.args.now c.loop.counter old last new c.loop.invariant.0 c.in_ok-serve_next.ensures.served;
      left = refl {a = new};
    }

pub loop-preserved : goal.loop-preserved
loop-preserved g c =
    let old = server_state g.K.Clients c.args.clients.now c.args.custody.now in
    let last = server_state g.K.Clients c.loop.clients c.loop.custody in
    let new = server_state g.K.Clients c.serve_next.new.clients c.serve_next.new.custody in (
      turns_more c.args.now c.loop.counter old last new c.loop.invariant.0 c.in_ok-serve_next.ensures.served,
      λ until was. elim c.match-failure.branch [
        | in-Some+else-until_closed+then-was_open w ↦ let no : true ≡ false = sym until ∙ w.if-until_closed.false in cc
        | in-Some+else-until_closed+else-was_open w ↦ let no : true ≡ false = sym until ∙ w.if-until_closed.false in cc
        | in_default w ↦ sym (ap is_none c.failure-in-loop.ensures) ∙ ap is_none w.in_default.is
      ],
    )
