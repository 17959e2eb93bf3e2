use Rattle.std.proofs.Common.{rules, subst, sym}
use Rattle.agent_program.specs.Parts.{IsOrderRead}
use Rattle.agent_program.proofs.FolderLemmas.{IsActing, IfOk-acted, IfOk-batched, IfOk-begun, IfOk-served}
use Rattle.agent_program.proofs.program.carry_out.Goals as goal

pub returns-in-Init-clause-done : goal.returns-in-Init-clause-done
returns-in-Init-clause-done g c = IfOk-begun _ _ _ _ _ _ _ c.args.order.now _ _ _ _ c.in-Init.is c.begin_in_folder.ensures.done

pub returns-in-Init-clause-unopened : goal.returns-in-Init-clause-unopened
returns-in-Init-clause-unopened g c = λ _ other. absurd (other _ _ c.in-Init.is)

pub returns-in-Batch-clause-done : goal.returns-in-Batch-clause-done
returns-in-Batch-clause-done g c = IfOk-batched _ _ _ _ _ _ _ c.args.order.now _ _ c.in-Batch.is c.batch_in_folder.ensures.done

pub returns-in-Serve-clause-done : goal.returns-in-Serve-clause-done
returns-in-Serve-clause-done g c = IfOk-served _ _ _ _ _ _ _ c.args.order.now _ _ _ _ _ c.in-Serve.is c.serve_in_folder.ensures.done

pub returns-in_ok-part-in-Put : goal.returns-in_ok-part-in-Put
returns-in_ok-part-in-Put g c =
    let acting : IsActing c.args.order.now.deed = search rules in
    let read = subst (λ bytes. IsOrderRead (g.H.BlockFiles.holds c.args.host.now) c.args.order.now.deed bytes) (sym c.deref.ensures.value) c.in_ok-part-in-Put.ensures.read in
    record {
      done = IfOk-acted _ _ _ _ _ _ _ c.args.order.now _ _ _ acting read c.act_in_folder.ensures.done;
      left_open = c.act_in_folder.ensures.left_open;
      others = c.act_in_folder.ensures.others;
      unopened = λ reveals _. c.act_in_folder.ensures.unopened reveals;
      error = c.act_in_folder.ensures.error;
      silent = c.act_in_folder.ensures.silent;
    }
