use Rattle.custody_records.specs.MemoryRecords.{records_of}
use Rattle.custody_machine.specs.StoredState.{state_in}
use Rattle.custody_machine.proofs.Accepting.{read_of, step_refuses_text}
use Rattle.custody_rules.proofs.judging.judge_part.Goals as goal

pub returns-in-Ok : goal.returns-in-Ok
returns-in-Ok c = c.judge_named.ensures c.args.name.now (read_of c.args.name.now c.in-Ok.name c.in-Ok.ensures.name)

pub returns-in-Err : goal.returns-in-Err
returns-in-Err c = λ bytes sized. (λ e. cc, λ e. cc, λ image. step_refuses_text (state_in (records_of c.args.records.now) image) c.args.name.now bytes c.args.now c.in-Err.fault c.in-Err.ensures.fault)
