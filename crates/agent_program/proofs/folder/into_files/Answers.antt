use Rattle.std.proofs.Common.{sym}
use Rattle.agent_program.proofs.folder.into_files.Goals as goal

pub returns-in-Keep : goal.returns-in-Keep
returns-in-Keep g c = record { last = c.into_store.result; closed = record { quiet = c.into_store.ensures.quiet; sound = c.into_store.ensures.sound }; files_are = sym c.close.ensures }

pub returns-in-Err : goal.returns-in-Err
returns-in-Err g c = record { last = c.in-Err.store; closed = c.in-Err.ensures.err.0; files_are = sym c.close-in-Err.ensures }
