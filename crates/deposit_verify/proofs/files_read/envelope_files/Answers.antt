use Rattle.std.proofs.Common.{◌∙◌, ap}
use Rattle.envelope.specs.Envelope.{env_of}
use Rattle.deposit_verify.specs.Deposit.{all_entries}
use Rattle.deposit_verify.specs.FilesReasons.{total_length}
use Rattle.deposit_verify.proofs.CutPlaces.{other_length, total_fits}
use Rattle.deposit_verify.proofs.files_read.envelope_files.Goals as goal

pub total_length-said-requires : goal.total_length-said-requires
total_length-said-requires c = rw (c.deref.ensures.value, c.in_ok-entries.ensures) (total_fits (env_of c.args.envelope.now) c.requires)

pub returns-then-said-there-clause-cut : goal.returns-then-said-there-clause-cut
returns-then-said-there-clause-cut c =
    other_length (all_entries (env_of c.args.envelope.now)) c.args.rest.now
    (λ same. c.if-said-there.true (c.total_length-said.ensures ∙ ap total_length (c.deref.ensures.value ∙ c.in_ok-entries.ensures) ∙ same))
