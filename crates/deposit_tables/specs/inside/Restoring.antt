-- The steps of a restoring, for private clauses.
use Rattle.envelope.specs.Envelope.{env_of}
use Rattle.deposit_verify.specs.Bases.{DepositReading, reading_of}
use Rattle.deposit_verify.specs.declared.base.WholeDeposit.{WholeDeposit}

-- the deposit as it is read, in memory
abbrev pub reading_in : WholeDeposit → DepositReading
reading_in whole = reading_of (env_of whole.envelope) whole.files.tables.items whole.files.deleted.items
