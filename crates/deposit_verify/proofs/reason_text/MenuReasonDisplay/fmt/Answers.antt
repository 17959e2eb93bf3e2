use Rattle.deposit_verify.proofs.reason_text.MenuReasonDisplay.fmt.Goals as goal

pub returns-in-ObjectUri-clause-writes : goal.returns-in-ObjectUri-clause-writes
returns-in-ObjectUri-clause-writes g c = rw (c.in-ObjectUri.is, ← c.from_one.ensures, ← c.uri_text.ensures, ← c.wanted_uri.ensures) c.write.ensures.writes
