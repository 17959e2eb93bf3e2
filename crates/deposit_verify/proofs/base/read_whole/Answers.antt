use Rattle.std.proofs.Common.{◌≡◌, subst, sym}
use Rattle.envelope.specs.Envelope.{env_of}
use Rattle.deposit_verify.specs.Checks.{HasMenu}
use Rattle.deposit_verify.specs.FilesReasons.{fault_check}
use Rattle.deposit_verify.specs.Tables.{AreReadFrom, IsUnread}
use Rattle.deposit_verify.proofs.BaseLemmas.{is_read, reading_from, reading_is, reading_none}
use Rattle.deposit_verify.proofs.Judged.{unread_not}
use Rattle.deposit_verify.proofs.Lifted.{one_envelope}
use Rattle.deposit_verify.proofs.Readings.{countable}
use Rattle.deposit_verify.proofs.base.read_whole.Goals as goal

pub returns-in_default-clause-value : goal.returns-in_default-clause-value
returns-in_default-clause-value c =
    let none = rw c.in_default.is at c.in_ok-found.ensures.none in
    sym (reading_none c.law_reading.ensures.readers c.args.joined.now (λ r h. none r.envelope h.rest h.deposit))

pub returns-then-not-has_menu-clause-value : goal.returns-then-not-has_menu-clause-value
returns-then-not-has_menu-clause-value c = sym (reading_none c.law_reading.ensures.readers c.args.joined.now (λ r h.
    let v = env_of c.in-Ok.found.envelope in
    let deposit = rw c.in-Ok.is at c.in_ok-found.ensures.found in
    let same = one_envelope c.law_reading.ensures.one c.args.joined.now v r.envelope c.in-Ok.found.rest.now h.rest deposit.0 h.deposit in
    cc (c.has_menu.ensures.1 (subst HasMenu same.0 h.menu), c.if-not-has_menu.true)))

pub returns-in-Ok-2-clause-value : goal.returns-in-Ok-2-clause-value
returns-in-Ok-2-clause-value c =
    let v = env_of c.in-Ok.found.envelope in
    let rest = c.in-Ok.found.rest.now in
    let deposit = rw c.in-Ok.is at c.in_ok-found.ensures.found in
    let from : AreReadFrom v rest c.in-Ok-2.files.tables.items c.in-Ok-2.files.deleted.items = rw c.in-Ok-2.is at c.in_ok-files.ensures.read in
    sym (reading_is c.law_reading.ensures.readers c.args.joined.now _
    (reading_from c.law_reading.ensures.tables c.args.joined.now v rest _ _ deposit.0 (c.has_menu.ensures.0 c.if-not-has_menu.false) from))

pub returns-in-Ok-2-clause-countable : goal.returns-in-Ok-2-clause-countable
returns-in-Ok-2-clause-countable c =
    let v = env_of c.in-Ok.found.envelope in
    let rest = c.in-Ok.found.rest.now in
    let from : AreReadFrom v rest c.in-Ok-2.files.tables.items c.in-Ok-2.files.deleted.items = rw c.in-Ok-2.is at c.in_ok-files.ensures.read in
    countable c.law_reading.ensures.tables v rest _ _ from

pub returns-in-Err-clause-value : goal.returns-in-Err-clause-value
returns-in-Err-clause-value c = sym (reading_none c.law_reading.ensures.readers c.args.joined.now (λ r h.
    let v = env_of c.in-Ok.found.envelope in
    let rest = c.in-Ok.found.rest.now in
    let deposit = rw c.in-Ok.is at c.in_ok-found.ensures.found in
    let same = one_envelope c.law_reading.ensures.one c.args.joined.now r.envelope v h.rest rest h.deposit deposit.0 in
    let unread : IsUnread v rest (fault_check c.in-Err.field-0) = rw c.in-Err.is at c.in_ok-files.ensures.read in
    let moved = rw (same.0, same.1) at unread in
    let read = is_read c.law_reading.ensures.tables c.args.joined.now r h in
    unread_not r.envelope h.rest (fault_check c.in-Err.field-0) moved read.tables read.deletes))
