use Rattle.std.proofs.Common.{◌∙◌, inl, inr, Ok, Err}
use Rattle.http_api.proofs.PartLemmas.{part_came, part_short, part_unread}
use Rattle.http_api.proofs.handling.receive.Goals as goal

pub returns-in-Ok-clause-done : goal.returns-in-Ok-clause-done
returns-in-Ok-clause-done g c =
    let received = rw c.first_of-first.ensures.bytes at c.in-Ok.ensures in
    (received.0, part_came _ c.args.front.now received.0 c.args.len received.1, λ answer told. inl (Ok c.in-Ok.reply, received.2, told ∙ c.reply_response.ensures))

pub returns-in-Err-Refused-clause-done : goal.returns-in-Err-Refused-clause-done
returns-in-Err-Refused-clause-done g c =
    let received = rw (c.in-Err-Refused.field-0-is, c.first_of-first.ensures.bytes) at c.in-Err-Refused.ensures in
    (received.0, part_came _ c.args.front.now received.0 c.args.len received.1, λ answer told. inl (Err c.in-Err-Refused.refused, received.2, told ∙ c.refused_response.ensures))

pub returns-in-Err-Short-clause-error : goal.returns-in-Err-Short-clause-error
returns-in-Err-Short-clause-error g c =
    let ended = rw (c.in-Err-Short.field-0-is, c.first_of-first.ensures.bytes) at c.in-Err-Short.ensures in
    part_short _ c.args.front.now c.args.len ended.0

pub returns-in-Err-Short-clause-left : goal.returns-in-Err-Short-clause-left
returns-in-Err-Short-clause-left g c =
    let ended = rw c.in-Err-Short.field-0-is at c.in-Err-Short.ensures in
    inr (tt, ended.1)

pub returns-in-Err-ReadFailed-clause-error : goal.returns-in-Err-ReadFailed-clause-error
returns-in-Err-ReadFailed-clause-error g c = part_unread _ c.args.front.now c.args.len

pub returns-in-Err-ReadFailed-clause-left : goal.returns-in-Err-ReadFailed-clause-left
returns-in-Err-ReadFailed-clause-left g c =
    let ended = rw c.in-Err-ReadFailed.field-0-is at c.in-Err-ReadFailed.ensures in
    inr (tt, ended)
