use Rattle.std.proofs.Common.{◌∙◌, [], sym, ap, cond}
use Rattle.std.specs.List.{list_any}
use Rattle.custody_records.specs.MemoryRecords.{records_of}
use Rattle.custody_records.specs.Records.{key_of}
use Rattle.custody_machine.specs.Explaining.{with_notices}
use Rattle.custody_machine.specs.StoredState.{state_in}
use Rattle.custody_rules.specs.Judging.{has_dropped_part_in}
use Rattle.custody_rules.proofs.Chains.{any_dropped, chain_is}
use Rattle.custody_rules.proofs.chain.held_chain.Goals as goal

pub returns-then-is_any_dropped : goal.returns-then-is_any_dropped
returns-then-is_any_dropped c = λ told image noted.
    let records = with_notices (records_of c.args.records.now) told in
    let chain = c.in_ok-chain.chain.items in
    c.new.ensures.items ∙ ap (λ b. cond b [] chain) (sym c.if-is_any_dropped.true ∙ c.is_any_dropped.ensures ∙ ap (list_any (λ name. has_dropped_part_in records (key_of name))) c.deref-2.ensures.value ∙ any_dropped records image chain)
    ∙ sym (chain_is (state_in records image) c.args.statement.now c.deref.result.now chain (c.deref.ensures.value ∙ c.in_ok-passed.ensures told image noted) c.in_ok-chain.ensures)

pub returns : goal.returns
returns c = λ told image noted.
    let records = with_notices (records_of c.args.records.now) told in
    let chain = c.in_ok-chain.chain.items in
    ap (λ b. cond b [] chain) (sym c.if-is_any_dropped.false ∙ c.is_any_dropped.ensures ∙ ap (list_any (λ name. has_dropped_part_in records (key_of name))) c.deref-2.ensures.value ∙ any_dropped records image chain)
    ∙ sym (chain_is (state_in records image) c.args.statement.now c.deref.result.now chain (c.deref.ensures.value ∙ c.in_ok-passed.ensures told image noted) c.in_ok-chain.ensures)
