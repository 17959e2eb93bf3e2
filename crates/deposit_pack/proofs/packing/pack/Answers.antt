use Rattle.std.proofs.Common.{◌<◌, ◌∷◌, ◌∙◌, [], Bor, List, ℕ, arith, length, subst}
use Rattle.std.specs.Prelude.{Option, option_map}
use Rattle.std.proofs.lemmas.Result.{err_from_is_err_and}
use Rattle.deposit_verify.specs.declared.base.Base.{Base}
use Rattle.deposit_pack.specs.PackErrors.{base_keys}
use Rattle.deposit_pack.specs.Packing.{deposit_length_max, objects_in}
use Rattle.deposit_pack.proofs.PackLemmas.{packable, packed_bytes, short_text}
use Rattle.deposit_pack.proofs.packing.pack.Goals as goal

abbrev none_counted : List ℕ
none_counted = 0 ∷ 0 ∷ 0 ∷ 0 ∷ []

abbrev given : Option (Bor Base) → Option Base
given base = option_map (λ b. b.now) base

pub returns-in_err-find_fault-clause-refused : goal.returns-in_err-find_fault-clause-refused
returns-in_err-find_fault-clause-refused c =
    let p = err_from_is_err_and c.from_residual.result c.from_residual.ensures.1 in rw (p.1, p.2) (c.in_err-find_fault.ensures.fault (given c.args.base))

pub returns-in_err-files-clause-refused : goal.returns-in_err-files-clause-refused
returns-in_err-files-clause-refused c =
    let p = err_from_is_err_and c.from_residual-in_err-files.result c.from_residual-in_err-files.ensures.1 in rw (p.1, p.2) (c.in_err-files.ensures.refused c.args.attributes.now (given c.args.base))

pub returns-in_err-written-clause-refused : goal.returns-in_err-written-clause-refused
returns-in_err-written-clause-refused c =
    let p = err_from_is_err_and c.from_residual-in_err-written.result c.from_residual-in_err-written.ensures.1 in rw (p.1, p.2) (c.in_err-written.ensures.refused c.args.attributes.now (given c.args.base))

pub check_tables-requires : goal.check_tables-requires
check_tables-requires c =
    let o = objects_in c.args.source.now in
    (c.args.attributes.now, o, c.in_ok-draft.ensures o c.in_ok-written.ensures.written.contents c.in_ok-written.ensures.written.deletes, c.in_ok-files.ensures.read)

pub returns-in_err-check_tables-clause-refused : goal.returns-in_err-check_tables-clause-refused
returns-in_err-check_tables-clause-refused c =
    let o = objects_in c.args.source.now in
    let p = err_from_is_err_and c.from_residual-in_err-check_tables.result c.from_residual-in_err-check_tables.ensures.1 in
    rw (p.1, p.2) (c.in_err-check_tables.ensures.refused c.args.attributes.now c.args.source.now (given c.args.base)
    (c.in_ok-draft.ensures o c.in_ok-written.ensures.written.contents c.in_ok-written.ensures.written.deletes) c.in_ok-files.ensures.read)

pub counted-requires : goal.counted-requires
counted-requires c =
    let o = objects_in c.args.source.now in
    (c.args.attributes.now, o, c.in_ok-draft.ensures o c.in_ok-written.ensures.written.contents c.in_ok-written.ensures.written.deletes, c.in_ok-files.ensures.read, c.in_ok-check_tables.ensures.menu)

pub returns-in_err-envelope-clause-refused : goal.returns-in_err-envelope-clause-refused
returns-in_err-envelope-clause-refused c =
    let o = objects_in c.args.source.now in
    let p = err_from_is_err_and c.from_residual-in_err-envelope.result c.from_residual-in_err-envelope.ensures.1 in
    rw (p.1, p.2) (c.in_err-envelope.ensures.refused c.args.attributes.now c.args.source.now
    (c.in_ok-draft.ensures o c.in_ok-written.ensures.written.contents c.in_ok-written.ensures.written.deletes) c.in_ok-files.ensures.read)

pub write_frame-requires : goal.write_frame-requires
write_frame-requires c =
    let a = c.args.attributes.now in
    let o = objects_in c.args.source.now in
    let before = base_keys (given c.args.base) in
    let draft = c.in_ok-draft.ensures o c.in_ok-written.ensures.written.contents c.in_ok-written.ensures.written.deletes in
    let read = c.in_ok-files.ensures.read in
    let can = packable a o before _ none_counted _ draft c.law_attributes.ensures c.in_ok-find_fault.ensures.fine read c.in_ok-check_tables.ensures.menu
    (c.in_ok-check_tables.ensures.references a o draft read) c.in_ok-written.ensures.written.lengths (c.in_ok-envelope.ensures.small a o draft read) in
    short_text a o before _ _ (c.deref.ensures.value ∙ c.in_ok-text.ensures) (c.in_ok-envelope.ensures.counted a o draft read).0 can

pub returns-then-len-gt-DEPOSIT_LENGTH_MAX-clause-refused : goal.returns-then-len-gt-DEPOSIT_LENGTH_MAX-clause-refused
returns-then-len-gt-DEPOSIT_LENGTH_MAX-clause-refused c =
    let a = c.args.attributes.now in
    let o = objects_in c.args.source.now in
    let draft = c.in_ok-draft.ensures o c.in_ok-written.ensures.written.contents c.in_ok-written.ensures.written.deletes in
    let same = packed_bytes a o (base_keys (given c.args.base)) _ _ _ _ c.in_ok-bytes.ensures.text (c.deref.ensures.value ∙ c.in_ok-text.ensures)
    (c.in_ok-envelope.ensures.counted a o draft c.in_ok-files.ensures.read).0 (c.deref-2.ensures.value ∙ c.in_ok-written.ensures.written.bytes) in
    subst (λ (bytes : List ℕ). deposit_length_max < length bytes) same (omega arith)

pub returns-clause-packable : goal.returns-clause-packable
returns-clause-packable c =
    let a = c.args.attributes.now in
    let o = objects_in c.args.source.now in
    let draft = c.in_ok-draft.ensures o c.in_ok-written.ensures.written.contents c.in_ok-written.ensures.written.deletes in
    let read = c.in_ok-files.ensures.read in
    packable a o (base_keys (given c.args.base)) _ none_counted _ draft c.law_attributes.ensures c.in_ok-find_fault.ensures.fine read c.in_ok-check_tables.ensures.menu
    (c.in_ok-check_tables.ensures.references a o draft read) c.in_ok-written.ensures.written.lengths (c.in_ok-envelope.ensures.small a o draft read)

pub returns-clause-packed : goal.returns-clause-packed
returns-clause-packed c =
    let a = c.args.attributes.now in
    let o = objects_in c.args.source.now in
    let draft = c.in_ok-draft.ensures o c.in_ok-written.ensures.written.contents c.in_ok-written.ensures.written.deletes in
    packed_bytes a o (base_keys (given c.args.base)) _ _ _ _ c.in_ok-bytes.ensures.text (c.deref.ensures.value ∙ c.in_ok-text.ensures)
    (c.in_ok-envelope.ensures.counted a o draft c.in_ok-files.ensures.read).0 (c.deref-2.ensures.value ∙ c.in_ok-written.ensures.written.bytes)

pub returns-clause-based : goal.returns-clause-based
returns-clause-based c =
    let a = c.args.attributes.now in
    let o = objects_in c.args.source.now in
    let draft = c.in_ok-draft.ensures o c.in_ok-written.ensures.written.contents c.in_ok-written.ensures.written.deletes in
    (c.in_ok-envelope.ensures.counted a o draft c.in_ok-files.ensures.read).1
