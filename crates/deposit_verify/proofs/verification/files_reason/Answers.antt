use Rattle.std.proofs.Common.{◌≡◌, ◌≢◌, ◌||◌, Bool, true, false, None, Some, subst, sym, List, ℕ}
use Rattle.deposit_name.specs.declared.kinds.Kind.{Kind}
use Rattle.deposit_name.specs.declared.kinds.Kind.TheVariants.{Full}
use Rattle.deposit_name.proofs.KindLemmas.{same_kind_decides}
use Rattle.envelope.specs.Envelope.{env_of}
use Rattle.deposit_verify.specs.Deposit.{contents_files}
use Rattle.deposit_verify.specs.FilesReasons.{fault_check}
use Rattle.deposit_verify.specs.Tables.{AreReadFrom, TablesSay, table_of}
use Rattle.deposit_verify.specs.TablesReasons.{tables_check}
use Rattle.deposit_verify.specs.Verdict.{is_full}
use Rattle.deposit_verify.specs.inside.Reasons.{IsTablesReason}
use Rattle.deposit_verify.proofs.CountsDecided.{counts_right, counts_wrong}
use Rattle.deposit_verify.proofs.Judged.{are_all_tables, names_full, tables_fail, unread_fails}
use Rattle.deposit_verify.proofs.Readings.{countable}
use Rattle.deposit_verify.proofs.TablesPlaces.{chain_place, full_place}
use Rattle.deposit_verify.proofs.WrongCounts.{four_counts}
use Rattle.deposit_verify.proofs.verification.files_reason.Goals as goal

pub returns-in-Err-clause-check : goal.returns-in-Err-clause-check
returns-in-Err-clause-check c = λ k same below.
    unread_fails (env_of c.args.envelope.now) c.args.rest.now k c.requires.form c.requires.menu (fault_check c.in-Err.fault) (rw c.in-Err.is at c.in_ok-files.ensures.read) below

pub returns-in-Err-clause-place : goal.returns-in-Err-clause-place
returns-in-Err-clause-place c = λ k same. rw c.in-Err.is at c.in_ok-files.ensures.place

pub tables_fault-requires-clause-counts : goal.tables_fault-requires-clause-counts
tables_fault-requires-clause-counts c = four_counts (env_of c.args.envelope.now) c.requires.menu

pub tables_fault-requires-clause-tables : goal.tables_fault-requires-clause-tables
tables_fault-requires-clause-tables c = λ full.
    let v = env_of c.args.envelope.now in
    let tables = c.in-Ok.files.tables.items in
    let from : AreReadFrom v c.args.rest.now tables c.in-Ok.files.deleted.items = rw c.in-Ok.is at c.in_ok-files.ensures.read in
    rw c.deref.ensures.value (are_all_tables v.contents (contents_files v from.files) tables (names_full v c.requires.menu full) from.tables_read)

pub returns-in-Some-clause-check : goal.returns-in-Some-clause-check
returns-in-Some-clause-check c = λ k same below.
    let v = env_of c.args.envelope.now in
    let tables = c.in-Ok.files.tables.items in
    let from : AreReadFrom v c.args.rest.now tables c.in-Ok.files.deleted.items = rw c.in-Ok.is at c.in_ok-files.ensures.read in
    tables_fail c.law_one_text.ensures.reading v c.args.rest.now k from.files tables (record { menu = c.requires.menu; are = from.are; read = from.tables_read }) (tables_check c.in-Some.reason)
    (subst (λ (ts : List (List (List (List ℕ)))). TablesSay v ts (Some (tables_check c.in-Some.reason))) c.deref.ensures.value (rw c.in-Some.is at c.in_ok-reason.ensures.check)) below

pub returns-in-Some-clause-place : goal.returns-in-Some-clause-place
returns-in-Some-clause-place c = λ k same.
    let v = env_of c.args.envelope.now in
    let tables = c.in-Ok.files.tables.items in
    let from : AreReadFrom v c.args.rest.now tables c.in-Ok.files.deleted.items = rw c.in-Ok.is at c.in_ok-files.ensures.read in
    let says = subst (λ (ts : List (List (List (List ℕ)))). TablesSay v ts (Some (tables_check c.in-Some.reason))) c.deref.ensures.value (rw c.in-Some.is at c.in_ok-reason.ensures.check) in
    full_place c.law_table_reader.ensures v c.args.rest.now k tables c.in-Ok.files.deleted.items c.requires.menu from c.in-Some.reason says.0
    (subst (λ (ts : List (List (List (List ℕ)))). IsTablesReason v.count (table_of ts) c.in-Some.reason) c.deref.ensures.value (rw c.in-Some.is at c.in_ok-reason.ensures.place))

pub wrong_chain_count-requires-clause-counts : goal.wrong_chain_count-requires-clause-counts
wrong_chain_count-requires-clause-counts c = four_counts (env_of c.args.envelope.now) c.requires.menu

pub wrong_chain_count-requires-clause-files : goal.wrong_chain_count-requires-clause-files
wrong_chain_count-requires-clause-files c =
    countable c.law_table_reader.ensures (env_of c.args.envelope.now) c.args.rest.now c.in-Ok.files.tables.items c.in-Ok.files.deleted.items (rw c.in-Ok.is at c.in_ok-files.ensures.read)

-- where a count is wrong, the deposit is not full
not_full : (kind : Kind) (other : Bool) → false ≡ (is_full kind || other) → kind ≢ Full
not_full kind other none full = by (is_full kind) none ((same_kind_decides kind Full).1 full)
  where
    by : (is : Bool) → false ≡ (is || other) → is ≡ true → ⊥
    by true none is = cc none
    by false none is = cc is

pub returns-in-Some-2-clause-check : goal.returns-in-Some-2-clause-check
returns-in-Some-2-clause-check c = λ k same below.
    counts_wrong c.law_table_reader.ensures (env_of c.args.envelope.now) c.args.rest.now k c.in-Ok.files.tables.items c.in-Ok.files.deleted.items c.requires.menu
    (rw c.in-Ok.is at c.in_ok-files.ensures.read) c.args.base.now same (sym (rw c.in-Some-2.is at c.in_ok-wrong.ensures.right)) below

pub returns-in-Some-2-clause-place : goal.returns-in-Some-2-clause-place
returns-in-Some-2-clause-place c = λ k same.
    let v = env_of c.args.envelope.now in
    let from : AreReadFrom v c.args.rest.now c.in-Ok.files.tables.items c.in-Ok.files.deleted.items = rw c.in-Ok.is at c.in_ok-files.ensures.read in
    chain_place c.law_table_reader.ensures v c.args.rest.now k c.in-Ok.files.tables.items c.in-Ok.files.deleted.items c.requires.menu from c.in-Some-2.wrong c.args.base.now same
    (not_full _ _ (rw c.in-Some-2.is at c.in_ok-wrong.ensures.right)) (rw c.in-Some-2.is at c.in_ok-wrong.ensures.first)

pub returns-clause-check : goal.returns-clause-check
returns-clause-check c = λ k same below.
    let v = env_of c.args.envelope.now in
    let says = subst (λ (ts : List (List (List (List ℕ)))). TablesSay v ts None) c.deref.ensures.value (rw c.in_default.is at c.in_ok-reason.ensures.check) in
    counts_right c.law_table_reader.ensures v c.args.rest.now k c.in-Ok.files.tables.items c.in-Ok.files.deleted.items c.requires.menu
    (rw c.in-Ok.is at c.in_ok-files.ensures.read) c.args.base.now same (sym (rw c.in-None.is at c.in_ok-wrong.ensures.right)) says below
