-- The checks of files and tables, from what was read.
use Rattle.std.proofs.Common.{◌≡◌, ◌≢◌, ◌<◌, IfSome, ◌≤◌, ◌∙◌, [], Bor, List, Option, Some, None, ℕ, ap, arith, drop, get_or, length, length-append, length-drop, length-take, unwrap_or, map, refl, subst, sym, take}
use Rattle.std.specs.List.{AllZip}
use Rattle.std.proofs.lemmas.List.{drop-map, get_or-map, length-map, take-map}
use Rattle.dnrd_csv.specs.inside.RowKeys.{borrowed_texts}
use Rattle.deposit_name.specs.declared.kinds.Kind.{Kind}
use Rattle.deposit_name.specs.declared.kinds.Kind.TheVariants.{Full}
use Rattle.deposit_name.specs.declared.table.TableName.{TableName}
use Rattle.deposit_name.specs.declared.table.TableName.TheVariants.{Domain}
use Rattle.desk.specs.declared.checks.Check.{Check}
use Rattle.desk.specs.declared.checks.Check.TheVariants as check
use Rattle.envelope.specs.Envelope.{Env, FitsKind, IsEnvelope}
use Rattle.envelope.specs.declared.envelope.FileEntry.{FileEntry}
use Rattle.deposit_verify.specs.declared.base.Base.{Base}
use Rattle.deposit_verify.specs.Checks.{AreChainCounts, AreRowCounts, AreKeyCounts, PassesBelow, HasContents, HasMenu, HasTables, IsLeast, CheckSays}
use Rattle.deposit_verify.specs.Places.{all_tables, table_place}
use Rattle.deposit_verify.specs.Deposit.{AreFiles, AreTables, HasDeletes, HasFiles, IsFileOf, IsKeyFile, IsTableFile, IsTableOf, contents_files, deletes_files, deletes_of, all_entries}
use Rattle.deposit_verify.specs.Known.{Known}
use Rattle.deposit_verify.specs.References.{AreReferencesKept}
use Rattle.deposit_verify.specs.Tables.{AreAllTables, AreReadAs, HasNoTable, TablesSay, IsUnread, table_of}
use Rattle.deposit_verify.specs.declared.verdict.Verdict.TheVariants.{Pass, Fail}
use Rattle.deposit_verify.proofs.Lists.{no_entry, zip_at, zip_from, zip_length}
use Rattle.deposit_verify.proofs.TableLemmas.{listed_at}
use Rattle.deposit_verify.proofs.Uniques.{OneText, same_files}
use Rattle.deposit_verify.proofs.Verdicts.{below_all, below_more}

-- ---- the tables of a full deposit

-- the table at the place of a name
pub all_tables_right : (name : TableName) (d : TableName) → (table_place name < 8) × (get_or all_tables (table_place name) d ≡ name)
all_tables_right Domain d = (omega arith, refl)
all_tables_right _ d = (omega arith, refl)

-- the file of each table, where all are there
pub named_at : (entries : List FileEntry) → map (λ f. f.name) entries ≡ all_tables → (name : TableName) (e : FileEntry) → (table_place name < length entries) × ((get_or entries (table_place name) e).name ≡ name)
named_at entries same name e =
    let right = all_tables_right name e.name in
    let eight : length entries ≡ 8 = sym (length-map entries (λ (f : FileEntry). f.name)) ∙ ap length same in
    let inside : table_place name < length entries = omega (arith, right.0, eight) in
    (inside, sym (get_or-map (λ (f : FileEntry). f.name) entries (table_place name) e e.name inside) ∙ ap (λ (names : List TableName). get_or names (table_place name) e.name) same ∙ right.1)

pub all_read : (entries : List FileEntry) (files : List (List ℕ)) (tables : List (List (List (List ℕ)))) → map (λ f. f.name) entries ≡ all_tables → AreReadAs entries files tables
    → (name : TableName) → IsTableOf name (get_or files (table_place name) []) (table_of tables name)
all_read entries files tables same read name =
    let at = named_at entries same name no_entry in
    subst (λ (n : TableName). IsTableOf n (get_or files (table_place name) []) (table_of tables name)) at.1 (read.each (table_place name) no_entry at.0)

pub are_all_tables : (entries : List FileEntry) (files : List (List ℕ)) (tables : List (List (List (List ℕ)))) → map (λ f. f.name) entries ≡ all_tables → AreReadAs entries files tables → AreAllTables tables
are_all_tables entries files tables same read = record {
  eight = read.count ∙ sym (length-map entries (λ (f : FileEntry). f.name)) ∙ ap length same;
  columns_right = λ name. (all_read entries files tables same read name).columns_right;
}

-- the tables under their names
pub tables_under : (entries : List FileEntry) (files : List (List ℕ)) (tables : List (List (List (List ℕ)))) → map (λ f. f.name) entries ≡ all_tables → length entries ≡ length files → AreReadAs entries files tables
    → AreTables entries files (table_of tables)
tables_under entries files tables same len read =
    zip_from (λ entry file. IsTableOf entry.name file (table_of tables entry.name)) entries files no_entry [] len
    (λ i inside. subst (λ (n : ℕ). IsTableOf (get_or entries i no_entry).name (get_or files i []) (get_or tables n [])) (sym (listed_at entries i no_entry inside (omega (arith, inside, length-map entries (λ (f : FileEntry). f.name), ap length same)) same)) (read.each i no_entry inside))

-- tables under their names are those that were read
pub same_tables : OneText → (entries : List FileEntry) (files : List (List ℕ)) (tables : List (List (List (List ℕ)))) (under : TableName → List (List (List ℕ))) → map (λ f. f.name) entries ≡ all_tables
    → AreReadAs entries files tables → AreTables entries files under → (name : TableName) → under name ≡ table_of tables name
same_tables one entries files tables under same read are name =
    let at = named_at entries same name no_entry in
    let R : FileEntry → List ℕ → Type 0 = λ entry file. IsTableOf entry.name file (under entry.name) in
    let there = zip_at (λ entry file. IsTableOf entry.name file (under entry.name)) entries files (table_place name) no_entry [] are at.0 in
    let moved = subst (λ (n : TableName). IsTableOf n (get_or files (table_place name) []) (under n)) at.1 there in
    one (get_or files (table_place name) []) (under name) (table_of tables name) moved.text (all_read entries files tables same read name).text

-- ---- the files of an envelope

-- the files of contents and of deletes, each with its entry
pub files_parted : (v : Env) (rest : List ℕ) (files : List (List ℕ)) → AreFiles (all_entries v) rest files
    → (length v.contents ≤ length files) × (length (contents_files v files) ≡ length v.contents) × (length (deletes_files v files) ≡ length (deletes_of v))
files_parted v rest files are =
    let len = zip_length IsFileOf (all_entries v) files are.each in
    let fits : length v.contents ≤ length files = omega (arith, len, length-append v.contents (deletes_of v)) in
    (fits, omega (arith, length-take (length v.contents) files, fits), omega (arith, length-drop (length v.contents) files, len, length-append v.contents (deletes_of v)))

-- ---- the checks from that of the files on, each where the lower ones hold

-- what was read of a deposit: its files, and the tables of its contents
pub record AreRead (v : Env) (rest : List ℕ) (files : List (List ℕ)) (tables : List (List (List (List ℕ)))) : Type 0 where
  pub menu : HasMenu v
  pub are : AreFiles (all_entries v) rest files
  pub read : AreReadAs v.contents (contents_files v files) tables

-- a file of contents that is no table
no_tables : (v : Env) (rest : List ℕ) (files : List (List ℕ)) → AreFiles (all_entries v) rest files → HasNoTable v.contents (contents_files v files) → HasFiles v rest (λ fs. AllZip IsTableFile v.contents (contents_files v fs)) → ⊥
no_tables v rest files are none says =
    let same = same_files (all_entries v) rest says.0 files says.1 are in
    let all = subst (λ (fs : List (List ℕ)). AllZip IsTableFile v.contents (contents_files v fs)) same says.2 in
    let there = zip_at IsTableFile v.contents (contents_files v files) none.0 no_entry [] all none.1 in
    none.2 no_entry there.0 there.1

pub table_fails : (v : Env) (rest : List ℕ) (k : Known) (files : List (List ℕ)) → AreFiles (all_entries v) rest files → HasNoTable v.contents (contents_files v files)
    → PassesBelow (CheckSays v rest k) 9 → IsLeast (CheckSays v rest k) (Fail check.Table)
table_fails v rest k files are none below = (
  no_tables v rest files are none,
  below_more (CheckSays v rest k) check.Files below (files, are, tt),
)

pub tables_hold : (v : Env) (rest : List ℕ) (k : Known) (files : List (List ℕ)) (tables : List (List (List (List ℕ)))) → AreRead v rest files tables
    → PassesBelow (CheckSays v rest k) 9 → PassesBelow (CheckSays v rest k) 11
tables_hold v rest k files tables read below =
    let parted = files_parted v rest files read.are in
    below_more (CheckSays v rest k) check.Table (below_more (CheckSays v rest k) check.Files below (files, read.are, tt)) (
      files,
      read.are,
      zip_from IsTableFile v.contents (contents_files v files) no_entry [] (sym parted.1)
          (λ i inside. (get_or tables i [], read.read.each i no_entry inside)),
    )

pub names_full : (v : Env) → HasMenu v → v.kind ≡ Full → map (λ f. f.name) v.contents ≡ all_tables
names_full v menu full = subst (λ (k : Kind). HasContents k (map (λ f. f.name) v.contents)) full menu.contents

-- a full deposit has these tables
pub under_names : (v : Env) (rest : List ℕ) (files : List (List ℕ)) (tables : List (List (List (List ℕ)))) → AreRead v rest files tables → v.kind ≡ Full → AreTables v.contents (contents_files v files) (table_of tables)
under_names v rest files tables read full =
    tables_under v.contents (contents_files v files) tables (names_full v read.menu full) (sym (files_parted v rest files read.are).1) read.read

-- whatever tables a full deposit is said to have, they are those that were read
pub only_tables : OneText → (v : Env) (rest : List ℕ) (files : List (List ℕ)) (tables : List (List (List (List ℕ)))) → AreRead v rest files tables → v.kind ≡ Full
    → (P : (TableName → List (List (List ℕ))) → Type 0) → HasTables v rest P → P (table_of tables)
only_tables one v rest files tables read full P has =
    let same = same_files (all_entries v) rest has.0 files has.1 read.are in
    let under = has.2.0 in
    let are = subst (λ (fs : List (List ℕ)). AreTables v.contents (contents_files v fs) under) same has.2.1 in
    let each = same_tables one v.contents (contents_files v files) tables under (names_full v read.menu full) read.read are in
    let path : under ≡ table_of tables = λ i name. each name i in
    subst P path has.2.2

pub tables_fail : OneText → (v : Env) (rest : List ℕ) (k : Known) (files : List (List ℕ)) (tables : List (List (List (List ℕ)))) → AreRead v rest files tables
    → (c : Check) → TablesSay v tables (Some c) → PassesBelow (CheckSays v rest k) 9 → IsLeast (CheckSays v rest k) (Fail c)
tables_fail one v rest k files tables read check.Counts says below =
    (λ holds. says.1 (only_tables one v rest files tables read says.0 (AreRowCounts v.count) (holds.0 says.0)), tables_hold v rest k files tables read below)
tables_fail one v rest k files tables read check.References says below = (
  λ holds. says.1.1 (only_tables one v rest files tables read says.0 AreReferencesKept (holds says.0)),
  below_more (CheckSays v rest k) check.Counts (tables_hold v rest k files tables read below)
      (λ full. (files, read.are, (table_of tables, under_names v rest files tables read full, says.1.0)), λ partial. absurd (partial says.0)),
)
tables_fail one v rest k files tables read check.Frame says below = absurd says.1
tables_fail one v rest k files tables read _ says below = absurd says.1

pub references_hold : (v : Env) (rest : List ℕ) (k : Known) (files : List (List ℕ)) (tables : List (List (List (List ℕ)))) → AreRead v rest files tables
    → TablesSay v tables None → (v.kind ≢ Full → AreChainCounts v rest k) → PassesBelow (CheckSays v rest k) 9 → PassesBelow (CheckSays v rest k) 13
references_hold v rest k files tables read says chain below =
    below_more (CheckSays v rest k) check.References
    (below_more (CheckSays v rest k) check.Counts (tables_hold v rest k files tables read below)
    (λ full. (files, read.are, (table_of tables, under_names v rest files tables read full, (says full).0)), chain))
    (λ full. (files, read.are, (table_of tables, under_names v rest files tables read full, (says full).1)))

-- the deposit deletes no more than these files
only_deletes : (v : Env) (rest : List ℕ) (files : List (List ℕ)) → AreFiles (all_entries v) rest files → HasDeletes v rest → AllZip IsKeyFile (deletes_of v) (deletes_files v files)
only_deletes v rest files are holds = subst (λ (fs : List (List ℕ)). AllZip IsKeyFile (deletes_of v) (deletes_files v fs)) (same_files (all_entries v) rest holds.0 files holds.1 are) holds.2

-- a full deposit deletes nothing
full_deletes : (v : Env) (rest : List ℕ) (files : List (List ℕ)) → IsEnvelope v → AreFiles (all_entries v) rest files → v.kind ≡ Full → AllZip IsKeyFile (deletes_of v) (deletes_files v files)
full_deletes v rest files form are full =
    let none : deletes_of v ≡ [] = by v.deletes (subst (λ (k : Kind). FitsKind k v.deletes) full form.deletes) in
    zip_from IsKeyFile (deletes_of v) (deletes_files v files) no_entry [] (sym (files_parted v rest files are).2) (λ i inside. absurd (omega (arith, inside, ap length none)))
  where
    by : (o : Option (List FileEntry)) → FitsKind Full o → unwrap_or o [] ≡ []
    by None fits = refl
    by (Some ds) fits = absurd fits

-- where the deleted keys are not read, nothing is said of the counts of a chain
unread_chain : (v : Env) (rest : List ℕ) (k : Known) → (HasDeletes v rest → ⊥) → AreChainCounts v rest k
unread_chain v rest k none = by k.base
  where
    by : (o : Option Base) → IfSome o (λ base. HasDeletes v rest → AreKeyCounts v rest base)
    by None = tt
    by (Some base) = λ has. absurd (none has)

deletes_fail : (v : Env) (rest : List ℕ) (k : Known) (files : List (List ℕ)) (tables : List (List (List (List ℕ)))) → IsEnvelope v → AreRead v rest files tables
    → (AllZip IsKeyFile (deletes_of v) (deletes_files v files) → ⊥) → PassesBelow (CheckSays v rest k) 9 → IsLeast (CheckSays v rest k) (Fail check.Deletes)
deletes_fail v rest k files tables form read none below =
    let unread : HasDeletes v rest → ⊥ = λ holds. none (only_deletes v rest files read.are holds) in (
      unread,
      references_hold v rest k files tables read (λ full. absurd (none (full_deletes v rest files form read.are full))) (λ _. unread_chain v rest k unread) below,
    )

-- what is not read of the files of a deposit
pub unread_fails : (v : Env) (rest : List ℕ) (k : Known) → IsEnvelope v → HasMenu v → (c : Check) → IsUnread v rest c → PassesBelow (CheckSays v rest k) 9 → IsLeast (CheckSays v rest k) (Fail c)
unread_fails v rest k form menu check.Files unread below = (λ has. unread has.0 has.1, below)
unread_fails v rest k form menu check.Table unread below = table_fails v rest k unread.0 unread.1 unread.2 below
unread_fails v rest k form menu check.Deletes unread below =
    deletes_fail v rest k unread.0 unread.2 form (record { menu = menu; are = unread.1; read = unread.3 }) unread.4 below
unread_fails v rest k form menu check.Frame unread below = absurd unread
unread_fails v rest k form menu _ unread below = absurd unread

-- it is not there
pub unread_not : (v : Env) (rest : List ℕ) (c : Check) → IsUnread v rest c → HasFiles v rest (λ fs. AllZip IsTableFile v.contents (contents_files v fs)) → HasDeletes v rest → ⊥
unread_not v rest check.Files unread tables deletes = unread tables.0 tables.1
unread_not v rest check.Table unread tables deletes = no_tables v rest unread.0 unread.1 unread.2 tables
unread_not v rest check.Deletes unread tables deletes = unread.4 (only_deletes v rest unread.0 unread.1 deletes)
unread_not v rest check.Frame unread tables deletes = unread
unread_not v rest _ unread tables deletes = unread

-- the counts of a chain that are wrong
pub chain_fails : (v : Env) (rest : List ℕ) (k : Known) (files : List (List ℕ)) (tables : List (List (List (List ℕ)))) → AreRead v rest files tables
    → v.kind ≢ Full → (AreChainCounts v rest k → ⊥) → PassesBelow (CheckSays v rest k) 9 → IsLeast (CheckSays v rest k) (Fail check.Counts)
chain_fails v rest k files tables read partial none below = (λ holds. none (holds.1 partial), tables_hold v rest k files tables read below)

pub deletes_hold : (v : Env) (rest : List ℕ) (k : Known) (files : List (List ℕ)) (tables : List (List (List (List ℕ)))) → AreRead v rest files tables
    → TablesSay v tables None → (v.kind ≢ Full → AreChainCounts v rest k) → AllZip IsKeyFile (deletes_of v) (deletes_files v files) → PassesBelow (CheckSays v rest k) 9 → IsLeast (CheckSays v rest k) Pass
deletes_hold v rest k files tables read says chain all below =
    below_all (CheckSays v rest k) (below_more (CheckSays v rest k) check.Deletes (references_hold v rest k files tables read says chain below) (files, read.are, all))

-- ---- the parts of borrowed files

pub texts_take : (files : List (Bor (List ℕ))) (n : ℕ) (front : List (Bor (List ℕ))) → front ≡ take n files → borrowed_texts front ≡ take n (borrowed_texts files)
texts_take files n front is = ap borrowed_texts is ∙ sym (take-map (λ (f : Bor (List ℕ)). f.now) n files)

pub texts_drop : (files : List (Bor (List ℕ))) (n : ℕ) (back : List (Bor (List ℕ))) → back ≡ drop n files → borrowed_texts back ≡ drop n (borrowed_texts files)
texts_drop files n back is = ap borrowed_texts is ∙ sym (drop-map (λ (f : Bor (List ℕ)). f.now) n files)
