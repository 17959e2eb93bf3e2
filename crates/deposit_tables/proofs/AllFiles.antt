-- The files of all eight tables, in the order of a deposit.
use Rattle.std.proofs.Common.{◌≡◌, ◌<◌, ◌∷◌, ◌∙◌, [], ℕ, All, Bool, List, ap, arith, get_or, length, map, refl, subst, sym}
use Rattle.std.proofs.lemmas.List.{get_or-map, length-map}
use Rattle.deposit_name.specs.declared.table.TableName.{TableName}
use Rattle.deposit_name.specs.declared.table.TableName.TheVariants.{Domain, DomainContacts, DomainStatuses, DomainNameServers, Host, HostAddresses, Contact, Registrar}
use Rattle.dnrd_csv.specs.Text.{table_text}
use Rattle.deposit_verify.specs.Deposit.{IsTableOf}
use Rattle.deposit_verify.specs.Places.{all_tables, table_place}
use Rattle.deposit_verify.specs.Tables.{table_of}
use Rattle.deposit_verify.proofs.HeaderDecided.{same_place}
use Rattle.deposit_verify.proofs.Judged.{all_tables_right}
use Rattle.deposit_verify.proofs.TableLemmas.{place_at}
use Rattle.deposit_pack.specs.Packable.{AreTableRows}
use Rattle.deposit_pack.specs.Packing.{NamedRows, named_rows, objects_in, rows_of, table_names}
use Rattle.deposit_pack.specs.Unpacking.{file_names}
use Rattle.deposit_pack.specs.declared.source.TableFile.{TableFile}
use Rattle.deposit_pack.specs.declared.source.Source.{Source}
use Rattle.deposit_pack.proofs.EnvelopeLemmas.{under_all}
use Rattle.deposit_pack.proofs.SourceLemmas.{no_file}
use Rattle.deposit_tables.specs.Whole.{tables_in}
use Rattle.deposit_tables.proofs.Decisions.{Rows}

-- the files at the places so far are those of the tables there
abbrev pub AreInPlace : List TableFile → ℕ → Type 0
AreInPlace files place = (k : ℕ) → k < place → table_place (get_or files k no_file).name ≡ k

eight_names : (a b c d e f g h : TableName) → table_place a ≡ 0 → table_place b ≡ 1 → table_place c ≡ 2 → table_place d ≡ 3 → table_place e ≡ 4 → table_place f ≡ 5 → table_place g ≡ 6 → table_place h ≡ 7
    → a ∷ b ∷ c ∷ d ∷ e ∷ f ∷ g ∷ h ∷ [] ≡ all_tables
eight_names a b c d e f g h at0 at1 at2 at3 at4 at5 at6 at7 =
    cc (
      same_place a Domain at0,
      same_place b DomainContacts at1,
      same_place c DomainStatuses at2,
      same_place d DomainNameServers at3,
      same_place e Host at4,
      same_place f HostAddresses at5,
      same_place g Contact at6,
      same_place h Registrar at7,
    )

pub are_all : (files : List TableFile) → length files ≡ 8 → AreInPlace files 8 → file_names files ≡ all_tables
are_all (a ∷ b ∷ c ∷ d ∷ e ∷ f ∷ g ∷ h ∷ []) eight at =
    eight_names a.name b.name c.name d.name e.name f.name g.name h.name (at 0 (omega arith)) (at 1 (omega arith)) (at 2 (omega arith)) (at 3 (omega arith)) (at 4 (omega arith)) (at 5 (omega arith)) (at 6 (omega arith)) (at 7 (omega arith))
are_all _ eight at = absurd (omega (arith, eight))

pub all_are_eight : (files : List TableFile) → file_names files ≡ all_tables → length files ≡ 8
all_are_eight files same = sym (length-map files (λ (f : TableFile). f.name)) ∙ ap length same

-- where they are, each stands at its place
pub in_place : (files : List TableFile) (d : TableFile) (place : ℕ) → place < length files → file_names files ≡ all_tables → table_place (get_or files place d).name ≡ place
in_place files d place inside same =
    let eight = all_are_eight files same in
    ap table_place (sym (get_or-map (λ (f : TableFile). f.name) files place d Domain inside) ∙ ap (λ (names : List TableName). get_or names place Domain) same) ∙ place_at place Domain (omega (arith, eight, inside))

-- ---- the tables of the files

pub names_read : (has_headers : Bool) (files : List TableFile) → table_names (map (named_rows has_headers) files) ≡ file_names files
names_read has_headers [] = refl
names_read has_headers (f ∷ files) = ap (λ (names : List TableName). f.name ∷ names) (names_read has_headers files)

-- of all tables, each is in form
pub all_in_form : (fs : List NamedRows) → table_names fs ≡ all_tables → All AreTableRows fs → (name : TableName) → IsTableOf name (table_text (table_of (rows_of fs) name)) (table_of (rows_of fs) name)
all_in_form fs same right name =
    let eight : length fs ≡ 8 = sym (length-map fs (λ (f : NamedRows). f.name)) ∙ ap length same in
    let place = all_tables_right name Domain in
    let inside : table_place name < length fs = omega (arith, eight, place.0) in
    let f = get_or fs (table_place name) no_rows in
    let named : f.name ≡ name = sym (get_or-map (λ (f : NamedRows). f.name) fs (table_place name) no_rows Domain inside) ∙ ap (λ (names : List TableName). get_or names (table_place name) Domain) same ∙ place.1 in
    let rows : f.rows ≡ table_of (rows_of fs) name = sym (get_or-map (λ (f : NamedRows). f.rows) fs (table_place name) no_rows [] inside) in
    subst (λ (r : Rows). IsTableOf name (table_text r) r) rows
    (subst (λ (n : TableName). IsTableOf n (table_text f.rows) f.rows) named (right (table_place name) no_rows inside))
  where
    no_rows : NamedRows
    no_rows = record { name = Domain; rows = [] }

pub tables_are : (source : Source) → file_names source.contents.now ≡ all_tables → table_of (rows_of (objects_in source).contents) ≡ tables_in source
tables_are source same = λ i name. sym (under_all (objects_in source).contents (names_read source.has_headers source.contents.now ∙ same) name) i
