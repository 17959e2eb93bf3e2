-- The tests of files and tables decide the checks from that of the files on, each where the lower ones hold.
use Rattle.std.specs.Prelude.{is_some, unwrap_or}
use Rattle.std.proofs.Common.{◌≡◌, ◌≢◌, ◌<◌, ◌&&◌, ◌||◌, ◌++◌, ◌∷◌, ◌∙◌, [], ℕ, zero, suc, Bool, true, false, List, Option, Some, None, Contains, ap, arith, cond, drop, get_or, length, map, option_and_then, option_map, refl, subst, sym, take}
use Rattle.std.specs.Bool.{Decides}
use Rattle.std.specs.Cmp.Lexicographic.{pointwise}
use Rattle.std.specs.List.{AllZip, concat}
use Rattle.std.specs.Str.{bytes_eq}
use Rattle.std.proofs.lemmas.Bool.Decides.{Decides-and, Decides-at, Decides-eqb, Decides-like, not_from_Decides}
use Rattle.std.proofs.lemmas.List.{take-append-drop}
use Rattle.std.proofs.lemmas.Option.{same_Some}
use Rattle.std.proofs.lemmas.Slice.Eq.{bytes_eq-Decides}
use Rattle.sha2.specs.Sha256.{sha256}
use Rattle.deposit_name.specs.declared.kinds.Kind.TheVariants.{Full}
use Rattle.deposit_name.specs.declared.table.TableName.{TableName}
use Rattle.deposit_name.specs.declared.table.TableName.TheVariants.{Domain, DomainContacts, DomainStatuses, DomainNameServers, Host, HostAddresses, Contact, Registrar}
use Rattle.dnrd_csv.specs.declared.form.Form.{Form}
use Rattle.dnrd_csv.specs.Readers.{IsTableReader, table_at}
use Rattle.dnrd_csv.specs.Table.{IsTable, columns_of, key_columns_of}
use Rattle.dnrd_csv.proofs.Decided.{all_decides, zip_decides}
use Rattle.envelope.specs.Envelope.{Env}
use Rattle.envelope.specs.declared.envelope.FileEntry.{FileEntry}
use Rattle.deposit_verify.specs.Checks.{AreRowCounts, HasMenu, HasTables, counted_tables}
use Rattle.deposit_verify.specs.Deposit.{AreFiles, contents_files, deletes_files, deletes_of, all_entries, HasFiles, IsFileOf, IsKeyFile, IsTableFile, IsTableOf}
use Rattle.deposit_verify.specs.References.{AreKeysOf, AreKeysOrEmpty, AreReferencesKept, column}
use Rattle.deposit_verify.specs.Tables.{AreReadAs, table_of}
use Rattle.deposit_verify.specs.Verdict.{are_row_counts, are_keys_of, are_keys_or_empty, are_references_kept, contains_text, files_behind, is_file_of, is_key_file, passes_if_full, rows_at, rows_of_each, tables_at, with_tables}
use Rattle.deposit_verify.proofs.CutLemmas.{same_file}
use Rattle.deposit_name.proofs.KindLemmas.{same_kind_decides}
use Rattle.deposit_verify.proofs.HeaderDecided.{contains_decides, implies_decides}
use Rattle.deposit_verify.proofs.Judged.{AreRead, only_tables, under_names}
use Rattle.deposit_verify.proofs.Uniques.{OneText, same_files}

-- what stands in an option
pub some_of : {X : Type 0} (o : Option X) → is_some o ≡ true → (x : X) × (o ≡ Some x)
some_of None e = cc e
some_of (Some x) e = (x, refl)

-- ---- the files

file_decides : (entry : FileEntry) (file : List ℕ) → Decides (is_file_of entry file) (IsFileOf entry file)
file_decides entry file =
    Decides-like _ (λ h. record { length_right = h.0; digest_right = h.1 }) (λ h. (h.length_right, h.digest_right))
    (Decides-and _ _ (Decides-eqb (length file) entry.length) (bytes_eq-Decides (sha256 file) entry.sha256))

pub files_found : (entries : List FileEntry) (bytes : List ℕ) (files : List (List ℕ)) → files_behind entries bytes ≡ Some files → AreFiles entries bytes files
files_found [] [] [] e = record { joined = refl; each = tt }
files_found [] _ _ e = cc e
files_found (entry ∷ entries) bytes files e = by (is_file_of entry file) refl (files_behind entries rest) refl e (files_found entries rest)
  where
    file : List ℕ
    file = take entry.length bytes

    rest : List ℕ
    rest = drop entry.length bytes

    by : (b : Bool) → is_file_of entry file ≡ b → (o : Option (List (List ℕ))) → files_behind entries rest ≡ o
        → cond b (option_map (λ (fs : List (List ℕ)). file ∷ fs) o) None ≡ Some files → ((fs : List (List ℕ)) → files_behind entries rest ≡ Some fs → AreFiles entries rest fs) → AreFiles (entry ∷ entries) bytes files
    by true test None found e more = cc e
    by true test (Some others) found e more =
        let are = more others found in
        let same : file ∷ others ≡ files = cc e in
        subst (AreFiles (entry ∷ entries) bytes) same (record {
          joined = sym (take-append-drop entry.length bytes) ∙ ap (λ t. file ++ t) are.joined;
          each = ((file_decides entry file).0 test, are.each);
        })
    by false test o found e more = cc e

pub files_are : (entries : List FileEntry) (bytes : List ℕ) (files : List (List ℕ)) → AreFiles entries bytes files → files_behind entries bytes ≡ Some files
files_are [] bytes [] are = ap (files_behind []) are.joined
files_are [] bytes (file ∷ files) are = absurd are.each
files_are (entry ∷ entries) bytes [] are = absurd are.each
files_are (entry ∷ entries) bytes (file ∷ files) are =
    let same = same_file file (concat files) bytes entry.length are.joined are.each.0.length_right in
    let with_file : List ℕ → List ℕ → Option (List (List ℕ)) =
    λ front rest. cond (is_file_of entry front) (option_map (λ (fs : List (List ℕ)). front ∷ fs) (files_behind entries rest)) None in
    (λ i. with_file (same.0 i) (same.1 i))
    ∙ ap (λ b. cond b (option_map (λ (fs : List (List ℕ)). file ∷ fs) (files_behind entries (concat files))) None) ((file_decides entry file).1 are.each.0)
    ∙ ap (option_map (λ (fs : List (List ℕ)). file ∷ fs)) (files_are entries (concat files) files (record { joined = refl; each = are.each.1 }))

pub files_decide : (v : Env) (rest : List ℕ) → Decides (is_some (files_behind (all_entries v) rest)) (HasFiles v rest (λ files. Unit {0}))
files_decide v rest = (
  λ e. let there = some_of (files_behind (all_entries v) rest) e in (there.0, files_found (all_entries v) rest there.0 there.1, tt),
  λ has. ap is_some (files_are (all_entries v) rest has.0 has.1),
)

-- what is said of the files of a deposit, whose files these are
in_files : (v : Env) (rest : List ℕ) (files : List (List ℕ)) → AreFiles (all_entries v) rest files → (P : List (List ℕ) → Type 0) (test : Bool) → Decides test (P files) → Decides test (HasFiles v rest P)
in_files v rest files are P test decides =
    Decides-like test (λ p. (files, are, p)) (λ has. subst P (same_files (all_entries v) rest has.0 files has.1 are) has.2) decides

-- ---- their tables

pub both_some : {A B C : Type 0} (f : A → B → C) (o : Option A) (p : Option B) → is_some (option_and_then (λ a. option_map (f a) p) o) ≡ (is_some o && is_some p)
both_some f (Some a) (Some b) = refl
both_some f _ _ = refl

pub each_parts : (read : FileEntry → List ℕ → Option (List (List (List ℕ)))) (e : FileEntry) (es : List FileEntry) (f : List ℕ) (fs : List (List ℕ)) (t : List (List (List ℕ))) (ts : List (List (List (List ℕ))))
    → rows_of_each read (e ∷ es) (f ∷ fs) ≡ Some (t ∷ ts) → (read e f ≡ Some t) × (rows_of_each read es fs ≡ Some ts)
each_parts read e es f fs t ts whole = by (read e f) refl (rows_of_each read es fs) refl whole
  where
    by : (o : Option (List (List (List ℕ)))) → read e f ≡ o → (p : Option (List (List (List (List ℕ))))) → rows_of_each read es fs ≡ p
        → option_and_then (λ (rows : List (List (List ℕ))). option_map (λ (others : List (List (List (List ℕ)))). rows ∷ others) p) o ≡ Some (t ∷ ts) → (read e f ≡ Some t) × (rows_of_each read es fs ≡ Some ts)
    by None is p are same = cc same
    by (Some rows) is None are same = cc same
    by (Some rows) is (Some others) are same =
        let both : rows ∷ others ≡ t ∷ ts = same_Some _ _ same in
        let first : rows ≡ t = cc both in
        let rest : others ≡ ts = cc both in
        (is ∙ ap Some first, are ∙ ap Some rest)

pub each_nothing : (read : FileEntry → List ℕ → Option (List (List (List ℕ)))) (e : FileEntry) (es : List FileEntry) (f : List ℕ) (fs : List (List ℕ)) → rows_of_each read (e ∷ es) (f ∷ fs) ≡ Some [] → ⊥
each_nothing read e es f fs whole = by (read e f) (rows_of_each read es fs) whole
  where
    by : (o : Option (List (List (List ℕ)))) (p : Option (List (List (List (List ℕ))))) → option_and_then (λ (rows : List (List (List ℕ))). option_map (λ (others : List (List (List (List ℕ)))). rows ∷ others) p) o ≡ Some [] → ⊥
    by None p same = cc same
    by (Some rows) None same = cc same
    by (Some rows) (Some others) same = let both : rows ∷ others ≡ [] = same_Some _ _ same in cc both

module _ (reader : IsTableReader) where
  read_decides : (columns : List Form) (key : ℕ) (file : List ℕ) → Decides (is_some (table_at columns key file)) ((rows : List (List (List ℕ))) × IsTable columns key file rows)
  read_decides columns key file = (
    λ e. let there = some_of (table_at columns key file) e in (there.0, (reader.some columns key file there.0).0 there.1),
    λ has. ap is_some ((reader.some columns key file has.0).1 has.1),
  )

  tables_decide : (entries : List FileEntry) (files : List (List ℕ)) → Decides (is_some (tables_at entries files)) (AllZip IsTableFile entries files)
  tables_decide [] [] = (λ _. tt, λ _. refl)
  tables_decide (entry ∷ entries) (file ∷ files) =
      Decides-at _ _ (both_some (λ rows tables. rows ∷ tables) (rows_at entry file) (tables_at entries files))
      (Decides-and _ _ (read_decides (columns_of entry.name) (key_columns_of entry.name) file) (tables_decide entries files))
  tables_decide _ _ = (λ e. cc e, λ h. absurd h)

  pub tables_found : (entries : List FileEntry) (files : List (List ℕ)) (tables : List (List (List (List ℕ)))) → tables_at entries files ≡ Some tables → AreReadAs entries files tables
  tables_found [] [] [] e = record { count = refl; each = λ i d inside. absurd (omega (arith, inside)) }
  tables_found [] _ _ e = cc e
  tables_found (entry ∷ entries) [] tables e = cc e
  tables_found (entry ∷ entries) (file ∷ files) [] e = absurd (each_nothing rows_at entry entries file files e)
  tables_found (entry ∷ entries) (file ∷ files) (rows ∷ ts) e =
      let parts = each_parts rows_at entry entries file files rows ts e in
      let are = tables_found entries files ts parts.1 in
      record { count = ap suc are.count; each = each parts.0 are }
    where
      each : rows_at entry file ≡ Some rows → AreReadAs entries files ts → (i : ℕ) (d : FileEntry) → i < length (entry ∷ entries)
          → IsTableOf (get_or (entry ∷ entries) i d).name (get_or (file ∷ files) i []) (get_or (rows ∷ ts) i [])
      each read are zero d inside = (reader.some (columns_of entry.name) (key_columns_of entry.name) file rows).0 read
      each read are (suc i) d inside = are.each i d (omega (arith, inside))

  pub table_decides : (v : Env) (rest : List ℕ) (files : List (List ℕ)) → AreFiles (all_entries v) rest files
      → Decides (is_some (with_tables v (Some files)).tables) (HasFiles v rest (λ fs. AllZip IsTableFile v.contents (contents_files v fs)))
  table_decides v rest files are = in_files v rest files are (λ fs. AllZip IsTableFile v.contents (contents_files v fs)) _ (tables_decide v.contents (contents_files v files))

  pub deletes_decide : (v : Env) (rest : List ℕ) (files : List (List ℕ)) → AreFiles (all_entries v) rest files
      → Decides (pointwise is_key_file (deletes_of v) (deletes_files v files)) (HasFiles v rest (λ fs. AllZip IsKeyFile (deletes_of v) (deletes_files v fs)))
  deletes_decide v rest files are =
      in_files v rest files are (λ fs. AllZip IsKeyFile (deletes_of v) (deletes_files v fs)) _
      (zip_decides is_key_file IsKeyFile (λ entry file. read_decides (take 1 (columns_of entry.name)) 1 file) (deletes_of v) (deletes_files v files))

  -- ---- counts and references

  -- what is said of the tables of a full deposit that passes the check of its tables
  pub full_decides : OneText → (v : Env) (rest : List ℕ) (files : List (List ℕ)) → HasMenu v → AreFiles (all_entries v) rest files
      → HasFiles v rest (λ fs. AllZip IsTableFile v.contents (contents_files v fs)) → (P : (TableName → List (List (List ℕ))) → Type 0) (test : (TableName → List (List (List ℕ))) → Bool)
      → ((tables : TableName → List (List (List ℕ))) → Decides (test tables) (P tables)) → Decides (passes_if_full v (with_tables v (Some files)) test) (v.kind ≡ Full → HasTables v rest P)
  full_decides one v rest files menu are all P test decides = implies_decides _ _ (same_kind_decides v.kind Full) by
    where
      by : v.kind ≡ Full → Decides (test (table_of (unwrap_or (tables_at v.contents (contents_files v files)) []))) (HasTables v rest P)
      by full =
          let there = some_of (tables_at v.contents (contents_files v files)) ((table_decides v rest files are).1 all) in
          let read : AreRead v rest files there.0 = record { menu = menu; are = are; read = tables_found v.contents (contents_files v files) there.0 there.1 } in
          Decides-at _ _ (ap (λ o. test (table_of (unwrap_or o []))) there.1)
          (Decides-like _ (λ p. (files, are, (table_of there.0, under_names v rest files there.0 read full, p))) (only_tables one v rest files there.0 read full P) (decides (table_of there.0)))

keys_decide : (rows : List (List (List ℕ))) (texts : List (List ℕ)) → Decides (are_keys_of rows texts) (AreKeysOf rows texts)
keys_decide rows texts = all_decides (contains_text (column 0 rows)) (Contains (column 0 rows)) (contains_decides (column 0 rows)) texts

pub unless_decides : {P Q : Type 0} (a b : Bool) → Decides a P → Decides b Q → Decides (a || b) (¬ P → Q)
unless_decides true b p q = (λ _ none. absurd (none (p.0 refl)), λ _. refl)
unless_decides false b p q = (λ e _. q.0 e, λ f. q.1 (f (not_from_Decides false p refl)))

keys_or_empty_decide : (rows : List (List (List ℕ))) (texts : List (List ℕ)) → Decides (are_keys_or_empty rows texts) (AreKeysOrEmpty rows texts)
keys_or_empty_decide rows texts =
    all_decides (λ text. bytes_eq text [] || contains_text (column 0 rows) text) (λ text. text ≢ [] → Contains (column 0 rows) text)
    (λ text. unless_decides _ _ (bytes_eq-Decides text []) (contains_decides (column 0 rows) text)) texts

pub counts_decide : (v : Env) (tables : TableName → List (List (List ℕ))) → Decides (are_row_counts v.count tables) (AreRowCounts v.count tables)
counts_decide v tables = bytes_eq-Decides (map (λ c. c.count) v.count) (map (λ name. length (tables name)) counted_tables)

pub references_decide : (tables : TableName → List (List (List ℕ))) → Decides (are_references_kept tables) (AreReferencesKept tables)
references_decide tables =
    Decides-like _ (λ h. record {
      registrars = record { of_domains = h.0.0; of_hosts = h.0.1.0; of_contacts = h.0.1.1 };
      contacts = record { registrants = h.1.0.0; of_domains = h.1.0.1 };
      domains = record { of_contacts = h.1.1.0.0; of_statuses = h.1.1.0.1.0; of_name_servers = h.1.1.0.1.1 };
      hosts = record { of_name_servers = h.1.1.1.0; of_addresses = h.1.1.1.1 };
    })
    (λ h. (
      (h.registrars.of_domains, (h.registrars.of_hosts, h.registrars.of_contacts)),
      (
        (h.contacts.registrants, h.contacts.of_domains),
        ((h.domains.of_contacts, (h.domains.of_statuses, h.domains.of_name_servers)), (h.hosts.of_name_servers, h.hosts.of_addresses)),
      ),
    ))
    (Decides-and _ _
    (Decides-and _ _ (keys_decide (tables Registrar) (column 3 (tables Domain))) (Decides-and _ _ (keys_decide (tables Registrar) (column 2 (tables Host))) (keys_decide (tables Registrar) (column 2 (tables Contact)))))
    (Decides-and _ _
    (Decides-and _ _ (keys_or_empty_decide (tables Contact) (column 2 (tables Domain))) (keys_decide (tables Contact) (column 2 (tables DomainContacts))))
    (Decides-and _ _
    (Decides-and _ _ (keys_decide (tables Domain) (column 0 (tables DomainContacts))) (Decides-and _ _ (keys_decide (tables Domain) (column 0 (tables DomainStatuses))) (keys_decide (tables Domain) (column 0 (tables DomainNameServers)))))
    (Decides-and _ _ (keys_decide (tables Host) (column 1 (tables DomainNameServers))) (keys_decide (tables Host) (column 0 (tables HostAddresses)))))))
