-- How many keys a chain has.
use Rattle.std.proofs.Common.{◌≡◌, ◌<◌, ◌==◌, ◌↔◌, ◌++◌, ◌∷◌, ◌∙◌, [], ℕ, zero, suc, Bool, false, IsTrue, List, Some, ap, arith, cond, get_or, inl, inr, length, map, refl, subst, sym}
use Rattle.std.specs.List.{AllByRecursion, AllZip}
use Rattle.std.proofs.lemmas.Bool.Decides.{Decides-eqb, Decides-like, same_from_decides}
use Rattle.std.proofs.lemmas.Map.Made.{IsDistinct-from_AllPairs, distinct_count-from_IsDistinct, length-from_keys}
use Rattle.std.proofs.lemmas.Slice.Eq.{bytes_eq-Decides}
use Rattle.deposit_name.specs.Tables.{has_deletes}
use Rattle.deposit_name.specs.declared.table.TableName.{TableName}
use Rattle.deposit_name.specs.declared.table.TableName.TheVariants.{Domain, Host, Contact, Registrar}
use Rattle.dnrd_csv.specs.Readers.{IsTableReader}
use Rattle.envelope.specs.Envelope.{Env}
use Rattle.envelope.specs.declared.envelope.Count.{Count}
use Rattle.envelope.specs.declared.envelope.FileEntry.{FileEntry}
use Rattle.deposit_verify.specs.declared.base.Base.{Base}
use Rattle.deposit_verify.specs.Chain.{DepositContains, IsBase, IsKeyOf, IsRead, DepositNames}
use Rattle.deposit_verify.specs.Checks.{AreKeyCounts, HasTables, counted_tables}
use Rattle.deposit_verify.specs.Deposit.{AreFiles, AreTables, HasEnvelope, IsDeposit, IsTableOf, contents_files, all_entries}
use Rattle.deposit_verify.specs.Keys.{AreKeys, IsKeyAfter, IsNumberOf, keys_in}
use Rattle.deposit_verify.specs.Numbers.{AreChainNumbers, numbers_in}
use Rattle.deposit_verify.specs.Places.{table_place}
use Rattle.deposit_verify.specs.References.{column}
use Rattle.deposit_verify.specs.Rows.{rows_under}
use Rattle.deposit_verify.specs.Tables.{AreReadAs}
use Rattle.deposit_verify.specs.Verdict.{tables_at}
use Rattle.deposit_verify.proofs.BaseLemmas.{contained_in, named_in}
use Rattle.deposit_verify.proofs.ChainLemmas.{chain_keys}
use Rattle.deposit_verify.proofs.Columns.{length-column}
use Rattle.deposit_verify.proofs.CountsDecided.{contained_is}
use Rattle.deposit_verify.proofs.FilesDecided.{some_of, table_decides, tables_found}
use Rattle.deposit_verify.proofs.Judged.{files_parted}
use Rattle.deposit_verify.proofs.KeyCounts.{bytes_laws, false_from, member_decides}
use Rattle.deposit_verify.specs.inside.Reading.{OneReading}
use Rattle.deposit_verify.proofs.Lists.{no_entry, zip_from}
use Rattle.deposit_verify.proofs.Readings.{AreApart, apart_contents, under_once}

-- the same keys are as many
same_number : (P Q : List ℕ → Type 0) (xs ys : List (List ℕ)) → AreKeys P xs → AreKeys Q ys → ((key : List ℕ) → P key ↔ Q key) → length xs ≡ length ys
same_number P Q xs ys ones others is =
    length-from_keys bytes_laws xs ys (IsDistinct-from_AllPairs bytes_eq-Decides xs ones.once)
    (λ key. same_from_decides _ _ (member_decides xs key)
    (Decides-like _ (λ has. (ones.same key).1 ((is key).1 ((others.same key).0 has))) (λ has. (others.same key).1 ((is key).0 ((ones.same key).0 has))) (member_decides ys key)))
    ∙ distinct_count-from_IsDistinct bytes_laws ys (IsDistinct-from_AllPairs bytes_eq-Decides ys others.once)

-- numbers that are the same of each counted table are the same list
numbers_agree : (f g : TableName → ℕ) → ((name : TableName) → IsTrue (has_deletes name) → f name ≡ g name) → map f counted_tables ≡ map g counted_tables
numbers_agree f g same =
    let contacts = same Contact refl in
    let domains = same Domain refl in
    let hosts = same Host refl in
    let registrars = same Registrar refl in
    λ i. contacts i ∷ domains i ∷ hosts i ∷ registrars i ∷ []

-- ---- the tables of a deposit under their names

-- an entry behind the first ones has a later place
later_at : (n : ℕ) (es : List FileEntry) (i : ℕ) (d : FileEntry) → AllByRecursion (λ (e : FileEntry). n < table_place e.name) es → i < length es → n < table_place (get_or es i d).name
later_at n [] i d all inside = absurd (omega arith)
later_at n (e ∷ es) zero d all inside = all.0
later_at n (e ∷ es) (suc i) d all inside = later_at n es i d all.1 (omega arith)

-- the rows under the name of an entry are those at its place
rows_at_entry : (es : List FileEntry) (ts : List (List (List (List ℕ)))) → AreApart es → length ts ≡ length es → (i : ℕ) (d : FileEntry) → i < length es → rows_under es ts (get_or es i d).name ≡ get_or ts i []
rows_at_entry [] ts apart count i d inside = absurd (omega arith)
rows_at_entry (e ∷ es) [] apart count i d inside = absurd (omega arith)
rows_at_entry (e ∷ es) (t ∷ ts) apart count zero d inside = ap (λ (b : Bool). cond b t (rows_under es ts e.name)) ((Decides-eqb (table_place e.name) (table_place e.name)).1 refl)
rows_at_entry (e ∷ es) (t ∷ ts) apart count (suc i) d inside =
    let name = (get_or es i d).name in
    let above = later_at (table_place e.name) es i d apart.0 (omega arith) in
    let other : (table_place e.name == table_place name) ≡ false = false_from _ (Decides-eqb (table_place e.name) (table_place name)) (λ same. absurd (omega (arith, same, above))) in
    ap (λ (b : Bool). cond b t (rows_under es ts name)) other ∙ rows_at_entry es ts apart.1 (omega arith) i d (omega arith)

-- files that are read are tables, each under its name
are_under : (es : List FileEntry) (fs : List (List ℕ)) (ts : List (List (List (List ℕ)))) → AreApart es → length es ≡ length fs → AreReadAs es fs ts → AreTables es fs (rows_under es ts)
are_under es fs ts apart count read =
    zip_from (λ entry file. IsTableOf entry.name file (rows_under es ts entry.name)) es fs no_entry [] count
    (λ i inside. subst (λ (rows : List (List (List ℕ))). IsTableOf (get_or es i no_entry).name (get_or fs i []) rows) (sym (rows_at_entry es ts apart read.count i no_entry inside)) (read.each i no_entry inside))

-- ---- the numbers

module _ (reader : IsTableReader) (one : OneReading) (joined : List ℕ) (base : Base) (is : IsBase (joined ∷ []) base) (v : Env) (rest : List ℕ) (deposit : IsDeposit joined v rest) (read : IsRead v rest) where
  -- the keys of a chain of one are as many as the rows of its table
  rows_number : (files : List (List ℕ)) → AreFiles (all_entries v) rest files → (tables : List (List (List (List ℕ)))) → tables_at v.contents (contents_files v files) ≡ Some tables → (name : TableName) → IsTrue (has_deletes name)
      → length (keys_in base name) ≡ length (rows_under v.contents tables name)
  rows_number files are tables whole name keyed =
      same_number (IsKeyOf (joined ∷ []) name) (DepositContains joined name) (keys_in base name) (column 0 (rows_under v.contents tables name)) (is.keys name keyed)
      (record {
        once = under_once reader name keyed v.contents (contents_files v files) tables whole;
        same = λ key.
            let inside = contained_is reader v rest files read.menu are tables whole name key in
            let here = contained_in one joined v rest deposit name key in
            (λ has. here.1 (inside.0 has), λ has. inside.1 (here.0 has));
      })
      (chain_keys.one joined name)
      ∙ length-column 0 (rows_under v.contents tables name)

  -- they are the numbers of the rows of the deposit
  tables_numbered : HasTables v rest (λ tables. numbers_in base ≡ map (λ name. length (tables name)) counted_tables)
  tables_numbered =
      let files = read.tables.0 in
      let are = read.tables.1 in
      let there = some_of (tables_at v.contents (contents_files v files)) ((table_decides reader v rest files are).1 read.tables) in
      let under = rows_under v.contents there.0 in (
        files,
        are,
        (
          under,
          are_under v.contents (contents_files v files) there.0 (apart_contents v read.menu) (sym (files_parted v rest files are).1) (tables_found reader v.contents (contents_files v files) there.0 there.1),
          numbers_agree (λ name. length (keys_in base name)) (λ name. length (under name)) (rows_number files are there.0 there.1),
        ),
      )

-- a chain of one deposit has the numbers of its rows
one_numbers : IsTableReader → OneReading → (joined : List ℕ) (base : Base) → IsBase (joined ∷ []) base
    → HasEnvelope joined (λ v rest. HasTables v rest (λ tables. numbers_in base ≡ map (λ name. length (tables name)) counted_tables))
one_numbers reader one joined base is =
    let first = is.chained.0 in
    (first.0, first.1, first.2, tables_numbered reader one joined base is first.0 first.1 first.2 first.3.1)

-- a deposit that names no key leaves the numbers
same_numbers : (chain : List (List ℕ)) (joined : List ℕ) (before after : Base) → IsBase chain before → IsBase (chain ++ joined ∷ []) after → ((name : TableName) (key : List ℕ) → ¬ DepositNames joined name key)
    → numbers_in after ≡ numbers_in before
same_numbers chain joined before after was is none =
    numbers_agree (λ name. length (keys_in after name)) (λ name. length (keys_in before name))
    (λ name keyed. same_number (IsKeyOf (chain ++ joined ∷ []) name) (IsKeyOf chain name) (keys_in after name) (keys_in before name) (is.keys name keyed) (was.keys name keyed) (chain_keys.same chain joined name (none name)))

-- ---- counts behind a chain

-- the same keys have the same number
number_of : (P Q : List ℕ → Type 0) → ((key : List ℕ) → P key ↔ Q key) → (n : ℕ) → IsNumberOf P n → IsNumberOf Q n
number_of P Q is n h = (h.0, record { once = h.1.once; same = λ key. (λ has. (is key).0 ((h.1.same key).0 has), λ q. (h.1.same key).1 ((is key).1 q)) }, h.2)

-- counts that are the numbers of the same keys
numbers_of : (P Q : TableName → List ℕ → Type 0) → ((name : TableName) → IsTrue (has_deletes name) → (key : List ℕ) → P name key ↔ Q name key) → (counts : List Count) (names : List TableName)
    → AllByRecursion (λ name. IsTrue (has_deletes name)) names → AllZip (λ count name. IsNumberOf (P name) count.count) counts names → AllZip (λ count name. IsNumberOf (Q name) count.count) counts names
numbers_of P Q is [] [] keyed all = tt
numbers_of P Q is [] (name ∷ names) keyed all = absurd all
numbers_of P Q is (count ∷ counts) [] keyed all = absurd all
numbers_of P Q is (count ∷ counts) (name ∷ names) keyed all = (number_of (P name) (Q name) (is name keyed.0) count.count all.0, numbers_of P Q is counts names keyed.1 all.1)

-- each counted table has keys that may be deleted
counted_keyed : AllByRecursion (λ name. IsTrue (has_deletes name)) counted_tables
counted_keyed = (refl, (refl, (refl, (refl, tt))))

module _ (one : OneReading) (chain : List (List ℕ)) (joined : List ℕ) (base : Base) (v : Env) (rest : List ℕ) (is : IsBase chain base) (deposit : IsDeposit joined v rest) where
  -- the keys after the deposit are those of the chain that ends with it
  after_chain : (name : TableName) → IsTrue (has_deletes name) → (key : List ℕ) → IsKeyAfter v rest (keys_in base name) name key ↔ IsKeyOf (chain ++ joined ∷ []) name key
  after_chain name keyed key =
      let contained = contained_in one joined v rest deposit name key in
      let named = named_in one joined v rest deposit name key in
      let before = (is.keys name keyed).same key in
      let more = chain_keys.more chain joined name key in (
        λ after. more.1 (elim after [ inl c ↦ inl (contained.1 c) | inr b ↦ inr (before.0 b.0, λ n. b.1 (named.0 n)) ]),
        λ of. elim (more.0 of) [ inl c ↦ inl (contained.0 c) | inr b ↦ inr (before.1 b.0, λ n. b.1 (named.1 n)) ],
      )

  -- so its counts are the numbers of either
  chain_counted : AreKeyCounts v rest base ↔ AllZip (λ count name. IsNumberOf (IsKeyOf (chain ++ joined ∷ []) name) count.count) v.count counted_tables
  chain_counted = (
    numbers_of (λ name. IsKeyAfter v rest (keys_in base name) name) (IsKeyOf (chain ++ joined ∷ [])) after_chain v.count counted_tables counted_keyed,
    numbers_of (IsKeyOf (chain ++ joined ∷ [])) (λ name. IsKeyAfter v rest (keys_in base name) name) (λ name keyed key. ((after_chain name keyed key).1, (after_chain name keyed key).0)) v.count counted_tables counted_keyed,
  )

-- all three, of all deposits
pub chain_numbers : IsTableReader → OneReading → AreChainNumbers
chain_numbers reader one = record { one = one_numbers reader one; same = same_numbers; counts = λ chain joined base v rest is deposit. chain_counted one chain joined base v rest is deposit }
