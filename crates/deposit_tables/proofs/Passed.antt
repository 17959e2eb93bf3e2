-- Deposits that pass are chains, and what their headers count are the rows that are restored.
use Rattle.std.proofs.Common.{◌≡◌, ◌≢◌, ◌↔◌, ◌++◌, ◌∷◌, ◌∙◌, [], ℕ, IfSome, IsTrue, List, Some, length, map, refl, subst, sym}
use Rattle.std.specs.List.{AllByRecursion, AllZip}
use Rattle.std.proofs.lemmas.List.Elements.{All-nil, All-push}
use Rattle.std.proofs.lemmas.Map.Made.{IsDistinct-from_AllPairs, distinct_count-from_IsDistinct, length-from_keys}
use Rattle.std.proofs.lemmas.Bool.Decides.{Decides-like, same_from_decides}
use Rattle.std.proofs.lemmas.Slice.Eq.{bytes_eq-Decides}
use Rattle.deposit_name.specs.Tables.{has_deletes}
use Rattle.deposit_name.specs.declared.kinds.Kind.TheVariants.{Full}
use Rattle.deposit_name.specs.declared.table.TableName.{TableName}
use Rattle.deposit_name.specs.declared.table.TableName.TheVariants.{Contact, Domain, Host, Registrar}
use Rattle.desk.specs.declared.checks.Check.{Check}
use Rattle.desk.specs.declared.checks.Check.TheVariants as check
use Rattle.dnrd_csv.specs.Readers.{IsTableReader}
use Rattle.envelope.specs.declared.envelope.Count.{Count}
use Rattle.deposit_verify.specs.Chain.{IsBase, IsChain, IsKeyOf, IsLaterOfChain, IsRead}
use Rattle.deposit_verify.specs.Checks.{AreChainCounts, AreKeyCounts, AreRowCounts, CheckSays, PassesCheck, counted_tables}
use Rattle.deposit_verify.specs.Deposit.{HasDeletes, HasEnvelope}
use Rattle.deposit_verify.specs.Keys.{IsNumberOf, keys_in}
use Rattle.deposit_verify.specs.Known.{Known}
use Rattle.deposit_verify.specs.Numbers.{numbers_in}
use Rattle.deposit_verify.specs.Verdict.{verdict}
use Rattle.deposit_verify.specs.declared.base.Base.{Base}
use Rattle.deposit_verify.specs.declared.verdict.Verdict.TheVariants.{Pass}
use Rattle.deposit_verify.specs.inside.Reading.{OneReading}
use Rattle.deposit_verify.proofs.KeyCounts.{bytes_laws, member_decides}
use Rattle.deposit_verify.proofs.Lifted.{in_envelope}
use Rattle.deposit_verify.proofs.NumberLemmas.{chain_numbers}
use Rattle.deposit_tables.specs.Restored.{AreTablesOf}
use Rattle.deposit_tables.specs.Deposits.{ArePassedRestored}
use Rattle.deposit_tables.proofs.Decisions.{Tables}
use Rattle.deposit_tables.proofs.RestoredForm.{restored}

-- a number of keys is one
one_number : (P : List ℕ → Type 0) (m n : ℕ) → IsNumberOf P m → IsNumberOf P n → m ≡ n
one_number P m n (xs, xs_are, xs_len) (ys, ys_are, ys_len) =
    sym xs_len
    ∙ length-from_keys bytes_laws xs ys (IsDistinct-from_AllPairs bytes_eq-Decides xs xs_are.once)
    (λ key. same_from_decides _ _ (member_decides xs key)
    (Decides-like _ (λ has. (xs_are.same key).1 ((ys_are.same key).0 has)) (λ has. (ys_are.same key).1 ((xs_are.same key).0 has)) (member_decides ys key)))
    ∙ distinct_count-from_IsDistinct bytes_laws ys (IsDistinct-from_AllPairs bytes_eq-Decides ys ys_are.once)
    ∙ ys_len

numbers_agree : (f g : TableName → ℕ) → ((name : TableName) → IsTrue (has_deletes name) → f name ≡ g name) → map f counted_tables ≡ map g counted_tables
numbers_agree f g same =
    let contacts = same Contact refl in
    let domains = same Domain refl in
    let hosts = same Host refl in
    let registrars = same Registrar refl in
    λ i. contacts i ∷ domains i ∷ hosts i ∷ registrars i ∷ []

counted_keyed : AllByRecursion (λ name. IsTrue (has_deletes name)) counted_tables
counted_keyed = (refl, (refl, (refl, (refl, tt))))

counts_are : (P : TableName → List ℕ → Type 0) (number : TableName → ℕ) (counts : List Count) (names : List TableName) → AllByRecursion (λ name. IsTrue (has_deletes name)) names
    → ((name : TableName) → IsTrue (has_deletes name) → IsNumberOf (P name) (number name)) → AllZip (λ count name. IsNumberOf (P name) count.count) counts names
    → map (λ (c : Count). c.count) counts ≡ map number names
counts_are P number [] [] keyed is all = refl
counts_are P number [] (name ∷ names) keyed is all = absurd all
counts_are P number (count ∷ counts) [] keyed is all = absurd all
counts_are P number (count ∷ counts) (name ∷ names) keyed is all =
    let here = one_number (P name) count.count (number name) all.0 (is name keyed.0) in
    let rest = counts_are P number counts names keyed.1 is all.1 in
    λ i. here i ∷ rest i

module _ (reader : IsTableReader) (one : OneReading) (law : (joined : List ℕ) (known : Known) → (verdict joined known ≡ Pass) ↔ ((c : Check) → PassesCheck joined known c)) where
  -- a deposit that passes is read
  passed_read : (joined : List ℕ) (known : Known) → verdict joined known ≡ Pass → HasEnvelope joined (λ v rest. (v.kind ≡ known.name.kind) × IsRead v rest)
  passed_read joined known pass =
      let all = (law joined known).0 pass in
      let menu = all check.Menu in
      let here = in_envelope one joined menu.0 menu.1 menu.2 in (
        menu.0,
        menu.1,
        menu.2,
        (
          ((here (λ v rest. CheckSays v rest known check.Name)).0 (all check.Name)).kind,
          record {
            menu = menu.3;
            tables = (here (λ v rest. CheckSays v rest known check.Table)).0 (all check.Table);
            deletes = (here (λ v rest. CheckSays v rest known check.Deletes)).0 (all check.Deletes);
          },
        ),
      )

  first_chain : (joined : List ℕ) (known : Known) → verdict joined known ≡ Pass → known.name.kind ≡ Full → IsChain (joined ∷ [])
  first_chain joined known pass full =
      let read = passed_read joined known pass in
      ((read.0, read.1, read.2, (read.3.0 ∙ full, read.3.1)), All-nil IsLaterOfChain)

  later_chain : (chain : List (List ℕ)) (joined : List ℕ) (known : Known) → IsChain chain → verdict joined known ≡ Pass → known.name.kind ≢ Full → IsChain (chain ++ joined ∷ [])
  later_chain [] joined known is pass partial = absurd is
  later_chain (first ∷ later) joined known is pass partial =
      let read = passed_read joined known pass in
      (is.0, All-push IsLaterOfChain later joined is.1 (read.0, read.1, read.2, (λ full. partial (sym read.3.0 ∙ full), read.3.1)))

  base_numbers : (chain : List (List ℕ)) (base : Base) (tables : Tables) → IsBase chain base → AreTablesOf chain tables → numbers_in base ≡ map (λ name. length (tables name)) counted_tables
  base_numbers chain base tables is are =
      numbers_agree (λ name. length (keys_in base name)) (λ name. length (tables name))
      (λ name keyed. one_number (IsKeyOf chain name) (length (keys_in base name)) (length (tables name)) (keys_in base name, is.keys name keyed, refl) ((restored reader one).numbers chain tables are name keyed))

  header_counts : (chain : List (List ℕ)) (joined : List ℕ) (known : Known) (base : Base) (tables : Tables) → IsBase chain base → known.base ≡ Some base
      → verdict joined known ≡ Pass → known.name.kind ≢ Full → AreTablesOf (chain ++ joined ∷ []) tables → HasEnvelope joined (λ v rest. AreRowCounts v.count tables)
  header_counts chain joined known base tables is known_is pass partial are =
      let all = (law joined known).0 pass in
      let read = passed_read joined known pass in
      let v = read.0 in
      let rest = read.1 in
      let counts = (in_envelope one joined v rest read.2 (λ w more. CheckSays w more known check.Counts)).0 (all check.Counts) in
      let said : AreChainCounts v rest known = counts.1 (λ full. partial (sym read.3.0 ∙ full)) in
      let keyed : HasDeletes v rest → AreKeyCounts v rest base = subst (λ o. IfSome o (λ b. HasDeletes v rest → AreKeyCounts v rest b)) known_is said in
      let numbers = ((chain_numbers reader one).counts chain joined base v rest is read.2).0 (keyed read.3.1.deletes) in (
        v,
        rest,
        read.2,
        counts_are (IsKeyOf (chain ++ joined ∷ [])) (λ name. length (tables name)) v.count counted_tables counted_keyed ((restored reader one).numbers (chain ++ joined ∷ []) tables are) numbers,
      )

  pub passed_restored : ArePassedRestored
  passed_restored = record { first = first_chain; later = later_chain; numbers = base_numbers; counts = header_counts }
