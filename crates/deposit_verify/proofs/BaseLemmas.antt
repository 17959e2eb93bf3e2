-- A deposit as it is read, and the keys of a chain that are computed.
use Rattle.std.proofs.Common.{◌≡◌, ◌≢◌, ◌↔◌, ◌⊎◌, ◌++◌, ◌∷◌, ◌∙◌, [], ℕ, AllPairs, Bool, true, false, IsTrue, List, Option, Some, None, Contains, ap, append_assoc, arith, cond, inl, inr, option_and_then, refl, subst, sym}
use Rattle.std.proofs.lemmas.List.{append-nil}
use Rattle.std.proofs.lemmas.List.Elements.{All-nil, All-push, Contains-append_left}
use Rattle.std.proofs.lemmas.Map.Made.{AllPairs-from_IsDistinct}
use Rattle.std.proofs.lemmas.Option.{same_Some}
use Rattle.std.proofs.lemmas.Slice.Eq.{bytes_eq-Decides}
use Rattle.deposit_name.specs.Tables.{has_deletes}
use Rattle.deposit_name.specs.declared.kinds.Kind.TheVariants.{Full}
use Rattle.deposit_name.specs.declared.table.TableName.{TableName}
use Rattle.deposit_name.specs.declared.table.TableName.TheVariants.{Domain}
use Rattle.dnrd_csv.specs.Readers.{IsTableReader}
use Rattle.envelope.specs.Envelope.{Env, env_text}
use Rattle.envelope.specs.Readers.{AreReaders, envelope_at, frame_at}
use Rattle.deposit_verify.specs.declared.base.Base.{Base}
use Rattle.deposit_verify.specs.Bases.{AreBases, DepositReading, after_first, after_later, all_then, base_after, base_at, base_of_first, base_then, no_keys, reading_at, reading_behind, reading_of, reading_with}
use Rattle.deposit_verify.specs.Chain.{DepositContains, IsBase, IsChain, IsFirstOfChain, IsKeyOf, IsLaterOfChain, IsRead, DepositNames}
use Rattle.deposit_verify.specs.Checks.{HasMenu}
use Rattle.deposit_verify.specs.Deposit.{AreFiles, IsDeposit, contents_files, deletes_files, deletes_of, all_entries}
use Rattle.deposit_verify.specs.Keys.{AreKeys, IsContained, IsNamed, keys_in}
use Rattle.deposit_verify.specs.References.{column}
use Rattle.deposit_verify.specs.Rows.{rows_under}
use Rattle.deposit_verify.specs.Tables.{AreReadFrom}
use Rattle.deposit_verify.specs.Verdict.{files_reading_at, deleted_keys_at, files_behind, has_menu, is_full, keys_after_files, tables_at, with_tables}
use Rattle.deposit_verify.proofs.FilesDecided.{files_are, files_found, some_of, table_decides}
use Rattle.std.specs.Prelude.{MatchOption, is_some}
use Rattle.std.proofs.lemmas.Bool.Decides.{not_from_Decides}
use Rattle.deposit_verify.proofs.ChainLemmas.{all_front, all_last, chain_keys}
use Rattle.deposit_verify.proofs.CountsDecided.{after_is, deletes_some, deletes_there}
use Rattle.deposit_name.proofs.KindLemmas.{same_kind_decides}
use Rattle.deposit_verify.proofs.HeaderDecided.{menu_decides}
use Rattle.deposit_verify.proofs.KeyCounts.{after_distinct}
use Rattle.deposit_verify.specs.inside.Reading.{OneReading}
use Rattle.deposit_verify.proofs.Lifted.{answered, in_envelope, one_envelope}
use Rattle.deposit_verify.proofs.Readings.{deleted_are, tables_are, under_once}

-- the deposit is read as this
pub record IsReading (joined : List ℕ) (r : DepositReading) : Type 0 where
  pub rest : List ℕ
  pub deposit : IsDeposit joined r.envelope rest
  pub menu : HasMenu r.envelope
  pub files : List (List ℕ)
  pub are : AreFiles (all_entries r.envelope) rest files
  pub tables : tables_at r.envelope.contents (contents_files r.envelope files) ≡ Some r.tables
  pub deleted : deleted_keys_at (deletes_of r.envelope) (deletes_files r.envelope files) ≡ Some r.deleted

-- ---- found where it is

behind_tables : (joined : List ℕ) (r : DepositReading) (v : Env) (rest : List ℕ) (files : List (List ℕ)) → IsDeposit joined v rest → HasMenu v → AreFiles (all_entries v) rest files
    → (o : Option (List (List (List (List ℕ))))) → tables_at v.contents (contents_files v files) ≡ o → (p : Option (List (List (List (List ℕ))))) → deleted_keys_at (deletes_of v) (deletes_files v files) ≡ p
    → reading_with v o p ≡ Some r → IsReading joined r
behind_tables joined r v rest files d menu are None t p k e = cc e
behind_tables joined r v rest files d menu are (Some tables) t None k e = cc e
behind_tables joined r v rest files d menu are (Some tables) t (Some deleted) k e =
    let same : ◌≡◌ {A = DepositReading} (record { envelope = v; tables = tables; deleted = deleted }) r = same_Some _ _ e in
    subst (IsReading joined) same (record { rest = rest; deposit = d; menu = menu; files = files; are = are; tables = t; deleted = k })

behind_files : (joined : List ℕ) (r : DepositReading) (v : Env) (rest : List ℕ) → IsDeposit joined v rest → HasMenu v → (o : Option (List (List ℕ))) → files_behind (all_entries v) rest ≡ o
    → reading_with v (with_tables v o).tables (with_tables v o).deleted ≡ Some r → IsReading joined r
behind_files joined r v rest d menu None f e = cc e
behind_files joined r v rest d menu (Some files) f e =
    behind_tables joined r v rest files d menu (files_found (all_entries v) rest files f) (tables_at v.contents (contents_files v files)) refl (deleted_keys_at (deletes_of v) (deletes_files v files)) refl e

behind_menu : (joined : List ℕ) (r : DepositReading) (v : Env) (rest : List ℕ) → IsDeposit joined v rest → (b : Bool) → has_menu v ≡ b
    → cond b (reading_with v (files_reading_at v rest).tables (files_reading_at v rest).deleted) None ≡ Some r → IsReading joined r
behind_menu joined r v rest d true menu e = behind_files joined r v rest d ((menu_decides v).0 menu) (files_behind (all_entries v) rest) refl e
behind_menu joined r v rest d false menu e = cc e

module _ (readers : AreReaders) where
  behind_envelope : (joined : List ℕ) (r : DepositReading) (envelope rest : List ℕ) → frame_at joined ≡ Some (envelope, rest) → (o : Option Env) → envelope_at envelope ≡ o → option_and_then (reading_behind rest) o ≡ Some r → IsReading joined r
  behind_envelope joined r envelope rest f None v e = cc e
  behind_envelope joined r envelope rest f (Some v) is e =
      let spelled = (readers.envelope_read envelope v).0 is in
      let framed = (readers.frame_read joined envelope rest).0 f in
      behind_menu joined r v rest (record { in_form = spelled.0; framed = rw spelled.1 at framed }) (has_menu v) refl e

  behind_frame : (joined : List ℕ) (r : DepositReading) (o : Option (List ℕ × List ℕ)) → frame_at joined ≡ o
      → option_and_then (λ (parts : List ℕ × List ℕ). option_and_then (reading_behind parts.1) (envelope_at parts.0)) o ≡ Some r → IsReading joined r
  behind_frame joined r None f e = cc e
  behind_frame joined r (Some parts) f e = behind_envelope joined r parts.0 parts.1 f (envelope_at parts.0) refl e

  pub reading_found : (joined : List ℕ) (r : DepositReading) → reading_at joined ≡ Some r → IsReading joined r
  unfolding reading_at
  reading_found joined r e = behind_frame joined r (frame_at joined) refl e

  pub reading_is : (joined : List ℕ) (r : DepositReading) → IsReading joined r → reading_at joined ≡ Some r
  unfolding reading_at
  reading_is joined r h =
      ap (λ (o : Option (List ℕ × List ℕ)). option_and_then (λ (parts : List ℕ × List ℕ). option_and_then (reading_behind parts.1) (envelope_at parts.0)) o) ((readers.frame_read joined (env_text r.envelope) h.rest).1 h.deposit.framed)
      ∙ ap (option_and_then (reading_behind h.rest)) ((readers.envelope_read (env_text r.envelope) r.envelope).1 (h.deposit.in_form, refl))
      ∙ ap (λ (b : Bool). cond b (reading_with r.envelope (files_reading_at r.envelope h.rest).tables (files_reading_at r.envelope h.rest).deleted) None) ((menu_decides r.envelope).1 h.menu)
      ∙ ap (λ (o : Option (List (List ℕ))). reading_with r.envelope (with_tables r.envelope o).tables (with_tables r.envelope o).deleted) (files_are (all_entries r.envelope) h.rest h.files h.are)
      ∙ (λ i. reading_with r.envelope (h.tables i) (h.deleted i))

  pub reading_none : (joined : List ℕ) → ((r : DepositReading) → IsReading joined r → ⊥) → reading_at joined ≡ None
  reading_none joined none = by (reading_at joined) refl
    where
      by : (o : Option DepositReading) → reading_at joined ≡ o → o ≡ None
      by None e = refl
      by (Some r) e = absurd (none r (reading_found joined r e))

pub reading_from : IsTableReader → (joined : List ℕ) (v : Env) (rest : List ℕ) (tables : List (List (List (List ℕ)))) (deleted : List (List (List ℕ))) → IsDeposit joined v rest → HasMenu v → AreReadFrom v rest tables deleted
    → IsReading joined (reading_of v tables deleted)
reading_from reader joined v rest tables deleted d menu from = record {
  rest = rest;
  deposit = d;
  menu = menu;
  files = from.files;
  are = from.are;
  tables = tables_are reader v rest from.files tables from.are from.tables_read;
  deleted = deleted_are reader v rest from.files deleted from.are from.deleted_read;
}

-- ---- there is one way to read a deposit

pub contained_in : OneReading → (joined : List ℕ) (v : Env) (rest : List ℕ) → IsDeposit joined v rest → (name : TableName) (key : List ℕ) → DepositContains joined name key ↔ IsContained v rest name key
contained_in one joined v rest d name key = in_envelope one joined v rest d (λ w more. IsContained w more name key)

pub named_in : OneReading → (joined : List ℕ) (v : Env) (rest : List ℕ) → IsDeposit joined v rest → (name : TableName) (key : List ℕ) → DepositNames joined name key ↔ IsNamed v rest name key
named_in one joined v rest d name key = in_envelope one joined v rest d (λ w more. IsNamed w more name key)

module _ (reader : IsTableReader) where
  pub is_read : (joined : List ℕ) (r : DepositReading) (h : IsReading joined r) → IsRead r.envelope h.rest
  is_read joined r h = record {
    menu = h.menu;
    tables = (table_decides reader r.envelope h.rest h.files h.are).0 (ap is_some h.tables);
    deletes = deletes_there reader r.envelope h.rest h.files h.menu h.are (ap is_some h.deleted);
  }

  -- whatever is read has a reading
  has_reading : (joined : List ℕ) (v : Env) (rest : List ℕ) → IsDeposit joined v rest → IsRead v rest → (r : DepositReading) × IsReading joined r × (r.envelope ≡ v)
  has_reading joined v rest d read =
      let files = read.tables.0 in
      let are = read.tables.1 in
      let tables = some_of (tables_at v.contents (contents_files v files)) ((table_decides reader v rest files are).1 read.tables) in
      let deleted = some_of (deleted_keys_at (deletes_of v) (deletes_files v files)) (deletes_some reader v rest files read.menu are read.deletes) in
      (record { envelope = v; tables = tables.0; deleted = deleted.0 }, record { rest = rest; deposit = d; menu = read.menu; files = files; are = are; tables = tables.1; deleted = deleted.1 }, refl)

-- ---- the keys after one deposit

-- the tables that are counted
in_after : (base : Base) (r : DepositReading) (name : TableName) → IsTrue (has_deletes name) → keys_in (base_after base r) name ≡ keys_after_files r.envelope (keys_in base name) r.tables r.deleted name
in_after base r Domain h = refl
in_after base r _ h = cc h

like_keys : (P Q : List ℕ → Type 0) (keys : List (List ℕ)) → ((key : List ℕ) → P key ↔ Q key) → AreKeys P keys → AreKeys Q keys
like_keys P Q keys is are = record { once = are.once; same = λ key. (λ has. (is key).0 ((are.same key).0 has), λ q. (are.same key).1 ((is key).1 q)) }

module _ (reader : IsTableReader) (one : OneReading) (joined : List ℕ) (r : DepositReading) (h : IsReading joined r) where
  after_keys : (base : Base) (name : TableName) → IsTrue (has_deletes name) → AllPairs (λ x y. x ≢ y) (keys_in base name)
      → AreKeys (λ key. DepositContains joined name key ⊎ (Contains (keys_in base name) key × ¬ DepositNames joined name key)) (keys_in (base_after base r) name)
  after_keys base name keyed once =
      let v = r.envelope in
      let inside = column 0 (rows_under v.contents r.tables name) in
      let outside = column 0 (rows_under (deletes_of v) r.deleted name) in
      let distinct = after_distinct (keys_in base name) inside (inside ++ outside) once (under_once reader name keyed v.contents (contents_files v h.files) r.tables h.tables) (λ text has. Contains-append_left inside outside text has) in
      let contained = contained_in one joined v h.rest h.deposit name in
      let named = named_in one joined v h.rest h.deposit name in
      let is = after_is reader v h.rest h.files h.menu h.are r.tables r.deleted h.tables h.deleted (keys_in base name) name in
      rw (in_after base r name keyed) (record {
        once = AllPairs-from_IsDistinct bytes_eq-Decides _ distinct;
        same = λ key. (
          λ has. elim ((is key).0 has) [ inl c ↦ inl ((contained key).1 c) | inr b ↦ inr (b.0, λ n. b.1 ((named key).0 n)) ],
          λ some. (is key).1 (elim some [ inl c ↦ inl ((contained key).0 c) | inr b ↦ inr (b.0, λ n. b.1 ((named key).1 n)) ]),
        );
      })

-- ---- chains

none_once : (name : TableName) → AllPairs (λ x y. x ≢ y) (keys_in no_keys name)
none_once Domain = λ i j d below inside. absurd (omega (arith, inside))
none_once _ = λ i j d below inside. absurd (omega (arith, inside))

none_there : (name : TableName) (key : List ℕ) → Contains (keys_in no_keys name) key → ⊥
none_there Domain key has = absurd (omega (arith, has.1))
none_there _ key has = absurd (omega (arith, has.1))

chain_more : (chain : List (List ℕ)) (joined : List ℕ) → IsChain chain → IsLaterOfChain joined → IsChain (chain ++ joined ∷ [])
chain_more [] joined is later = absurd is
chain_more (first ∷ rest) joined is later = (is.0, All-push IsLaterOfChain rest joined is.1 later)

-- the keys after a later deposit, and none where it is not one
abbrev IsThen : List ℕ → Base → Option Base → Type 0
IsThen joined base o =
    MatchOption o (¬ IsLaterOfChain joined) (λ next. IsLaterOfChain joined × ((chain : List (List ℕ)) → IsBase chain base → IsBase (chain ++ joined ∷ []) next))

module _ (readers : AreReaders) (reader : IsTableReader) (one : OneReading) (joined : List ℕ) where
  first_base : (r : DepositReading) → IsReading joined r → r.envelope.kind ≡ Full → IsBase (joined ∷ []) (base_after no_keys r)
  first_base r h full = record {
    chained = ((r.envelope, h.rest, h.deposit, (full, is_read reader joined r h)), All-nil IsLaterOfChain);
    keys = λ name keyed.
        like_keys (λ key. DepositContains joined name key ⊎ (Contains (keys_in no_keys name) key × ¬ DepositNames joined name key)) (IsKeyOf (joined ∷ []) name) _
        (λ key. (
          λ some. (chain_keys.one joined name key).1 (elim some [ inl c ↦ c | inr b ↦ absurd (none_there name key b.0) ]),
          λ k. inl ((chain_keys.one joined name key).0 k),
        ))
        (after_keys reader one joined r h no_keys name keyed (none_once name));
  }

  later_base : (r : DepositReading) → IsReading joined r → r.envelope.kind ≢ Full → (chain : List (List ℕ)) (base : Base) → IsBase chain base → IsBase (chain ++ joined ∷ []) (base_after base r)
  later_base r h partial chain base is = record {
    chained = chain_more chain joined is.chained (r.envelope, h.rest, h.deposit, (partial, is_read reader joined r h));
    keys = λ name keyed.
        let are = is.keys name keyed in
        like_keys (λ key. DepositContains joined name key ⊎ (Contains (keys_in base name) key × ¬ DepositNames joined name key)) (IsKeyOf (chain ++ joined ∷ []) name) _
        (λ key. (
          λ some. (chain_keys.more chain joined name key).1 (elim some [ inl c ↦ inl c | inr b ↦ inr ((are.same key).0 b.0, b.1) ]),
          λ k. elim ((chain_keys.more chain joined name key).0 k) [ inl c ↦ inl c | inr b ↦ inr ((are.same key).1 b.0, b.1) ],
        ))
        (after_keys reader one joined r h base name keyed are.once);
  }

  -- the keys of a first deposit
  pub first_law : MatchOption (base_of_first joined) (¬ IsFirstOfChain joined) (IsBase (joined ∷ []))
  first_law = by (reading_at joined) refl
    where
      by_kind : (r : DepositReading) → reading_at joined ≡ Some r → (b : Bool) → is_full r.envelope.kind ≡ b → MatchOption (cond b (Some (base_after no_keys r)) None) (¬ IsFirstOfChain joined) (IsBase (joined ∷ []))
      by_kind r at true full = first_base r (reading_found readers joined r at) ((same_kind_decides r.envelope.kind Full).0 full)
      by_kind r at false partial = λ first.
          let h = reading_found readers joined r at in
          let same = one_envelope one joined r.envelope first.0 h.rest first.1 h.deposit first.2 in
          not_from_Decides _ (same_kind_decides r.envelope.kind Full) partial (ap (λ (v : Env). v.kind) (sym same.0) ∙ first.3.0)

      by : (o : Option DepositReading) → reading_at joined ≡ o → MatchOption (option_and_then after_first o) (¬ IsFirstOfChain joined) (IsBase (joined ∷ []))
      by None at = λ first.
          let there = has_reading reader joined first.0 first.1 first.2 first.3.1 in
          let clash : ◌≡◌ {A = Option DepositReading} (Some there.0) None = sym (reading_is readers joined there.0 there.1) ∙ at in cc clash
      by (Some r) at = by_kind r at (is_full r.envelope.kind) refl

  -- and after a later one
  pub later_law : (base : Base) → IsThen joined base (base_then base joined)
  later_law base = by (reading_at joined) refl
    where
      by_kind : (r : DepositReading) → reading_at joined ≡ Some r → (b : Bool) → is_full r.envelope.kind ≡ b → IsThen joined base (cond b None (Some (base_after base r)))
      by_kind r at true full = λ later.
          let h = reading_found readers joined r at in
          let same = one_envelope one joined r.envelope later.0 h.rest later.1 h.deposit later.2 in
          later.3.0 (ap (λ (v : Env). v.kind) same.0 ∙ (same_kind_decides r.envelope.kind Full).0 full)
      by_kind r at false partial =
          let h = reading_found readers joined r at in
          let other = not_from_Decides _ (same_kind_decides r.envelope.kind Full) partial in
          ((r.envelope, h.rest, h.deposit, (other, is_read reader joined r h)), λ chain is. later_base r h other chain base is)

      by : (o : Option DepositReading) → reading_at joined ≡ o → IsThen joined base (option_and_then (after_later base) o)
      by None at = λ later.
          let there = has_reading reader joined later.0 later.1 later.2 later.3.1 in
          let clash : ◌≡◌ {A = Option DepositReading} (Some there.0) None = sym (reading_is readers joined there.0 there.1) ∙ at in cc clash
      by (Some r) at = by_kind r at (is_full r.envelope.kind) refl

  -- what the code says of it
  pub then_law : (base next : Base) (is : Bool) → cond is (Some next) None ≡ base_then base joined
      → (IsTrue is ↔ IsLaterOfChain joined) × (IsTrue is → (chain : List (List ℕ)) → IsBase chain base → IsBase (chain ++ joined ∷ []) next)
  then_law base next is e =
      answered (IsLaterOfChain joined) (λ after. (chain : List (List ℕ)) → IsBase chain base → IsBase (chain ++ joined ∷ []) after) (base_then base joined) next is (later_law base) e

pub at_one : (joined : List ℕ) → base_at (joined ∷ []) ≡ base_of_first joined
unfolding base_at
at_one joined = refl

-- ---- the keys of a whole chain

chain_front : (first : List ℕ) (xs : List (List ℕ)) (joined : List ℕ) → IsChain (first ∷ (xs ++ joined ∷ [])) → IsChain (first ∷ xs) × IsLaterOfChain joined
chain_front first xs joined is = ((is.0, all_front IsLaterOfChain xs joined is.1), all_last IsLaterOfChain xs joined is.1)

module _ (readers : AreReaders) (reader : IsTableReader) (one : OneReading) where
  next_some : (chain : List (List ℕ)) (joined : List ℕ) (found : Option Base) → ((b : Base) → found ≡ Some b → IsBase chain b)
      → (b : Base) → option_and_then (λ (base : Base). base_then base joined) found ≡ Some b → IsBase (chain ++ joined ∷ []) b
  next_some chain joined None ok b e = cc e
  next_some chain joined (Some base) ok b e =
      let law = subst (IsThen joined base) e (later_law readers reader one joined base) in
      law.1 chain (ok base refl)

  all_some : (later : List (List ℕ)) (chain : List (List ℕ)) (found : Option Base) → ((b : Base) → found ≡ Some b → IsBase chain b) → (base : Base) → all_then found later ≡ Some base → IsBase (chain ++ later) base
  all_some [] chain found ok base e = subst (λ (c : List (List ℕ)). IsBase c base) (sym (append-nil chain)) (ok base e)
  all_some (joined ∷ rest) chain found ok base e =
      subst (λ (c : List (List ℕ)). IsBase c base) (append_assoc chain (joined ∷ []) rest)
      (all_some rest (chain ++ joined ∷ []) (option_and_then (λ (b : Base). base_then b joined) found) (next_some chain joined found ok) base e)

  next_none : (first : List ℕ) (xs : List (List ℕ)) (joined : List ℕ) (found : Option Base) → (found ≡ None → ¬ IsChain (first ∷ xs))
      → option_and_then (λ (base : Base). base_then base joined) found ≡ None → ¬ IsChain (first ∷ (xs ++ joined ∷ []))
  next_none first xs joined None without e = λ is. without refl (chain_front first xs joined is).0
  next_none first xs joined (Some base) without e =
      let law = subst (IsThen joined base) e (later_law readers reader one joined base) in
      λ is. law (chain_front first xs joined is).1

  all_none : (later : List (List ℕ)) (first : List ℕ) (xs : List (List ℕ)) (found : Option Base) → (found ≡ None → ¬ IsChain (first ∷ xs)) → all_then found later ≡ None → ¬ IsChain (first ∷ (xs ++ later))
  all_none [] first xs found without e = λ is. without e (subst (λ (c : List (List ℕ)). IsChain (first ∷ c)) (append-nil xs) is)
  all_none (joined ∷ rest) first xs found without e = λ is.
      all_none rest first (xs ++ joined ∷ []) (option_and_then (λ (b : Base). base_then b joined) found) (next_none first xs joined found without) e
      (subst (λ (c : List (List ℕ)). IsChain (first ∷ c)) (sym (append_assoc xs (joined ∷ []) rest)) is)

  bases_some : (chain : List (List ℕ)) (base : Base) → base_at chain ≡ Some base → IsBase chain base
  unfolding base_at
  bases_some [] base e = cc e
  bases_some (first ∷ later) base e =
      all_some later (first ∷ []) (base_of_first first)
      (λ b is. subst (λ (o : Option Base). MatchOption o (¬ IsFirstOfChain first) (IsBase (first ∷ []))) is (first_law readers reader one first)) base e

  bases_none : (chain : List (List ℕ)) → base_at chain ≡ None → ¬ IsChain chain
  unfolding base_at
  bases_none [] e = λ is. is
  bases_none (first ∷ later) e =
      all_none later first [] (base_of_first first)
      (λ is chained. subst (λ (o : Option Base). MatchOption o (¬ IsFirstOfChain first) (IsBase (first ∷ []))) is (first_law readers reader one first) chained.0) e

  pub are_bases : AreBases
  are_bases = record { some = bases_some; none = bases_none }
