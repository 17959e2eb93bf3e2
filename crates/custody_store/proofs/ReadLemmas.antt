-- Calls that only read, one after another; and which tables are there.
use Rattle.std.proofs.Common.{◌≡◌, ◌&&◌, ◌++◌, ℕ, List, [], Bool, true, false, codes, drop, Ok, Err, Result, OnOk, refl, sym, ap, ◌∙◌, append-nil}
use Rattle.std.specs.List.{list_any}
use Rattle.std.specs.Result.{IsErr}
use Rattle.std.proofs.lemmas.Bool.{false≢true}
use Rattle.sqlite.specs.Schema.{Schema}
use Rattle.sqlite.specs.State.{State}
use Rattle.sqlite.specs.Table.{Table}
use Rattle.sqlite_schema.specs.Names.{same_name}
use Rattle.custody_store.specs.Schema.{meta_schema, first_schema, record_schema}
use Rattle.custody_store.specs.Reading.{has_table}
use Rattle.custody_store.specs.StoreState.{StoreState, IsReady, HasSchemaAtRest, HasFirstTables, HasSchemaTablesFirst, SameTablesAndRows, as_store_state, has_all_tables, ChangesNothing}
use Rattle.custody_store.proofs.CommitLemmas.{stands_at}

pub on_ok : {A E : Type 0} (r : Result A E) {P : Type 0} → P → OnOk r P
on_ok (Ok x) p = p
on_ok (Err e) p = tt

-- no call was made
pub reads_none : {A E : Type 0} (s : State) (r : Result A E) → ChangesNothing (as_store_state s) (as_store_state s) r
reads_none s r = record {
  trust = λ honest. honest;
  mode = λ autocommit. autocommit;
  commits_nothing = λ _ rows h. h;
  same = λ _ rest _. stands_at s s rest refl;
  still_open = λ _ rest. on_ok r rest.is_open;
}

-- two calls, one after the other
pub stands_then : (a b c : StoreState) → SameTablesAndRows a b → SameTablesAndRows b c → SameTablesAndRows a c
stands_then a b c p q = record {
  rows = q.rows ∙ p.rows;
  schema = q.schema ∙ p.schema;
  rest = q.rest;
  ready = λ h. q.ready (p.ready h);
  earlier = λ h. q.earlier (p.earlier h);
  first_tables = λ h. q.first_tables (p.first_tables h);
  first_meta = λ h. q.first_meta (p.first_meta h);
  bare = λ h. q.bare (p.bare h);
}

-- what a call that answered left
pub still : {A E : Type 0} (a b : StoreState) (x : A) → ChangesNothing {E = E} a b (Ok x) → b.IsHonest → a.IsAtRest → SameTablesAndRows a b
still a b x p honest rest = p.same honest rest (p.still_open honest rest)

-- A call that reads, after one that answered.
pub reads_then : {A B E F : Type 0} (a b c : StoreState) (x : A) (r : Result B F) → ChangesNothing {E = E} a b (Ok x) → ChangesNothing b c r → ChangesNothing a c r
reads_then a b c x r p q = record {
  trust = λ honest. p.trust (q.trust honest);
  mode = λ autocommit. q.mode (p.mode autocommit);
  commits_nothing = λ honest rows h. p.commits_nothing (q.trust honest) rows (q.commits_nothing honest rows h);
  same = λ honest rest is_open. let first = still a b x p (q.trust honest) rest in stands_then a b c first (q.same honest first.rest is_open);
  still_open = λ honest rest. q.still_open honest (still a b x p (q.trust honest) rest).rest;
}

-- the same call, where another error is told
pub reads_fails : {A B E F : Type 0} (old new : StoreState) (r : Result A E) (f : F) → ChangesNothing old new r → ChangesNothing {A = B} old new (Err f)
reads_fails old new r f p = record { trust = p.trust; mode = p.mode; commits_nothing = p.commits_nothing; same = p.same; still_open = λ _ _. tt }

pub reads_err : {A B E F : Type 0} (old new : StoreState) (r : Result A E) (q : Result B F) → IsErr q → ChangesNothing old new r → ChangesNothing old new q
reads_err old new r (Ok y) is p = absurd (let e = is in cc)
reads_err old new r (Err f) is p = reads_fails old new r f p

-- or another value answered
pub reads_answers : {A B E F : Type 0} (old new : StoreState) (x : A) (r : Result B F) → ChangesNothing {E = E} old new (Ok x) → ChangesNothing old new r
reads_answers old new x r p = record { trust = p.trust; mode = p.mode; commits_nothing = p.commits_nothing; same = p.same; still_open = λ honest rest. on_ok r (p.still_open honest rest) }

-- ---- the tables

abbrev pub any_named : List ℕ → List Table → Bool
any_named name = list_any (λ t. same_name t.name name)

pub holds_apart : any_named (codes "hold") first_schema.tables ≡ false
unfolding same_name
holds_apart = refl

-- the tables of a schema are the first where there are no others
first_of : (schema : Schema) (s : State) → HasSchemaAtRest schema s → HasFirstTables schema.tables s
first_of schema s ready = record {
  rest = ready.rest;
  begins = ([], ap (λ (t : Schema). t.tables) ready.tables.schema_is ∙ sym (append-nil schema.tables));
  sound = ready.tables.sound;
  ordered = ready.tables.ordered;
}

-- the five are the first of the six
five_of_six : (s : State) → HasFirstTables record_schema.tables s → HasFirstTables first_schema.tables s
five_of_six s at = record {
  rest = at.rest;
  begins = (drop 5 record_schema.tables ++ at.begins.0, at.begins.1);
  sound = at.sound;
  ordered = let up = at.ordered in (up.0, (up.1.0, (up.1.1.0, (up.1.1.1.0, (up.1.1.1.1.0, tt)))));
}

pub first_of_ready : (s : State) → IsReady s → HasSchemaTablesFirst s
first_of_ready s ready =
    let six : HasFirstTables record_schema.tables s = record { rest = ready.rest; begins = ready.tables.begins; sound = ready.tables.sound; ordered = ready.tables.ordered } in
    (five_of_six s six, λ _. six)

-- where there is no table of holds, nothing is said of it
pub first_of_earlier : (s : State) → HasSchemaAtRest first_schema s → HasSchemaTablesFirst s
first_of_earlier s ready = (
  first_of first_schema s ready,
  λ there. absurd (false≢true (sym (ap (λ (t : Schema). any_named (codes "hold") t.tables) ready.tables.schema_is ∙ holds_apart) ∙ there)),
)

-- and meta is the first of the five
pub meta_of_first : (s : State) → HasSchemaTablesFirst s → HasFirstTables meta_schema.tables s
meta_of_first s h = let at = h.0 in record { rest = at.rest; begins = (drop 1 first_schema.tables ++ at.begins.0, at.begins.1); sound = at.sound; ordered = (at.ordered.0, tt) }

has_meta : (others : List Table) → any_named (codes "meta") (meta_schema.tables ++ others) ≡ true
unfolding same_name
has_meta others = refl

pub meta_there : (s : State) → HasFirstTables meta_schema.tables s → has_table (codes "meta") s.now.schema ≡ true
meta_there s at = ap (any_named (codes "meta")) at.begins.1 ∙ has_meta at.begins.0

abbrev all_named : List Table → Bool
all_named tables = any_named (codes "meta") tables && any_named (codes "registry") tables && any_named (codes "part") tables && any_named (codes "notice") tables && any_named (codes "handover") tables

has_all_five : (others : List Table) → all_named (first_schema.tables ++ others) ≡ true
unfolding same_name
has_all_five others = refl

pub all_there : (s : State) → HasSchemaTablesFirst s → has_all_tables (as_store_state s) ≡ true
all_there s at = ap all_named at.0.begins.1 ∙ has_all_five at.0.begins.0
