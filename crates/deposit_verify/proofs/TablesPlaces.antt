-- The first wrong count and the first missing key of a deposit, from what was read of it.
use Rattle.std.proofs.Common.{◌≡◌, ◌≢◌, ℕ, List, Option, Some, None, map, refl, subst, sym}
use Rattle.std.specs.Option.{IsSomeAnd}
use Rattle.std.specs.Set.{distinct_count}
use Rattle.std.specs.Str.{bytes_eq}
use Rattle.std.proofs.lemmas.Bool.Decides.{Decides-eqb}
use Rattle.deposit_name.specs.declared.kinds.Kind.TheVariants.{Full}
use Rattle.deposit_name.specs.declared.table.TableName.{TableName}
use Rattle.deposit_name.specs.declared.table.TableName.TheVariants.{Domain, Host, Contact, Registrar}
use Rattle.dnrd_csv.specs.Readers.{IsTableReader}
use Rattle.dnrd_csv.specs.Text.{key_rows}
use Rattle.envelope.specs.Envelope.{Env}
use Rattle.deposit_verify.specs.declared.base.Base.{Base}
use Rattle.deposit_verify.specs.declared.tables_reason.TablesReason.TheVariants as reason
use Rattle.deposit_verify.specs.declared.tables_reason.TablesReason.{TablesReason}
use Rattle.deposit_verify.specs.declared.tables_reason.WrongCount.{WrongCount}
use Rattle.deposit_verify.specs.Checks.{HasMenu, HasTables}
use Rattle.deposit_verify.specs.Keys.{IsKeyAfter, IsNumberOf, keys_in}
use Rattle.deposit_verify.specs.Known.{Known}
use Rattle.deposit_verify.specs.Tables.{AreReadFrom, table_of}
use Rattle.deposit_verify.specs.TablesReasons.{AreKeyNumbers, IsFirstWrong, IsTablesPlace, IsWrongCount, IsWrongKeyCount, said_counts}
use Rattle.deposit_verify.specs.Verdict.{key_numbers, keys_after_files}
use Rattle.deposit_verify.specs.inside.Reasons.{IsTablesReason}
use Rattle.deposit_verify.proofs.CountsDecided.{after_is, was_read}
use Rattle.deposit_verify.proofs.Judged.{under_names}
use Rattle.deposit_verify.proofs.KeyCounts.{number_decides}
use Rattle.deposit_verify.proofs.Readings.{deleted_are, tables_are}

module _ (reader : IsTableReader) (v : Env) (rest : List ℕ) (k : Known) (tables : List (List (List (List ℕ)))) (deleted : List (List (List ℕ))) (menu : HasMenu v) (from : AreReadFrom v rest tables deleted) where
  -- a full deposit has these tables
  with_tables : (P : (TableName → List (List (List ℕ))) → Type 0) → v.kind ≡ Full → P (table_of tables) → HasTables v rest P
  with_tables P full holds = (from.files, from.are, (table_of tables, under_names v rest from.files tables (was_read reader v rest k tables deleted menu from) full, holds))

  pub full_place : (why : TablesReason) → v.kind ≡ Full → IsTablesReason v.count (table_of tables) why → IsTablesPlace v rest k why
  full_place (reason.Count wrong) full is = record { of_full = λ _. with_tables _ full is; of_others = λ partial. absurd (partial full) }
  full_place (reason.Reference missing) full is = (full, with_tables _ full is)

  number_right : (base : Base) (name : TableName) → IsNumberOf (IsKeyAfter v rest (keys_in base name) name) (distinct_count bytes_eq (keys_after_files v (keys_in base name) tables (map key_rows deleted) name))
  number_right base name =
      let keys = keys_after_files v (keys_in base name) tables (map key_rows deleted) name in
      (number_decides (IsKeyAfter v rest (keys_in base name) name) keys (distinct_count bytes_eq keys)
      (after_is reader v rest from.files menu from.are tables (map key_rows deleted) (tables_are reader v rest from.files tables from.are from.tables_read)
      (deleted_are reader v rest from.files deleted from.are from.deleted_read) (keys_in base name) name)).0
      ((Decides-eqb (distinct_count bytes_eq keys) (distinct_count bytes_eq keys)).1 refl)

  numbers_right : (base : Base) → AreKeyNumbers v rest base (key_numbers v base tables (map key_rows deleted))
  numbers_right base = (number_right base Contact, (number_right base Domain, (number_right base Host, (number_right base Registrar, tt))))

  pub chain_place : (wrong : WrongCount) (base : Option Base) → k.base ≡ base → v.kind ≢ Full
      → IsSomeAnd base (λ b. IsFirstWrong (key_numbers v b tables (map key_rows deleted)) (said_counts v.count) wrong) → IsWrongCount v rest k wrong
  chain_place wrong base same partial is = record {
    of_full = λ full. absurd (partial full);
    of_others = λ _. subst (λ (b : Option Base). IsSomeAnd b (λ b. IsWrongKeyCount v rest b wrong)) (sym same) (by base is);
  }
    where
      by : (base : Option Base) → IsSomeAnd base (λ b. IsFirstWrong (key_numbers v b tables (map key_rows deleted)) (said_counts v.count) wrong) → IsSomeAnd base (λ b. IsWrongKeyCount v rest b wrong)
      by None is = absurd is
      by (Some base) is = (key_numbers v base tables (map key_rows deleted), numbers_right base, is)
