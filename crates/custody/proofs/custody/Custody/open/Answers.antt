use Rattle.std.proofs.Common.{◌≡◌, inl, inr, refl, true, false, ℕ, ◌≤◌, arith, List, ◌*◌, sym, ◌∙◌, ap, subst}
use Rattle.vault_volume.specs.Head.{head_of}
use Rattle.vault_volume.specs.Image.{bytes_at}
use Rattle.vault_volume.specs.Vault.{volume_of, IsFree}
use Rattle.sqlite.specs.Held.{state}
use Rattle.custody_records.specs.Form.{form_of, InForm}
use Rattle.custody_records.specs.Records.{Records}
use Rattle.custody_store.specs.StoreState.{store_state}
use Rattle.custody_store.proofs.ReadLemmas.{reads_answers, reads_fails}
use Rattle.custody_machine.specs.declared.damage.Damage.TheVariants.{Schema, Digest}
use Rattle.custody_machine.specs.Damage.{NoDamageBefore, IsDamaged}
use Rattle.custody_machine.specs.StoredState.{AreWhole}
use Rattle.custody.specs.OpenCustody.{current_records}
use Rattle.custody.specs.Opening.{ReadsVolume}
use Rattle.custody.proofs.Opened.{bare_has_none, meta_where_known, stands_still, left_now, only_reads, on_volume, first_of_all}
use Rattle.custody.proofs.Migrated.{migrates_answers, migrates_fails, opens_nothing, opens_both, opens_trust, only_migrates, rows_of_all}
use Rattle.custody.proofs.custody.Custody.open.Goals as goal

-- ---- the volume was not found, or not that of the record, or a table is missing

pub returns-in-Err : goal.returns-in-Err
returns-in-Err g c =
    let of = c.in-Err.ensures in
    let is_earlier = c.has_earlier_tables-is_earlier.ensures in
    let opens = opens_nothing {B = ℕ} (state g.S.Store c.args.db) (store_state g.S.Store c.identify.new.db) _ c.has_earlier_tables-is_earlier.result c.in-Err.failure of.reads in
    record {
      opened = tt;
      loaded = tt;
      cause = record {
        failures = of.failures;
        not_closed = of.told.not_closed;
        no_digest = λ same. let low : 8 ≤ 4 = of.told.told Digest same in absurd (omega arith);
        tables = λ _ found same. of.told.told found same;
        missing = λ none. let is = of.missing none in (cc, is.1, is.2);
      };
      damaged = λ known honest. of.rows honest (meta_where_known (store_state g.S.Store c.args.db) known);
      reads = λ current. only_reads g.V.Volume g.S.Store c.args.volume c.args.db c.identify.new.volume c.identify.new.db _ of.volume (reads_fails _ _ _ _ (opens.reads (is_earlier ∙ current)));
      migrates = λ earlier. only_migrates g.V.Volume g.S.Store c.args.volume c.args.db c.identify.new.volume c.identify.new.db _ of.volume (migrates_fails _ _ _ _ (opens.migrates (is_earlier ∙ earlier)));
      unchanged = λ other. only_reads g.V.Volume g.S.Store c.args.volume c.args.db c.identify.new.volume c.identify.new.db _ of.volume (reads_fails _ _ _ _ (opens.unchanged other));
    }

-- ---- the rows are not whole, or the tables were not made those of schema 2

pub returns-in-Err-load_current : goal.returns-in-Err-load_current
returns-in-Err-load_current g c =
    let of = c.in-Err-load_current.ensures in
    let is_earlier = c.has_earlier_tables-is_earlier.ensures in
    let opens = opens_both g.S.Store c.args.db c.into_inner.result c.in-Ok.ensures.reads c.over-store.ensures of.opens c.into_inner.ensures in
    record {
      opened = tt;
      loaded = tt;
      cause = record {
        failures = record { failed = λ same. absurd (of.kind.0 same); not_failed = λ _. c.in-Ok.ensures.failures };
        not_closed = of.kind.1;
        no_digest = of.kind.2;
        tables = λ none found same. let clash : true ≡ false = sym c.in-Ok.ensures.tables ∙ none in cc;
        missing = λ none. let clash = (c.in-Ok.ensures.missing none).0 in cc;
      };
      damaged = λ known honest damage same.
          let s = store_state g.S.Store c.args.db in
          let clean = subst (λ db. (store_state g.S.Store db).IsHonest) c.into_inner.ensures honest in
          let over = ap (store_state g.S.Store) c.over-store.ensures in
          let then = opens_trust _ _ _ _ of.opens clean in
          let found = c.in-Ok.ensures.rows (subst (λ s. s.IsHonest) over then) (meta_where_known s known) in
          let image = g.V.Volume.image c.args.volume in
          elim known [
            | inl bare ↦ absurd (found.row (bare_has_none (state g.S.Store c.args.db) bare))
            | inr meta ↦
                let first = meta.1 c.in-Ok.ensures.tables in
                let still = stands_still s (store_state g.S.Store c.identify.new.db) (store_state g.S.Store c.over-store.result) _ c.in-Ok.ensures.reads over then first.0.rest in
                let wrong = of.rows clean (still.first_tables first) damage same in
                record {
                  is_first = λ tells. record {
                    is_true = subst (λ rows. IsDamaged damage rows image) still.rows (wrong.is_true image);
                    first = subst (λ rows. NoDamageBefore damage rows image) still.rows (wrong.first image (subst (λ rows. NoDamageBefore Schema rows image) (sym still.rows) (found.undamaged tells)));
                  };
                  not_before = λ _. found.row;
                  of_rows = λ _ _ any. subst (λ rows. IsDamaged damage rows any) still.rows (wrong.is_true any);
                }
          ];
      reads = λ current. only_reads g.V.Volume g.S.Store c.args.volume c.args.db c.identify.new.volume c.into_inner.result _ c.in-Ok.ensures.volume (reads_fails _ _ _ _ (opens.reads (is_earlier ∙ current)));
      migrates = λ earlier. only_migrates g.V.Volume g.S.Store c.args.volume c.args.db c.identify.new.volume c.into_inner.result _ c.in-Ok.ensures.volume (migrates_fails _ _ _ _ (opens.migrates (is_earlier ∙ earlier)));
      unchanged = λ other. only_reads g.V.Volume g.S.Store c.args.volume c.args.db c.identify.new.volume c.into_inner.result _ c.in-Ok.ensures.volume (reads_fails _ _ _ _ (opens.unchanged other));
    }

-- ---- it is opened

pub returns-in-Ok-load_current : goal.returns-in-Ok-load_current
returns-in-Ok-load_current g c =
    let volume = c.args.volume in
    let later = c.identify.new.volume in
    let opened = c.open_custody_over.result in
    let records = current_records opened in
    let is = sym c.open_custody_over.ensures.records in
    let at = c.open_custody_over.ensures.store in
    let of = c.in-Ok-load_current.ensures in
    let is_earlier = c.has_earlier_tables-is_earlier.ensures in
    let found = c.in-Ok.ensures.found in
    let same = c.in-Ok.ensures.volume.image in
    let number = sym of.whole.number_is ∙ ap (λ (r : Records). r.number) is in
    let blocks = sym found.blocks ∙ sym of.whole.blocks_is ∙ ap (λ (r : Records). r.blocks) is in
    let opens = opens_both g.S.Store c.args.db opened.store c.in-Ok.ensures.reads c.over-store.ensures of.opens at in
    let read = subst (ReadsVolume g.V.Volume volume) (sym c.open_custody_over.ensures.volume) c.in-Ok.ensures.volume in
    let in_form : (store_state g.S.Store c.args.db).HasSchemaTablesFirst → (store_state g.S.Store opened.store).IsHonest → form_of (store_state g.S.Store c.args.db).rows ≡ InForm records =
    λ first honest.
    let clean = subst (λ db. (store_state g.S.Store db).IsHonest) at honest in
    let still = stands_still (store_state g.S.Store c.args.db) (store_state g.S.Store c.identify.new.db) (store_state g.S.Store c.over-store.result) _ c.in-Ok.ensures.reads (ap (store_state g.S.Store) c.over-store.ensures)
    (opens_trust _ _ _ _ of.opens clean) first.0.rest in
    ap form_of (sym still.rows) ∙ of.rows clean (still.first_tables first) ∙ ap InForm is in
    record {
      opened = record { opened = refl; tables = c.in-Ok.ensures.tables; failures = ap g.V.Volume.failures c.open_custody_over.ensures.volume ∙ c.in-Ok.ensures.failures };
      loaded = record {
        in_form = in_form;
        good = λ tells. record {
          whole = subst AreWhole is of.whole.whole;
          volume = record { head = found.head tells ∙ ap head_of number; size = g.met.V.Volume.image_length volume tells ∙ ap (λ n. 4096 * n) blocks };
        };
        same_image = λ tells. ap g.V.Volume.image c.open_custody_over.ensures.volume ∙ same tells;
        image = λ tells one.
            on_volume g.V.Volume.image g.V.Volume.moment g.V.Volume.left_at (volume_of opened.vault) later c.open_custody_over.ensures.volume records (IsFree opened.vault)
            (ap (λ (i : List ℕ). bytes_at i 0 4096) (same tells) ∙ found.head tells ∙ ap head_of number)
            (g.met.V.Volume.image_length later tells ∙ ap (λ n. 4096 * n) (c.in-Ok.ensures.volume.size ∙ blocks))
            (λ i left. (one i).0 (left_now g.V.Volume.moment g.V.Volume.left_at volume later _ (c.in-Ok.ensures.volume.any_moment tells) i left) ∙ sym (same tells));
        rows = λ all honest. rows_of_all g.V.Volume g.S.Store volume c.args.db (volume_of opened.vault) opened.store _ c.has_earlier_tables-is_earlier.result is_earlier opens all honest records (in_form (first_of_all (state g.S.Store c.args.db) all) honest);
      };
      cause = tt;
      damaged = λ _. tt;
      reads = λ current. only_reads g.V.Volume g.S.Store volume c.args.db (volume_of opened.vault) opened.store _ read (reads_answers _ _ _ _ (opens.reads (is_earlier ∙ current)));
      migrates = λ earlier. only_migrates g.V.Volume g.S.Store volume c.args.db (volume_of opened.vault) opened.store _ read (migrates_answers _ _ _ _ (opens.migrates (is_earlier ∙ earlier)));
      unchanged = tt;
    }
