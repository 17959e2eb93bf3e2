use Rattle.std.proofs.Common.{◌≡◌, ◌⊎◌, inl, inr, refl, pos, true, false, ◌<◌, ◌^◌, ◌*◌, sym, ◌∙◌, ap, subst, arith}
use Rattle.vault_volume.specs.Head.{head_of}
use Rattle.vault_volume.specs.Vault.{volume_of, IsFree}
use Rattle.sqlite.specs.Held.{state}
use Rattle.custody_records.specs.Records.{Records, new_records}
use Rattle.custody_records.specs.Rows.{initial_rows}
use Rattle.custody_records.specs.RowsOfRecords.{digits_of}
use Rattle.custody_store.specs.StoreState.{store_state}
use Rattle.custody_machine.specs.declared.answers.Failure.TheVariants as failure
use Rattle.custody_machine.specs.StoredState.{AreWhole}
use Rattle.custody_machine.specs.Custody.{IsInStore}
use Rattle.custody.specs.declared.answers.InitError.TheVariants as init_error
use Rattle.custody.specs.OpenCustody.{current_records, image_of}
use Rattle.custody.specs.Opening.{HasAllTablesOrNone, IsVolumeSize}
use Rattle.custody.proofs.Opened.{none_left, still_none, none_all, bare_still, meta_or_none, new_whole, new_begun, begun_left, on_volume, fresh_in_store, no_memory, none_made}
use Rattle.custody.proofs.custody.Custody.init.Goals as goal

-- ---- it is refused, or the database was not read, or a table is there

pub returns-in-Err-clause-not_begun : goal.returns-in-Err-clause-not_begun
returns-in-Err-clause-not_begun g c = record {
  size = λ same fits. c.in-Err.ensures.size same (subst IsVolumeSize (sym c.size-blocks.ensures) fits);
  failures = record { failed = λ same. let other = c.in-Err.ensures.kind failure.VolumeFailed same in cc; not_failed = λ _. refl };
  kind = λ why same. inr (inr (c.in-Err.ensures.kind why same));
  unwritten = λ _. refl;
  tables = λ _. refl;
  all = λ _. refl;
  same_size = refl;
  missing = λ _. c.in-Err.ensures.missing;
  mode = c.in-Err.ensures.reads.mode;
  trust = c.in-Err.ensures.reads.trust;
}

pub returns-in-Err-clause-leaves : goal.returns-in-Err-clause-leaves
returns-in-Err-clause-leaves g c honest =
    none_made g.V.Volume g.S.Store c.args.volume c.args.db c.args.number _ c.args.volume c.may_begin.new.db _ c.in-Err.ensures.reads honest
    (λ either. (c.in-Err.ensures.rows honest either).taken) (λ either. (c.in-Err.ensures.rows honest either).not_taken)

pub returns-in-Err-clause-within : goal.returns-in-Err-clause-within
returns-in-Err-clause-within g c rest none rows image left = still_none (state g.S.Store c.args.db) rest none rows left

-- ---- there is no memory, block 0 was not written, or the tables were not made

pub returns-in-Err-make_records-clause-not_begun : goal.returns-in-Err-make_records-clause-not_begun
returns-in-Err-make_records-clause-not_begun g c =
    let made = c.in-Err-make_records.ensures in
    let over = ap (store_state g.S.Store) c.over-store.ensures in
    let at = ap (store_state g.S.Store) c.into_inner.ensures in
    let none = sym c.in_default.ensures.tables in
    record {
      size = λ same. cc;
      failures = record { failed = λ same. made.failures.failed (cc); not_failed = λ other. made.failures.not_failed (λ same. other (ap init_error.Failure same)) };
      kind = λ why same. let is : c.in-Err-make_records.failure ≡ why = cc in subst (λ f. (f ≡ failure.NoMemory) ⊎ ((f ≡ failure.VolumeFailed) ⊎ (f ≡ failure.StoreFailed))) is made.kind;
      unwritten = λ un. (made.unwritten (no_memory _ un)).0;
      tables = λ some. let clash : false ≡ true = none ∙ some in cc;
      all = λ all. absurd (none_all (state g.S.Store c.args.db) none all);
      same_size = made.size;
      missing = λ some _. let clash : false ≡ true = none ∙ some in cc;
      mode = λ closed. ap (λ s. s.in_transaction) at ∙ made.founds.mode (ap (λ s. s.in_transaction) over ∙ c.in_default.ensures.reads.mode closed);
      trust = λ honest. c.in_default.ensures.reads.trust (subst (λ s. s.IsHonest) over (made.founds.trust (subst (λ s. s.IsHonest) at honest)));
    }

pub returns-in-Err-make_records-clause-leaves : goal.returns-in-Err-make_records-clause-leaves
returns-in-Err-make_records-clause-leaves g c honest =
    let made = c.in-Err-make_records.ensures in
    let at = c.into_inner.ensures in
    let clean = subst (λ db. (store_state g.S.Store db).IsHonest) at honest in
    let bare = λ (either : HasAllTablesOrNone (store_state g.S.Store c.args.db)). bare_still g.S.Store c.args.db c.may_begin.new.db c.over-store.result _ c.in_default.ensures.reads c.over-store.ensures c.in_default.ensures.tables either (made.founds.trust clean) in
    record {
      taken = λ _ same none. cc;
      not_taken = λ _ same. cc;
      untouched = λ some. let clash : false ≡ true = sym c.in_default.ensures.tables ∙ some in cc;
      unwritten = λ un rows left.
          let same = at ∙ (made.unwritten (no_memory _ un)).1 ∙ c.over-store.ensures in
          c.in_default.ensures.reads.commits_nothing (subst (λ db. (store_state g.S.Store db).IsHonest) same honest) rows (subst (λ db. (store_state g.S.Store db).may_leave rows) same left);
      rows = λ either none rows left.
          elim ((made.founds.effect clean (bare either)).left rows (subst (λ db. (store_state g.S.Store db).may_leave rows) at left)) [
            | inl old ↦ inl (none_left (state g.S.Store c.over-store.result) (bare either) rows old)
            | inr new ↦ inr (new ∙ ap (λ n. initial_rows (digits_of c.args.number) (pos n)) c.size-blocks.ensures)
          ];
      fails = λ tells either none rows image left there. made.at_exit tells clean (bare either) rows image (subst (λ db. (store_state g.S.Store db).may_leave rows) at left) there;
    }

pub returns-in-Err-make_records-clause-within : goal.returns-in-Err-make_records-clause-within
returns-in-Err-make_records-clause-within g c rest none rows image left = still_none (state g.S.Store c.args.db) rest none rows left

-- ---- it is begun

pub open_custody_over-requires-clause-whole : goal.open_custody_over-requires-clause-whole
open_custody_over-requires-clause-whole g c = subst AreWhole (sym c.in-Ok.ensures.records) (new_whole c.args.number c.size-blocks.result)

pub returns-in-Ok-clause-new : goal.returns-in-Ok-clause-new
returns-in-Ok-clause-new g c =
    let made = c.in-Ok.ensures in
    let over = ap (store_state g.S.Store) c.over-store.ensures in
    let at = ap (store_state g.S.Store) c.open_custody_over.ensures.store in
    let is = c.open_custody_over.ensures.records ∙ made.records in
    record {
      opened = refl;
      records = is ∙ ap (new_records c.args.number) c.size-blocks.ensures;
      begun = new_begun c.args.number c.size-blocks.result (current_records c.open_custody_over.result) (image_of c.open_custody_over.result) is;
      size = subst IsVolumeSize c.size-blocks.ensures c.in_default.ensures.size;
      failures = ap g.V.Volume.failures c.open_custody_over.ensures.volume ∙ made.failures;
      tables = c.in_default.ensures.tables;
      not_all = none_all (state g.S.Store c.args.db) (sym c.in_default.ensures.tables);
      mode = λ closed. ap (λ s. s.in_transaction) at ∙ made.founds.mode (ap (λ s. s.in_transaction) over ∙ c.in_default.ensures.reads.mode closed);
      trust = λ honest. c.in_default.ensures.reads.trust (subst (λ s. s.IsHonest) over (made.founds.trust (subst (λ s. s.IsHonest) at honest)));
    }

pub returns-in-Ok-clause-kept : goal.returns-in-Ok-clause-kept
returns-in-Ok-clause-kept g c =
    let made = c.in-Ok.ensures in
    let volume = c.make_records.new.volume in
    let at = c.open_custody_over.ensures.store in
    let over = ap (store_state g.S.Store) c.over-store.ensures in
    let is : current_records c.open_custody_over.result ≡ new_records c.args.number c.size-blocks.result = c.open_custody_over.ensures.records ∙ made.records in
    let fits : c.args.number < 2 ^ 64 = omega arith in
    let room = c.in_default.ensures.size in
    let size : g.V.Volume.size volume ≡ c.size-blocks.result = made.size ∙ sym c.size-blocks.ensures in
    record {
      image = λ tells.
          on_volume g.V.Volume.image g.V.Volume.moment g.V.Volume.left_at (volume_of c.open_custody_over.result.vault) volume c.open_custody_over.ensures.volume (current_records c.open_custody_over.result) (IsFree c.open_custody_over.result.vault)
          (made.head tells ∙ ap (λ (r : Records). head_of r.number) (sym is)) (g.met.V.Volume.image_length volume tells ∙ ap (λ n. 4096 * n) (size ∙ ap (λ (r : Records). r.blocks) (sym is))) (λ i left. (made.settled tells i).0 left);
      rows = λ either honest.
          let clean = subst (λ db. (store_state g.S.Store db).IsHonest) at honest in
          let bare = bare_still g.S.Store c.args.db c.may_begin.new.db c.over-store.result _ c.in_default.ensures.reads c.over-store.ensures c.in_default.ensures.tables either (made.founds.trust clean) in
          subst (λ db. IsInStore (current_records c.open_custody_over.result) (store_state g.S.Store db).rows (store_state g.S.Store db).IsReady (store_state g.S.Store db).may_leave) (sym at)
          (fresh_in_store (store_state g.S.Store c.over-store.result) (state g.S.Store c.make_records.new.store) _ c.args.number c.size-blocks.result fits room made.founds clean bare (current_records c.open_custody_over.result) is);
      not_taken = λ either honest.
          c.in_default.ensures.rows (subst (λ s. s.IsHonest) over (made.founds.trust (subst (λ db. (store_state g.S.Store db).IsHonest) at honest))) (meta_or_none (state g.S.Store c.args.db) either);
      begins = λ tells either honest rows image left there.
          let clean = subst (λ db. (store_state g.S.Store db).IsHonest) at honest in
          let bare = bare_still g.S.Store c.args.db c.may_begin.new.db c.over-store.result _ c.in_default.ensures.reads c.over-store.ensures c.in_default.ensures.tables either (made.founds.trust clean) in
          let done = (made.founds.effect clean bare).done in
          begun_left c.args.number c.size-blocks.result (g.V.Volume.image volume) fits room (made.head tells) (g.met.V.Volume.image_length volume tells ∙ ap (λ n. 4096 * n) size) rows image
          (done.0.rest.only rows (subst (λ db. (store_state g.S.Store db).may_leave rows) at left) ∙ done.1)
          ((made.settled tells image).0 (subst (λ v. g.V.Volume.left_at v (g.V.Volume.moment v) image) c.open_custody_over.ensures.volume there));
    }

pub returns-in-Ok-clause-within : goal.returns-in-Ok-clause-within
returns-in-Ok-clause-within g c rest none rows image left = still_none (state g.S.Store c.args.db) rest none rows left
