use Rattle.std.proofs.Common.{◌≡◌, ◌<◌, ◌^◌, inl, inr, pos, refl, subst, ◌∙◌, sym, ap, arith}
use Rattle.sqlite.specs.Held.{state}
use Rattle.custody_machine.specs.declared.damage.Damage.TheVariants.{NoRecord, Volume, Schema, Form}
use Rattle.custody_machine.specs.Damage.{NoDamageBefore}
use Rattle.custody_machine.proofs.Damages.{none_before_all}
use Rattle.custody_store.specs.StoreState.{store_state}
use Rattle.custody.specs.Opening.{IsReportedDamage}
use Rattle.custody.proofs.OpenCustodyLemmas.{err_is}
use Rattle.custody.proofs.Opened.{bare_has_none, other_volume}
use Rattle.custody.proofs.FirstDamage.{has_record, has_none, none_before_head, none_before_volume, none_before_schema, known_schema, unknown_schema, missing_told, row_missing}
use Rattle.custody.proofs.opening.identify.Goals as goal

-- there is no record
pub returns-in_default-clause-rows : goal.returns-in_default-clause-rows
returns-in_default-clause-rows g c honest either damage same =
    let rows = (store_state g.S.Store c.args.db.now).rows in
    let image = g.V.Volume.image c.args.volume.now in
    let is : NoRecord ≡ damage = cc in
    let none = has_none rows (rw c.in_default.is at (c.in_ok-meta.ensures.found honest either)) in
    subst (IsReportedDamage g.V.Volume.tells rows image) is (record {
      is_first = λ tells. record { is_true = none; first = none_before_all rows image };
      not_before = λ other. absurd (other refl);
      of_rows = λ _ _ any. none;
    })

-- block 0 was not read
pub returns-in_err-number-clause-rows : goal.returns-in_err-number-clause-rows
returns-in_err-number-clause-rows g c honest either =
    let rows = (store_state g.S.Store c.args.db.now).rows in
    let image = g.V.Volume.image c.args.volume.now in
    let found = rw c.in-Some.is at (c.in_ok-meta.ensures.found honest either) in
    rw (err_is _ c.in_err-number.field-0.0 c.from_residual-in_err-number.ensures.1)
    (λ damage same. let is = c.in_err-number.ensures.kind damage same in record {
      is_first = λ tells. record {
        is_true = c.in_err-number.ensures.damaged tells damage same rows;
        first = subst (λ damage. NoDamageBefore damage rows image) (sym is) (none_before_head rows c.in-Some.meta image found);
      };
      not_before = λ _. has_record rows c.in-Some.meta found;
      of_rows = λ not_head _ any. absurd (not_head is);
    })

-- it is another volume
pub returns-then-not-is_of-clause-rows : goal.returns-then-not-is_of-clause-rows
returns-then-not-is_of-clause-rows g c honest either damage same =
    let volume = c.args.volume.now in
    let image = g.V.Volume.image volume in
    let rows = (store_state g.S.Store c.args.db.now).rows in
    let is : Volume ≡ damage = cc in
    let fits : c.in_ok-number.number < 2 ^ 64 = omega arith in
    let size : c.size-blocks.result ≡ g.V.Volume.size volume = c.size-blocks.ensures ∙ c.in_ok-number.ensures.reads.size in
    let found = rw c.in-Some.is at (c.in_ok-meta.ensures.found honest either) in
    subst (IsReportedDamage g.V.Volume.tells rows image) is (record {
      is_first = λ tells. let head = c.in_ok-number.ensures.head tells in record {
        is_true = other_volume rows c.in-Some.meta c.in_ok-number.number (g.V.Volume.size volume) image found fits (g.met.V.Volume.image_length volume tells) head
            (λ both. let is_it = c.if-not-is_of.ensures.1 (both.0, both.1 ∙ ap pos (sym size)) in cc);
        first = none_before_volume rows c.in-Some.meta image found c.in_ok-number.number fits head;
      };
      not_before = λ _. has_record rows c.in-Some.meta found;
      of_rows = λ _ not_volume any. absurd (not_volume refl);
    })

-- its schema is not known
pub returns-then-not-is_known-clause-rows : goal.returns-then-not-is_known-clause-rows
returns-then-not-is_known-clause-rows g c honest either damage same =
    let image = g.V.Volume.image c.args.volume.now in
    let rows = (store_state g.S.Store c.args.db.now).rows in
    let is : Schema ≡ damage = cc in
    let found = rw c.in-Some.is at (c.in_ok-meta.ensures.found honest either) in
    subst (IsReportedDamage g.V.Volume.tells rows image) is (record {
      is_first = λ tells. record {
        is_true = unknown_schema rows c.in-Some.meta image found (sym c.if-not-is_known.ensures);
        first = none_before_schema rows c.in-Some.meta image found c.in_ok-number.number (omega arith) (c.in_ok-number.ensures.head tells)
            c.size-blocks.result _ (c.size-blocks.ensures ∙ c.in_ok-number.ensures.reads.size) (g.met.V.Volume.image_length c.args.volume.now tells) (c.if-not-is_of.ensures.0 refl);
      };
      not_before = λ _. has_record rows c.in-Some.meta found;
      of_rows = λ _ _ any. unknown_schema rows c.in-Some.meta any found (sym c.if-not-is_known.ensures);
    })

-- a table is missing
pub returns-then-not-has_tables-clause-rows : goal.returns-then-not-has_tables-clause-rows
returns-then-not-has_tables-clause-rows g c honest either damage same =
    let s = state g.S.Store c.args.db.now in
    let image = g.V.Volume.image c.args.volume.now in
    let rows = (store_state g.S.Store c.args.db.now).rows in
    let is : Form ≡ damage = cc in
    let found = rw c.in-Some.is at (c.in_ok-meta.ensures.found honest either) in
    let has = has_record rows c.in-Some.meta found in
    elim either [
      | inl first ↦ subst (IsReportedDamage g.V.Volume.tells rows image) is
          (missing_told rows (row_missing s first (sym c.if-not-has_tables.ensures) has (known_schema rows c.in-Some.meta found (sym c.if-not-is_known.ensures))) g.V.Volume.tells image has
          (λ tells. none_before_schema rows c.in-Some.meta image found c.in_ok-number.number (omega arith) (c.in_ok-number.ensures.head tells)
          c.size-blocks.result _ (c.size-blocks.ensures ∙ c.in_ok-number.ensures.reads.size) (g.met.V.Volume.image_length c.args.volume.now tells) (c.if-not-is_of.ensures.0 refl)))
      | inr bare ↦ absurd (has (bare_has_none s bare))
    ]

pub returns-clause-rows : goal.returns-clause-rows
returns-clause-rows g c honest either =
    let rows = (store_state g.S.Store c.args.db.now).rows in
    let found = rw c.in-Some.is at (c.in_ok-meta.ensures.found honest either) in
    record {
      row = has_record rows c.in-Some.meta found;
      undamaged = λ tells. none_before_schema rows c.in-Some.meta (g.V.Volume.image c.args.volume.now) found c.in_ok-number.number (omega arith) (c.in_ok-number.ensures.head tells)
          c.size-blocks.result _ (c.size-blocks.ensures ∙ c.in_ok-number.ensures.reads.size) (g.met.V.Volume.image_length c.args.volume.now tells) (c.if-not-is_of.ensures.0 refl);
      known = known_schema rows c.in-Some.meta found (sym c.if-not-is_known.ensures);
    }
