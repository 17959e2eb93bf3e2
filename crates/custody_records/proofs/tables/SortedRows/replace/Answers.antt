use Rattle.std.proofs.Common.{IsSome, refl, ap, ◌∙◌, subst, sym, get_or}
use Rattle.custody_records.proofs.TableLemmas.{absent_key, map_replaced, rising_replaced}
use Rattle.custody_records.proofs.tables.SortedRows.replace.Goals as goal

pub unreachable-requires : goal.unreachable-requires
unreachable-requires g c =
    let order = g.T.Keyed.order in
    let key = g.T.Keyed.key_of in
    let table = c.args.self.now in
    let clash = subst IsSome (absent_key order key g.met.T.Keyed.total table.rows.items table.rising g.T.Keyed.value_of c.key.result (key c.args.row) c.in-Err.field-0 c.key.ensures c.in-Err.ensures.place) c.requires.there in cc

pub invariant_of-self : goal.invariant_of-self
invariant_of-self g c =
    let order = g.T.Keyed.order in
    let key = g.T.Keyed.key_of in
    let table = c.args.self.now in
    record {
      rising = rising_replaced order key g.met.T.Keyed.total g.met.T.Keyed.exact table.rows.items _ c.args.row c.in-Ok.place refl c.in-Ok.ensures.range
          (λ d. ap (order (key (get_or table.rows.items c.in-Ok.place d))) (sym c.key.ensures) ∙ c.in-Ok.ensures.place d) table.rising;
    }

pub returns : goal.returns
returns g c =
    let order = g.T.Keyed.order in
    let key = g.T.Keyed.key_of in
    let table = c.args.self.now in
    map_replaced order key g.met.T.Keyed.total g.met.T.Keyed.exact table.rows.items _ c.args.row c.in-Ok.place refl c.in-Ok.ensures.range
    (λ d. ap (order (key (get_or table.rows.items c.in-Ok.place d))) (sym c.key.ensures) ∙ c.in-Ok.ensures.place d) table.rising g.T.Keyed.value_of
