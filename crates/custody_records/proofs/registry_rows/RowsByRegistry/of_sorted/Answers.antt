use Rattle.std.proofs.Common.{◌≡◌, ◌∷◌, [], ◌++◌, sym, ap, ◌∙◌, append_assoc, append-nil, subst, arith, rules}
use Rattle.std.specs.FinMap.{FinMap, get, insert}
use Rattle.std.specs.Vec.Iter.{into_iter_items}
use Rattle.std.proofs.lemmas.List.{nil_from_length}
use Rattle.custody_records.specs.RegistryRows.{HasRoomOf}
use Rattle.custody_records.specs.Tables.{is_rising, table_map}
use Rattle.custody_records.proofs.SortedLemmas.{next_absent, next_inserted}
use Rattle.custody_records.proofs.TableLemmas.{empty_table}
use Rattle.custody_records.proofs.registry_rows.RowsByRegistry.of_sorted.Goals as goal

pub loop-row-init : goal.loop-row-init
loop-row-init g c = record {
  taken = c.new-table.ensures ∙ sym (empty_table g.T.Keyed.order g.T.Keyed.key_of g.T.Keyed.value_of);
  all = search rules;
}

pub add-requires-clause-room : goal.add-requires-clause-room
add-requires-clause-room g c =
    subst (λ tld. HasRoomOf tld c.try_reserve.new.self) (c.registry.ensures ∙ ap g.T.OfRegistry.registry_of c.key.ensures) c.in_ok-try_reserve.ensures.room

pub add-requires-clause-new : goal.add-requires-clause-new
add-requires-clause-new g c =
    let order = g.T.Keyed.order in
    let key = g.T.Keyed.key_of in
    let at = c.loop-row in
    let row = c.in-Some.row in
    let rest = into_iter_items c.next.new.self in
    let whole : at.yielded ++ row ∷ rest ≡ c.args.sorted.rows.items = ap (λ l. at.yielded ++ l) (sym c.in-Some.ensures.steps.0) ∙ at.invariant.all in
    let rising = ap (is_rising order key) whole ∙ c.args.sorted.rising in
    ap (λ (m : FinMap order g.T.Keyed.Value). get m (key row)) (c.in_ok-try_reserve.ensures.same ∙ at.invariant.taken)
    ∙ next_absent order key g.met.T.Keyed.total at.yielded rest row rising g.T.Keyed.value_of

pub loop-row-preserved : goal.loop-row-preserved
loop-row-preserved g c =
    let order = g.T.Keyed.order in
    let key = g.T.Keyed.key_of in
    let value = g.T.Keyed.value_of in
    let at = c.loop-row in
    let row = c.in-Some.row in
    let rest = into_iter_items c.next.new.self in
    let whole : at.yielded ++ row ∷ rest ≡ c.args.sorted.rows.items = ap (λ l. at.yielded ++ l) (sym c.in-Some.ensures.steps.0) ∙ at.invariant.all in
    let rising = ap (is_rising order key) whole ∙ c.args.sorted.rising in
    record {
      taken = c.add.ensures
          ∙ ap (λ (m : FinMap order g.T.Keyed.Value). insert m (key row) (value row)) (c.in_ok-try_reserve.ensures.same ∙ at.invariant.taken)
          ∙ sym (next_inserted order key g.met.T.Keyed.total at.yielded rest row rising value);
      all = append_assoc at.yielded (row ∷ []) rest ∙ whole;
    }

pub returns : goal.returns
returns g c =
    let at = c.loop-row in
    let none : into_iter_items at.row-iterator ≡ [] = nil_from_length _ (omega (arith, c.in-None.ensures.steps.0, at.row-iterator.rest.ok.0)) in
    let all : at.yielded ≡ c.args.sorted.rows.items = sym (append-nil at.yielded) ∙ ap (λ l. at.yielded ++ l) (sym none) ∙ at.invariant.all in
    at.invariant.taken ∙ ap (table_map g.T.Keyed.order g.T.Keyed.key_of g.T.Keyed.value_of) all
