use Rattle.std.proofs.Common.{◌≡◌, ◌∙◌, ℕ, ◌+◌, ◌-◌, ◌<◌, List, false, length, get_or, take, drop, sym, ap, subst, arith, rules, length-drop, get_or-drop}
use Rattle.std.specs.List.{filter}
use Rattle.std.specs.List.Sorted.{IsNonDecreasingBy}
use Rattle.std.specs.Ordering.{is_lt, is_le, is_eq, ordering_index}
use Rattle.std.proofs.lemmas.List.{take_all}
use Rattle.std.proofs.lemmas.List.Sorted.{IsPartitionPoint-from_clause, IsNonDecreasingBy-drop}
use Rattle.custody_records.specs.Tables.{row_entries}
use Rattle.custody_records.proofs.TableLemmas.{entries-table_map}
use Rattle.custody_records.proofs.GroupLemmas.{parted_lt, parted_le, among_behind, among_first, filter_entries, places_rise}
use Rattle.custody_records.proofs.tables.SortedRows.group.Goals as goal

pub returns : goal.returns
returns g c =
    let key = g.T.Keyed.key_of in
    let value = g.T.Keyed.value_of in
    let place = g.G.Group.place c.args.group.now in
    let order = λ (row : g.row.T.Denot). place (key row) in
    let table = c.args.self.now in
    let rows = table.rows.items in
    let start = c.partition_point-start.result in
    let count = c.partition_point-count.result in
    let first_rows : c.deref.result.now ≡ rows = c.deref.ensures.value in
    let second_rows : c.deref-2.result.now ≡ rows = c.deref-2.ensures.value in
    let rest = take (length c.deref-2.result.now - start) (drop start c.deref-2.result.now) in
    let whole : rest ≡ drop start rows =
    take_all (length c.deref-2.result.now - start) (drop start c.deref-2.result.now) (omega (arith, length-drop start c.deref-2.result.now)) ∙ ap (drop start) second_rows in
    let rise = places_rise g.T.Keyed.order key place (g.met.G.Group.ascends c.args.group.now) rows table.rising in
    let first_rise = subst (λ (l : List g.row.T.Denot). IsNonDecreasingBy (λ row. ordering_index (order row)) l) (sym first_rows) rise in
    let rest_rise = subst (λ (l : List g.row.T.Denot). IsNonDecreasingBy (λ row. ordering_index (order row)) l) (sym whole) (IsNonDecreasingBy-drop (λ row. ordering_index (order row)) start rows rise) in
    let parted = IsPartitionPoint-from_clause (λ row. is_lt (order row)) c.deref.result.now start c.partition_point-start.ensures.partitioned (parted_lt order c.deref.result.now first_rise) (λ a r q k. search rules) in
    let first = rw first_rows at parted in
    let second = IsPartitionPoint-from_clause (λ row. is_le (order row)) rest count c.partition_point-count.ensures.partitioned (parted_le order rest rest_rise) (λ a r q k. search rules) in
    let behind : (i : ℕ) (d : g.row.T.Denot) → i < length rest → is_lt (order (get_or rest i d)) ≡ false = λ i d lt.
    ap (λ (l : List g.row.T.Denot). is_lt (order (get_or l i d))) whole ∙ ap (λ row. is_lt (order row)) (get_or-drop start rows i d)
    ∙ first.1 (start + i) d (omega arith) (omega (arith, ap length whole, length-drop start rows)) in
    let is : filter (λ row. is_eq (order row)) rows ≡ take count rest = among_behind order rows start (λ i d lt within. first.0 i d (omega arith) lt)
    ∙ ap (filter (λ row. is_eq (order row))) (sym whole)
    ∙ among_first order rest count behind (λ i d lt within. second.0 i d (omega arith) lt) (λ i d le within. second.1 i d le within) in
    ap (row_entries key value) (sym is) ∙ sym (filter_entries key value (λ e. is_eq (place e.0)) rows)
    ∙ ap (filter (λ (e : g.row.T-Key.Denot × g.T.Keyed.Value). is_eq (place e.0))) (sym (entries-table_map g.T.Keyed.order key value rows table.rising))
