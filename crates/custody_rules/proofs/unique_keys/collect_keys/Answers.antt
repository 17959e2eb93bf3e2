use Rattle.std.proofs.Common.{◌≡◌, Bool, true, false, not, length, refl, sym, ap, subst, Some, None, arith}
use Rattle.std.specs.List.{slice_get}
use Rattle.std.specs.BTreeSet.{contains}
use Rattle.std.proofs.lemmas.List.{length_push}
use Rattle.custody_records.specs.RegistryRows.{rows_left}
use Rattle.custody_rules.proofs.Telling.{IsGathered, AreToldOnceEarly, all_gathered, all_once, gathered_past, once_past, gathered_more, once_more, told_twice, next_stands, none_stands}
use Rattle.custody_rules.proofs.unique_keys.collect_keys.Goals as goal

absent_before : (there added : Bool) → added ≡ not there → added ≡ true → there ≡ false
absent_before true added is was_new = cc
absent_before false added is was_new = refl

there_before : (there added : Bool) → added ≡ not there → added ≡ false → there ≡ true
there_before true added is was_there = refl
there_before false added is was_there = cc

pub returns-then-not-branch-clause-twice : goal.returns-then-not-branch-clause-twice
returns-then-not-branch-clause-twice g c =
    let notices = rows_left c.args.notices in
    let began : rows_left c.into_iter-notice-iterator.result ≡ notices = ap rows_left c.into_iter-notice-iterator.ensures.into_iter_gives in
    let count = length c.loop-notice.yielded in
    let next = c.in-Some.notice.now in
    let here : slice_get notices count ≡ Some next = next_stands rows_left notices began c.loop-notice.yielded c.loop-notice.notice-iterator c.loop-notice.yielded_by c.next.result c.next.new.self c.next.ensures.steps c.in-Some.notice c.in-Some.is in
    let has = contains g.T.Ord.cmp c.loop-notice.all in
    let told = c.in-Some-of.told in
    let tells : g.T.UniqueKey.unique_key_of next ≡ Some told = cc in
    let there : has told ≡ true = there_before (has told) c.in_ok-insert.field-0 c.in_ok-insert.ensures.added c.if-not-branch.true in
    told_twice g.T.UniqueKey.unique_key_of notices count next here g.met.T.Ord.total g.met.T.UniqueKey.exact told tells has c.loop-notice.invariant.0 there

pub loop-notice-preserved-else-not-branch : goal.loop-notice-preserved-else-not-branch
loop-notice-preserved-else-not-branch g c =
    let notices = rows_left c.args.notices in
    let began : rows_left c.into_iter-notice-iterator.result ≡ notices = ap rows_left c.into_iter-notice-iterator.ensures.into_iter_gives in
    let count = length c.loop-notice.yielded in
    let next = c.in-Some.notice.now in
    let here : slice_get notices count ≡ Some next = next_stands rows_left notices began c.loop-notice.yielded c.loop-notice.notice-iterator c.loop-notice.yielded_by c.next.result c.next.new.self c.next.ensures.steps c.in-Some.notice c.in-Some.is in
    let has = contains g.T.Ord.cmp c.loop-notice.all in
    let gathered = c.loop-notice.invariant.0 in
    let told = c.in-Some-of.told in
    let tells : g.T.UniqueKey.unique_key_of next ≡ Some told = cc in
    let absent : has told ≡ false = absent_before (has told) c.in_ok-insert.field-0 c.in_ok-insert.ensures.added c.if-not-branch.false in
    let now_has = contains g.T.Ord.cmp c.insert.new.self in
    subst (λ n. IsGathered g.T.UniqueKey.unique_key_of notices now_has n × AreToldOnceEarly g.T.UniqueKey.unique_key_of notices n) (sym (length_push c.loop-notice.yielded c.in-Some.notice)) (
      gathered_more g.T.UniqueKey.unique_key_of notices count next here g.met.T.Ord.total g.met.T.UniqueKey.exact told tells has gathered absent now_has c.in_ok-insert.ensures.updates.0,
      once_more g.T.UniqueKey.unique_key_of notices count next here g.met.T.Ord.total g.met.T.UniqueKey.exact told tells has gathered absent c.loop-notice.invariant.1,
    )

pub loop-notice-preserved : goal.loop-notice-preserved
loop-notice-preserved g c =
    let notices = rows_left c.args.notices in
    let began : rows_left c.into_iter-notice-iterator.result ≡ notices = ap rows_left c.into_iter-notice-iterator.ensures.into_iter_gives in
    let count = length c.loop-notice.yielded in
    let next = c.in-Some.notice.now in
    let here : slice_get notices count ≡ Some next = next_stands rows_left notices began c.loop-notice.yielded c.loop-notice.notice-iterator c.loop-notice.yielded_by c.next.result c.next.new.self c.next.ensures.steps c.in-Some.notice c.in-Some.is in
    let has = contains g.T.Ord.cmp c.loop-notice.all in
    let nothing : g.T.UniqueKey.unique_key_of next ≡ None = cc in
    subst (λ n. IsGathered g.T.UniqueKey.unique_key_of notices has n × AreToldOnceEarly g.T.UniqueKey.unique_key_of notices n) (sym (length_push c.loop-notice.yielded c.in-Some.notice)) (
      gathered_past g.T.UniqueKey.unique_key_of notices count next here nothing has c.loop-notice.invariant.0,
      once_past g.T.UniqueKey.unique_key_of notices count next here nothing c.loop-notice.invariant.1,
    )

pub returns-clause-all : goal.returns-clause-all
returns-clause-all g c =
    let notices = rows_left c.args.notices in
    let all = none_stands rows_left notices (ap rows_left c.into_iter-notice-iterator.ensures.into_iter_gives) c.loop-notice.yielded c.loop-notice.notice-iterator c.loop-notice.yielded_by c.next.result c.next.new.self c.next.ensures.steps c.in-None.is in
    all_gathered g.T.UniqueKey.unique_key_of notices (contains g.T.Ord.cmp c.loop-notice.all) (length c.loop-notice.yielded) (omega (arith, all)) c.loop-notice.invariant.0

pub returns-clause-once : goal.returns-clause-once
returns-clause-once g c =
    let notices = rows_left c.args.notices in
    let all = none_stands rows_left notices (ap rows_left c.into_iter-notice-iterator.ensures.into_iter_gives) c.loop-notice.yielded c.loop-notice.notice-iterator c.loop-notice.yielded_by c.next.result c.next.new.self c.next.ensures.steps c.in-None.is in
    all_once g.T.UniqueKey.unique_key_of notices (length c.loop-notice.yielded) (omega (arith, all)) c.loop-notice.invariant.1
