use Rattle.std.proofs.Common.{◌∙◌, below_more, ap, not, sym}
use Rattle.std.proofs.lemmas.Bool.{true≢false}
use Rattle.std.proofs.lemmas.Slice.Eq.{bytes_eq-Decides}
use Rattle.dnrd_csv.specs.inside.RowKeys.{borrowed_texts}
use Rattle.deposit_verify.specs.FilesReasons.{HasOwnDigest}
use Rattle.deposit_verify.proofs.Columns.{texts_more}
use Rattle.deposit_verify.proofs.CutLemmas.{cut_more, other_digest}
use Rattle.deposit_verify.proofs.CutPlaces.{digest_is, first_other, next_fits, none_left}
use Rattle.deposit_verify.proofs.Lists.{unnegated}
use Rattle.deposit_verify.proofs.files.cut_files.Goals as goal

pub split_at-requires : goal.split_at-requires
split_at-requires c =
    let loop = c.loop-place in
    next_fits c.args.entries.now c.args.bytes.now loop.place _ (borrowed_texts loop.files.items) loop.rest.now loop.invariant.cut c.requires c.loop-place-test.true

pub returns-then-ne-clause-cut : goal.returns-then-ne-clause-cut
returns-then-ne-clause-cut c =
    let loop = c.loop-place in
    other_digest c.args.entries.now c.args.bytes.now loop.place _ (borrowed_texts loop.files.items) loop.rest.now c.split_at.result.0.now loop.invariant.cut c.loop-place-test.true
    c.split_at.ensures.front (λ same. true≢false (c.if-ne.ensures ∙ ap not ((bytes_eq-Decides _ _).1 (c.digest-found.ensures ∙ same))))

pub returns-then-ne-clause-place : goal.returns-then-ne-clause-place
returns-then-ne-clause-place c =
    let loop = c.loop-place in
    rw c.digest-found.ensures (first_other c.args.entries.now c.args.bytes.now loop.place _ (borrowed_texts loop.files.items) loop.rest.now c.split_at.result.0.now loop.invariant.cut c.loop-place-test.true
    c.split_at.ensures.front (λ same. true≢false (c.if-ne.ensures ∙ ap not ((bytes_eq-Decides _ _).1 (c.digest-found.ensures ∙ same)))) loop.invariant.digests)

pub loop-place-preserved : goal.loop-place-preserved
loop-place-preserved c =
    let loop = c.loop-place in
    let digest = sym c.digest-found.ensures ∙ (bytes_eq-Decides _ _).0 (unnegated _ c.if-ne.ensures) in
    record {
      cut = rw (c.in_ok-push.ensures.items, texts_more loop.files.items c.split_at.result.0)
          (cut_more c.args.entries.now c.args.bytes.now loop.place _ (borrowed_texts loop.files.items) loop.rest.now c.split_at.result.0.now c.split_at.result.1.now loop.invariant.cut c.loop-place-test.true
          c.split_at.ensures.front c.split_at.ensures.back c.split_at.ensures.front_len digest);
      digests = below_more (HasOwnDigest c.args.entries.now c.args.bytes.now) loop.place loop.invariant.digests
          (digest_is c.args.entries.now c.args.bytes.now loop.place _ (borrowed_texts loop.files.items) loop.rest.now c.split_at.result.0.now loop.invariant.cut c.loop-place-test.true c.split_at.ensures.front digest);
    }

pub returns-clause-cut : goal.returns-clause-cut
returns-clause-cut c =
    none_left c.args.entries.now c.args.bytes.now c.loop-place.place (borrowed_texts c.loop-place.files.items) c.loop-place.rest.now c.loop-place.invariant.cut c.requires c.loop-place-test.false
