use Rattle.std.proofs.Common.{◌≡◌, ◌+◌, ◌-◌, ◌*◌, ◌<◌, ◌≤◌, ◌^◌, List, ℕ, ◌++◌, length, take, drop, refl, sym, ◌∙◌, ap, subst, arith, rules, append-nil}
use Rattle.std.specs.Prelude.{All, min}
use Rattle.std.specs.Slice.Iter.{chunks_rest}
use Rattle.std.proofs.lemmas.List.{length-take-le, nil_from_length}
use Rattle.extent_map.specs.declared.extent.Extent.{Extent}
use Rattle.vault_volume.specs.Extents.{blocks_of, bytes_of}
use Rattle.vault_volume.specs.Vault.{volume_of}
use Rattle.custody.specs.declared.open_custody.OpenCustody.{OpenCustody}
use Rattle.custody.specs.declared.upload.Upload.TheVariants as of
use Rattle.custody.specs.OpenCustody.{image_of}
use Rattle.custody.specs.Upload.{Continues, IsUploading}
use Rattle.custody.proofs.Uploads.{compared_fails, compared_more, compared_still, comparing_held, continues_more, differs_whole, ne_differs, ne_same, none_failed, one_failed, piece_fits, piece_next, piece_within}
use Rattle.custody.proofs.OpenCustodyLemmas.{on_ok}
use Rattle.custody.proofs.open_custody.OpenCustody.compare_on.Goals as goal

-- the buffer is longer than a piece
piece_read : (piece left buffer : List ℕ) (size : ℕ) → size ≡ 32_768 → length piece ≡ min size (length left) → length buffer ≡ 32_768
    → length (take (length piece) buffer) ≡ length piece
piece_read piece left buffer size is steps room =
    let fits = piece_fits piece left size is steps in
    length-take-le (length piece) buffer (omega (arith, room, fits))

pub read_piece-read-requires-clause-range : goal.read_piece-read-requires-clause-range
read_piece-read-requires-clause-range g c =
    let may = c.requires in
    let so_far = c.loop-piece.invariant.3 may.0 may.1 may.2 may.3 in
    let held = comparing_held g.S.Store may.0 c.loop-piece.self c.loop-piece.comparing so_far.0 so_far.1.0 in
    subst (λ (es : List Extent). All (λ e. e.start + e.count ≤ g.V.Volume.size (volume_of c.loop-piece.self.vault)) es) (sym c.deref.ensures.value) (λ k d lt. (held.each k d lt).2)

pub read_piece-read-requires-clause-fits : goal.read_piece-read-requires-clause-fits
read_piece-read-requires-clause-fits g c =
    let may = c.requires in
    let piece = c.in-Some.piece.now in
    let so_far = c.loop-piece.invariant.3 may.0 may.1 may.2 may.3 in
    let held = comparing_held g.S.Store may.0 c.loop-piece.self c.loop-piece.comparing so_far.0 so_far.1.0 in
    let within = piece_within so_far.0 piece _ may.1 c.args.bytes.now may.0.len (piece_next so_far.0 _ piece (chunks_rest c.next.new.self) _ so_far.2 c.in-Some.ensures.steps.1.0) may.3 in
    let counts = held.counts in
    let done = so_far.1.0.done in
    let same = so_far.1.1 in
    let long : length (take (length piece) c.loop-piece.buffer) ≡ length piece = piece_read piece _ c.loop-piece.buffer _ c.loop-piece.invariant.2 c.in-Some.ensures.steps.1.1 (search rules) in
    subst (λ (es : List Extent). c.loop-piece.comparing.done + length (take (length piece) c.loop-piece.buffer) ≤ 4096 * blocks_of es) (sym c.deref.ensures.value) (omega (arith, counts, done, same, within, long))

pub read_piece-read-requires-clause-count : goal.read_piece-read-requires-clause-count
read_piece-read-requires-clause-count g c =
    let may = c.requires in
    let is = (c.loop-piece.invariant.3 may.0 may.1 may.2 may.3).1.0 in
    subst (λ (n : ℕ). n < 2 ^ 64 - 1) (sym is.failures) is.order.count

pub returns-then-is_err : goal.returns-then-is_err
returns-then-is_err g c = λ s sent both within.
    let before = c.loop-piece.self in
    let new : OpenCustody g.row.V.Denot g.row.S.Denot g.V.Volume = record { vault = c.read_piece-read.new.self; store = before.store; records = before.records } in
    let so_far = c.loop-piece.invariant.3 s sent both within in
    let h = c.read_piece-read.ensures in
    compared_fails g.S.Store s before new c.loop-piece.comparing so_far.0 (sent ++ c.args.bytes.now) so_far.1.0 refl refl (record { free = h.free; size = h.size; image = h.image; any_moment = h.any_moment })
    (one_failed c.read_piece-read.result c.is_err.result _ _ c.is_err.ensures.value c.if-is_err.true h.failures)

pub answer_other_bytes-requires : goal.answer_other_bytes-requires
answer_other_bytes-requires g c =
    let may = c.requires in
    let before = c.loop-piece.self in
    let new : OpenCustody g.row.V.Denot g.row.S.Denot g.V.Volume = record { vault = c.read_piece-read.new.self; store = before.store; records = before.records } in
    let so_far = c.loop-piece.invariant.3 may.0 may.1 may.2 may.3 in
    let h = c.read_piece-read.ensures in (
      may.0,
      so_far.0,
      compared_still g.S.Store may.0 before new c.loop-piece.comparing so_far.0 so_far.1.0 refl refl (record { free = h.free; size = h.size; image = h.image; any_moment = h.any_moment })
          (none_failed c.read_piece-read.result c.is_err.result _ _ c.is_err.ensures.value c.if-is_err.false h.failures),
    )

pub returns-then-ne : goal.returns-then-ne
returns-then-ne g c = λ s sent both within.
    let before = c.loop-piece.self in
    let new : OpenCustody g.row.V.Denot g.row.S.Denot g.V.Volume = record { vault = c.read_piece-read.new.self; store = before.store; records = before.records } in
    let it = c.loop-piece.comparing in
    let piece = c.in-Some.piece.now in
    let rest = chunks_rest c.next.new.self in
    let so_far = c.loop-piece.invariant.3 s sent both within in
    let next = piece_next so_far.0 _ piece rest _ so_far.2 c.in-Some.ensures.steps.1.0 in
    let h = c.read_piece-read.ensures in
    let long : length (take (length piece) c.loop-piece.buffer) ≡ length piece = piece_read piece _ c.loop-piece.buffer _ c.loop-piece.invariant.2 c.in-Some.ensures.steps.1.1 (search rules) in
    c.answer_other_bytes.ensures s so_far.0 (sent ++ c.args.bytes.now)
    (compared_still g.S.Store s before new it so_far.0 so_far.1.0 refl refl (record { free = h.free; size = h.size; image = h.image; any_moment = h.any_moment })
    (none_failed c.read_piece-read.result c.is_err.result _ _ c.is_err.ensures.value c.if-is_err.false h.failures))
    (λ tells body comes.
    let got : c.read_piece-read.new.out ≡ take (length piece) (drop it.done (bytes_of (image_of before) it.extents.items)) =
    on_ok _ c.read_piece-read.result c.is_err.result c.is_err.ensures.value c.if-is_err.false (h.bytes tells)
    ∙ ap (λ (n : ℕ). take n (drop it.done (bytes_of (image_of before) c.deref.result.now))) long
    ∙ ap (λ (es : List Extent). take (length piece) (drop it.done (bytes_of (image_of before) es))) c.deref.ensures.value in
    differs_whole g.S.Store s before new it so_far.0 piece c.read_piece-read.new.out so_far.1.0 tells got (ne_differs c.ne.result c.read_piece-read.new.out piece c.ne.ensures c.if-ne.true) so_far.1.1
    (piece_within so_far.0 piece rest sent c.args.bytes.now s.len next within) body
    (continues_more (so_far.0 ++ piece) rest s.len body (subst (λ (l : List ℕ). Continues l s.len body) (sym next) comes)))

pub overflow_add-comparing : goal.overflow_add-comparing
overflow_add-comparing g c =
    let may = c.requires in
    let piece = c.in-Some.piece.now in
    let so_far = c.loop-piece.invariant.3 may.0 may.1 may.2 may.3 in
    let within = piece_within so_far.0 piece _ may.1 c.args.bytes.now may.0.len (piece_next so_far.0 _ piece (chunks_rest c.next.new.self) _ so_far.2 c.in-Some.ensures.steps.1.0) may.3 in
    let done = so_far.1.0.done in
    let same = so_far.1.1 in
    omega (arith, done, same, within)

pub loop-piece-preserved : goal.loop-piece-preserved
loop-piece-preserved g c = (
  search rules,
  tt,
  c.in-Some.ensures.steps.0 ∙ c.loop-piece.invariant.2,
  λ s sent both within.
      let before = c.loop-piece.self in
      let new : OpenCustody g.row.V.Denot g.row.S.Denot g.V.Volume = record { vault = c.read_piece-read.new.self; store = before.store; records = before.records } in
      let it = c.loop-piece.comparing in
      let piece = c.in-Some.piece.now in
      let so_far = c.loop-piece.invariant.3 s sent both within in
      let h = c.read_piece-read.ensures in
      let long : length (take (length piece) c.loop-piece.buffer) ≡ length piece = piece_read piece _ c.loop-piece.buffer _ c.loop-piece.invariant.2 c.in-Some.ensures.steps.1.1 (search rules) in
      let compared = compared_more g.S.Store s before new it so_far.0 so_far.0 so_far.1.0 refl refl (record { free = h.free; size = h.size; image = h.image; any_moment = h.any_moment }) piece
      (none_failed c.read_piece-read.result c.is_err.result _ _ c.is_err.ensures.value c.if-is_err.false h.failures)
      (λ tells.
      sym (ne_same c.ne.result c.read_piece-read.new.out piece c.ne.ensures c.if-ne.false)
      ∙ on_ok _ c.read_piece-read.result c.is_err.result c.is_err.ensures.value c.if-is_err.false (h.bytes tells)
      ∙ ap (λ (n : ℕ). take n (drop it.done (bytes_of (image_of before) c.deref.result.now))) long
      ∙ ap (λ (es : List Extent). take (length piece) (drop it.done (bytes_of (image_of before) es))) c.deref.ensures.value) in
      (so_far.0 ++ piece, (compared, so_far.1.1), piece_next so_far.0 _ piece (chunks_rest c.next.new.self) _ so_far.2 c.in-Some.ensures.steps.1.0),
)

pub returns : goal.returns
returns g c = λ s sent both within.
    let so_far = c.loop-piece.invariant.3 s sent both within in
    let none = nil_from_length _ c.in-None.ensures.steps.1.0 in
    subst (IsUploading g.S.Store s c.loop-piece.self (of.Comparing c.loop-piece.comparing)) (sym (append-nil so_far.0) ∙ ap (λ (l : List ℕ). so_far.0 ++ l) (sym none) ∙ so_far.2) so_far.1
