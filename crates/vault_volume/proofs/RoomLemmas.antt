-- What a stop may leave of a volume in memory, also after calls that found no room.
use Rattle.std.proofs.Common.{◌≡◌, ◌↔◌, ◌⊎◌, inl, inr, ⊎_elim, ℕ, zero, suc, ◌+◌, ◌-◌, ◌<◌, ◌≤◌, List, [], ◌∷◌, ◌++◌, length, take, drop, get_or, refl, sym, ap, ◌∙◌, subst, arith, length-append, get_or-take, get_or-drop, Vec}
use Rattle.std.specs.declared.alloc.Global.{Global}
use Rattle.std.proofs.lemmas.List.{ext_get_or, take_all}
use Rattle.vault_volume.specs.Disk.{Unsettles, SameLeft, LeavesOneImage, Ticks}
use Rattle.vault_volume.specs.Image.{DiffersOnlyWithin, bytes_at, with_bytes}
use Rattle.vault_volume.specs.Memory.{IsLeftAfterCalls, IsLeftAtCall, IsUnsettled, DiffersOnlyAt, IsLeftAt, UnsettlesAt}
use Rattle.vault_volume.specs.declared.memory.Call.{Call}
use Rattle.vault_volume.specs.declared.memory.Call.TheVariants.{Kept, Wrote, Synced}
use Rattle.vault_volume.specs.declared.memory.CallResult.{CallResult}
use Rattle.vault_volume.specs.declared.memory.CallResult.TheVariants.{Answered, Failed, NoRoom}
use Rattle.vault_volume.proofs.ImageLemmas.{within_written, bytes_inside}
use Rattle.vault_volume.proofs.ExtentLemmas.{length-bytes_at}
use Rattle.std.proofs.lemmas.Bool.{cases_lt}
use Rattle.vault_volume.proofs.MemoryLemmas.{past_all, left_whole, left_part, before_next, opens, kept, settles}

-- where no call has written yet, the image is the same
same_at_none : (opened : List ℕ) (d c : List ℕ) → DiffersOnlyAt opened 0 d c → c ≡ d
same_at_none opened d c differs = ext_get_or 0 c d differs.same_length (λ i lt. differs.elsewhere i (λ here. let low = here.0 in let high = here.1 in omega arith))

pub within_calls : (start : List ℕ) (calls : List Call) (opened : List ℕ) (t : ℕ) (c : List ℕ) → t ≤ length calls → IsLeftAt start calls opened t c ↔ IsLeftAtCall start calls t c
within_calls start calls opened t c le =
    let none : t - length calls ≡ 0 = omega arith in (
      λ h. subst (λ (d : List ℕ). IsLeftAtCall start calls t d) (sym (same_at_none opened h.kept c (subst (λ (r : ℕ). DiffersOnlyAt opened r h.kept c) none h.differs))) h.was_left,
      λ h. record { kept = c; was_left = h; differs = record { same_length = refl; elsewhere = λ i out. refl } },
    )

-- A call that is kept, where each one before it was.
module _ (start later_start : List ℕ) (calls later : List Call) (opened later_opened : List ℕ) (r later_r : ℕ) (same_start : later_start ≡ start) (none : r ≡ 0) (later_none : later_r ≡ 0) where
  old : (c : List ℕ) → IsLeftAt start calls opened (length calls + r) c ↔ IsLeftAtCall start calls (length calls + r) c
  old c = within_calls start calls opened (length calls + r) c (omega arith)

  new : (c : List ℕ) → IsLeftAt later_start later later_opened (length later + later_r) c ↔ IsLeftAtCall later_start later (length later + later_r) c
  new c = within_calls later_start later later_opened (length later + later_r) c (omega arith)

  pub kept_noted : later ≡ calls ++ Kept ∷ [] → SameLeft (IsLeftAt start calls opened (length calls + r)) (IsLeftAt later_start later later_opened (length later + later_r))
  kept_noted is c =
      let both = kept start later_start calls later r later_r same_start is c in
      (λ h. (old c).1 (both.0 ((new c).0 h)), λ h. (new c).1 (both.1 ((old c).0 h)))

  pub opens_noted : (at n : ℕ) → later ≡ calls ++ Wrote at n ∷ [] → Unsettles at n (IsLeftAt start calls opened (length calls + r)) (IsLeftAt later_start later later_opened (length later + later_r))
  opens_noted at n is =
      let both = opens start later_start calls later at n r later_r same_start is in
      record {
        at_most = λ c h. let from = both.at_most c ((new c).0 h) in (from.0, (old from.0).1 from.1, from.2);
        at_least = λ d c h differs. (new c).1 (both.at_least d c ((old d).0 h) differs);
      }

  pub settles_noted : (image : Vec ℕ Global) (now : List ℕ) → later ≡ calls ++ Synced image ∷ [] → image.items ≡ now → LeavesOneImage now (IsLeftAt later_start later later_opened (length later + later_r))
  settles_noted image now is same c =
      let both = settles start later_start calls later image now later_r same_start is same c in
      (λ h. both.0 ((new c).0 h), λ h. (new c).1 (both.1 h))

  pub ticks_noted : (call : Call) → later ≡ calls ++ call ∷ [] → Ticks (length calls + r) (length later + later_r) (IsLeftAt start calls opened) (IsLeftAt later_start later later_opened)
  ticks_noted call is =
      let more : length later ≡ length calls + 1 = ap length is ∙ length-append calls (call ∷ []) in
      record {
        next = omega arith;
        past = λ t c le.
            let before : t ≤ length calls = omega arith in
            let was = within_calls start calls opened t c before in
            let now = within_calls later_start later later_opened t c (omega arith) in
            let both = before_next start calls call t before c in (
              λ h. was.1 (both.0 (subst (λ (l : List Call). IsLeftAtCall start l t c) is (subst (λ (s : List ℕ). IsLeftAtCall s later t c) same_start (now.0 h)))),
              λ h. now.1 (subst (λ (s : List ℕ). IsLeftAtCall s later t c) (sym same_start) (subst (λ (l : List Call). IsLeftAtCall start l t c) (sym is) (both.1 (was.0 h)))),
            );
      }

differs_same : (old new : List ℕ) (r s : ℕ) (d c : List ℕ) → ((i : ℕ) → IsUnsettled old r i → IsUnsettled new s i) → DiffersOnlyAt old r d c → DiffersOnlyAt new s d c
differs_same old new r s d c sub differs = record { same_length = differs.same_length; elsewhere = λ i out. differs.elsewhere i (λ here. out (sub i here)) }

-- A call that finds no room.
module _ (start : List ℕ) (calls : List Call) (opened : List ℕ) (r : ℕ) (by_then : (i : ℕ) → get_or opened i 0 ≤ r) where
  since : (s : ℕ) → length calls + s - length calls ≡ s
  since s = omega arith

  -- of a read, or a sync
  pub kept_refused : SameLeft (IsLeftAt start calls opened (length calls + r)) (IsLeftAt start calls opened (length calls + (r + 1)))
  kept_refused c = (
    λ h. record {
      kept = h.kept;
      was_left = past_all start calls (r + 1) r h.kept h.was_left;
      differs = differs_same opened opened (length calls + (r + 1) - length calls) (length calls + r - length calls) h.kept c (λ i here. let low = here.0 in let high = by_then i in (low, omega arith)) h.differs;
    },
    λ h. record {
      kept = h.kept;
      was_left = past_all start calls r (r + 1) h.kept h.was_left;
      differs = differs_same opened opened (length calls + r - length calls) (length calls + (r + 1) - length calls) h.kept c (λ i here. let low = here.0 in let high = by_then i in (low, omega arith)) h.differs;
    },
  )

  pub ticks_kept : Ticks (length calls + r) (length calls + (r + 1)) (IsLeftAt start calls opened) (IsLeftAt start calls opened)
  ticks_kept = record { next = omega arith; past = λ t c le. (λ h. h, λ h. h) }

  -- of a write
  module _ (later_opened : List ℕ) (at n : ℕ) (more : UnsettlesAt at n (r + 1) opened later_opened) where
    opened_before : (s : ℕ) → s ≤ r → (i : ℕ) → IsUnsettled later_opened s i → IsUnsettled opened s i
    opened_before s le i here =
        let low = here.0 in
        let high = here.1 in
        ⊎_elim (λ (same : get_or later_opened i 0 ≡ get_or opened i 0). (omega arith, omega arith)) (λ now. let is = now.1 in absurd (omega arith)) (more.each i)

    opened_since : (s m : ℕ) → s ≤ m → (i : ℕ) → IsUnsettled opened s i → IsUnsettled later_opened m i
    opened_since s m le i here =
        let low = here.0 in
        let high = here.1 in
        ⊎_elim (λ (same : get_or later_opened i 0 ≡ get_or opened i 0). (omega arith, omega arith)) (λ now. let was = now.0 in absurd (omega arith)) (more.each i)

    opened_now : (i : ℕ) → IsUnsettled later_opened (r + 1) i → IsUnsettled opened r i ⊎ ((at ≤ i) × (i < at + n))
    opened_now i here =
        let low = here.0 in
        let by = by_then i in
        ⊎_elim (λ (same : get_or later_opened i 0 ≡ get_or opened i 0). inl (omega arith, omega arith)) (λ now. inr (now.2, now.3)) (more.each i)

    opened_there : (i : ℕ) → at ≤ i → i < at + n → IsUnsettled later_opened (r + 1) i
    opened_there i above below =
        let by = by_then i in
        (more.inside i above below, ⊎_elim (λ (same : get_or later_opened i 0 ≡ get_or opened i 0). omega arith) (λ now. let is = now.1 in omega arith) (more.each i))

    pub ticks_refused : Ticks (length calls + r) (length calls + (r + 1)) (IsLeftAt start calls opened) (IsLeftAt start calls later_opened)
    ticks_refused = record {
      next = omega arith;
      past = λ t c le.
          let few : t - length calls ≤ r = omega arith in (
            λ h. record { kept = h.kept; was_left = h.was_left; differs = differs_same later_opened opened (t - length calls) (t - length calls) h.kept c (opened_before (t - length calls) few) h.differs },
            λ h. record { kept = h.kept; was_left = h.was_left; differs = differs_same opened later_opened (t - length calls) (t - length calls) h.kept c (opened_since (t - length calls) (t - length calls) (omega arith)) h.differs },
          );
    }

    module _ (within : (d : List ℕ) → IsLeftAtCall start calls (length calls + r) d → at + n ≤ length d) where
      -- the image as it was before the write: with the bytes there that are kept
      undone : (d c : List ℕ) → IsLeftAtCall start calls (length calls + r) d → DiffersOnlyAt later_opened (r + 1) d c → (m : List ℕ) × DiffersOnlyAt opened r d m × DiffersOnlyWithin at n m c
      undone d c left differs =
          let inside = within d left in
          let long = length-bytes_at d at n inside in
          let same = differs.same_length in
          let fits : at + length (bytes_at d at n) ≤ length c = omega arith in
          let written = within_written c (bytes_at d at n) at fits in
          let other : (i : ℕ) → (IsUnsettled opened r i → ⊥) → ((at ≤ i) × (i < at + n) → ⊥) → get_or c i 0 ≡ get_or d i 0 = λ i out apart. differs.elsewhere i (λ here. ⊎_elim out apart (opened_now i here)) in (
            with_bytes c at (bytes_at d at n),
            record {
              same_length = written.same_length ∙ same;
              elsewhere = λ i out. ⊎_elim
                  (λ (below : i < at). written.below i below ∙ other i out (λ here. let low = here.0 in omega arith))
                  (λ (above : at ≤ i). ⊎_elim
                  (λ (there : i < at + n). bytes_inside c (bytes_at d at n) at fits i above (omega arith) ∙ get_or-take n (drop at d) (i - at) 0 (omega arith) ∙ get_or-drop at d (i - at) 0 ∙ ap (λ (k : ℕ). get_or d k 0) (omega arith))
                  (λ (past : at + n ≤ i). written.above i (omega arith) ∙ other i out (λ here. let high = here.1 in omega arith))
                  (cases_lt i (at + n)))
                  (cases_lt i at);
            },
            record {
              same_length = sym written.same_length;
              below = λ i lt. sym (written.below i lt);
              above = λ i le. sym (written.above i (omega arith));
            },
          )

      pub opens_refused : Unsettles at n (IsLeftAt start calls opened (length calls + r)) (IsLeftAt start calls later_opened (length calls + (r + 1)))
      opens_refused = record {
        at_most = λ c h.
            let left = past_all start calls (r + 1) r h.kept h.was_left in
            let from = undone h.kept c left (subst (λ (s : ℕ). DiffersOnlyAt later_opened s h.kept c) (since (r + 1)) h.differs) in
            (from.0, record { kept = h.kept; was_left = left; differs = subst (λ (s : ℕ). DiffersOnlyAt opened s h.kept from.0) (sym (since r)) from.1 }, from.2);
        at_least = λ d c h differs.
            let was = subst (λ (s : ℕ). DiffersOnlyAt opened s h.kept d) (since r) h.differs in
            record {
              kept = h.kept;
              was_left = past_all start calls r (r + 1) h.kept h.was_left;
              differs = subst (λ (s : ℕ). DiffersOnlyAt later_opened s h.kept c) (sym (since (r + 1))) (record {
                same_length = differs.same_length ∙ was.same_length;
                elsewhere = λ i out.
                    let before : get_or d i 0 ≡ get_or h.kept i 0 = was.elsewhere i (λ here. out (opened_since r (r + 1) (omega arith) i here)) in
                    ⊎_elim
                    (λ (below : i < at). differs.below i below ∙ before)
                    (λ (above : at ≤ i). ⊎_elim (λ (there : i < at + n). absurd (out (opened_there i above there))) (λ (past : at + n ≤ i). differs.above i past ∙ before) (cases_lt i (at + n)))
                    (cases_lt i at);
              });
            };
      }

-- what `note` tells, in either case
pub room_or_none : (n : CallResult) (A B : Type 0) → ((n ≡ NoRoom → ⊥) → A) → (n ≡ NoRoom → B) → A ⊎ B
room_or_none Answered A B room none = inl (room (λ clash. cc))
room_or_none Failed A B room none = inl (room (λ clash. cc))
room_or_none NoRoom A B room none = inr (none refl)

-- a read, or a sync that fails
pub kept_call : (start later_start : List ℕ) (calls later : List Call) (opened later_opened : List ℕ) (r later_r : ℕ) → ((i : ℕ) → get_or opened i 0 ≤ r) → later_start ≡ start → later_opened ≡ opened
    → ((r ≡ 0) × (later_r ≡ 0) × (later ≡ calls ++ Kept ∷ [])) ⊎ ((later_r ≡ r + 1) × (later ≡ calls))
    → SameLeft (IsLeftAt start calls opened (length calls + r)) (IsLeftAt later_start later later_opened (length later + later_r))
kept_call start later_start calls later opened later_opened r later_r by_then same_start same_opened (inl w) =
    kept_noted start later_start calls later opened later_opened r later_r same_start w.0 w.1 w.2
kept_call start later_start calls later opened later_opened r later_r by_then same_start same_opened (inr w) =
    rw same_start (rw same_opened (rw w.0 (rw w.1 (kept_refused start calls opened r by_then))))

pub ticks_call : (start later_start : List ℕ) (calls later : List Call) (opened later_opened : List ℕ) (r later_r : ℕ) (call : Call) → ((i : ℕ) → get_or opened i 0 ≤ r) → later_start ≡ start → later_opened ≡ opened
    → ((r ≡ 0) × (later_r ≡ 0) × (later ≡ calls ++ call ∷ [])) ⊎ ((later_r ≡ r + 1) × (later ≡ calls))
    → Ticks (length calls + r) (length later + later_r) (IsLeftAt start calls opened) (IsLeftAt later_start later later_opened)
ticks_call start later_start calls later opened later_opened r later_r call by_then same_start same_opened (inl w) =
    ticks_noted start later_start calls later opened later_opened r later_r same_start w.0 w.1 call w.2
ticks_call start later_start calls later opened later_opened r later_r call by_then same_start same_opened (inr w) =
    rw same_start (rw same_opened (rw w.0 (rw w.1 (ticks_kept start calls opened r by_then))))

-- a write that finds no room
module _ (start later_start : List ℕ) (calls later : List Call) (opened mid later_opened : List ℕ) (r later_r at n : ℕ) (by_then : (i : ℕ) → get_or opened i 0 ≤ r) (same_start : later_start ≡ start) (same_mid : mid ≡ opened) (w : (later_r ≡ r + 1) × (later ≡ calls)) (more : UnsettlesAt at n later_r mid later_opened) where
  all_more : UnsettlesAt at n (r + 1) opened later_opened
  all_more = subst (λ (k : ℕ). UnsettlesAt at n k opened later_opened) w.0 (subst (λ (l : List ℕ). UnsettlesAt at n later_r l later_opened) same_mid more)

  pub ticks_no_room : Ticks (length calls + r) (length later + later_r) (IsLeftAt start calls opened) (IsLeftAt later_start later later_opened)
  ticks_no_room = rw same_start (rw w.0 (rw w.1 (ticks_refused start calls opened r by_then later_opened at n all_more)))

  pub opens_no_room : ((d : List ℕ) → IsLeftAtCall start calls (length calls + r) d → at + n ≤ length d) → Unsettles at n (IsLeftAt start calls opened (length calls + r)) (IsLeftAt later_start later later_opened (length later + later_r))
  opens_no_room within = rw same_start (rw w.0 (rw w.1 (opens_refused start calls opened r by_then later_opened at n all_more within)))

-- A volume that is restarted.
module _ (start : List ℕ) (calls : List Call) (opened : List ℕ) (r : ℕ) (by_then : (i : ℕ) → get_or opened i 0 ≤ r) where
  -- what the calls leave, with any bytes where calls that found no room would have written
  pub found : (left image : List ℕ) → IsLeftAtCall start calls (length calls) left → length image ≡ length left → ((i : ℕ) → get_or opened i 0 ≡ 0 → get_or image i 0 ≡ get_or left i 0) → IsLeftAt start calls opened (length calls + r) image
  found left image was_left long same = record {
    kept = left;
    was_left = left_whole start calls r left was_left;
    differs = record { same_length = long; elsewhere = λ i out. same i (unopened i out) };
  }
    where
      none_or_some : (n : ℕ) → (n ≡ 0) ⊎ (1 ≤ n)
      none_or_some zero = inl refl
      none_or_some (suc n) = inr (omega arith)

      unopened : (i : ℕ) → (IsUnsettled opened (length calls + r - length calls) i → ⊥) → get_or opened i 0 ≡ 0
      unopened i out = let by = by_then i in ⊎_elim (λ (none : get_or opened i 0 ≡ 0). none) (λ (some : 1 ≤ get_or opened i 0). absurd (out (some, omega arith))) (none_or_some (get_or opened i 0))

  -- each byte of the image is that of the fill, or one that is settled
  pub filled : (left image fill : List ℕ) → ((i : ℕ) → (get_or left i 0 ≡ get_or fill i 0) ⊎ ((c : List ℕ) → IsLeftAtCall start calls (length calls) c → get_or c i 0 ≡ get_or left i 0))
      → ((i : ℕ) → 1 ≤ get_or opened i 0 → get_or image i 0 ≡ get_or fill i 0) → ((i : ℕ) → get_or opened i 0 ≡ 0 → get_or image i 0 ≡ get_or left i 0)
      → (i : ℕ) → (get_or image i 0 ≡ get_or fill i 0) ⊎ ((c : List ℕ) → IsLeftAt start calls opened (length calls + r) c → get_or c i 0 ≡ get_or image i 0)
  filled left image fill so_far there elsewhere i = by_number (get_or opened i 0) refl
    where
      by_number : (n : ℕ) → get_or opened i 0 ≡ n → (get_or image i 0 ≡ get_or fill i 0) ⊎ ((c : List ℕ) → IsLeftAt start calls opened (length calls + r) c → get_or c i 0 ≡ get_or image i 0)
      by_number zero none = ⊎_elim
          (λ (is : get_or left i 0 ≡ get_or fill i 0). inl (elsewhere i none ∙ is))
          (λ (settled : (c : List ℕ) → IsLeftAtCall start calls (length calls) c → get_or c i 0 ≡ get_or left i 0). inr (λ c h. h.differs.elsewhere i (λ here. let low = here.0 in omega arith) ∙ settled h.kept (left_part start calls r h.kept h.was_left) ∙ sym (elsewhere i none)))
          (so_far i)
      by_number (suc n) some = inl (there i (omega arith))

pub settled_anew : (start : List ℕ) (calls : List Call) (opened : List ℕ) (r : ℕ) (image : List ℕ) → calls ≡ [] → r ≡ 0 → image ≡ start → LeavesOneImage image (IsLeftAt start calls opened (length calls + r))
settled_anew start calls opened r image none fresh same c =
    let both = within_calls start calls opened (length calls + r) c (omega arith) in
    let empty : take (length calls + r) calls ≡ [] = take_all (length calls + r) calls (omega arith) ∙ none in (
      λ h. subst (λ (l : List Call). IsLeftAfterCalls (λ d. d ≡ start) l c) empty (both.0 h) ∙ sym same,
      λ h. both.1 (subst (λ (l : List Call). IsLeftAfterCalls (λ d. d ≡ start) l c) (sym empty) (h ∙ same)),
    )

pub not_no_room : (n other : CallResult) → n ≡ other → (other ≡ NoRoom → ⊥) → n ≡ NoRoom → ⊥
not_no_room n other is not none = not (sym is ∙ none)

pub only_no_room : (n : CallResult) → (n ≡ Answered → ⊥) → (n ≡ Failed → ⊥) → n ≡ NoRoom
only_no_room Answered answered failed = absurd (answered refl)
only_no_room Failed answered failed = absurd (failed refl)
only_no_room NoRoom answered failed = refl
