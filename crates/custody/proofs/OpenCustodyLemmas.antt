-- How the calls of volume and database make up a command over an open custody.
use Rattle.std.proofs.Common.{◌≡◌, ◌≢◌, ◌⊎◌, inl, inr, ⊎_elim, ℕ, ◌-◌, ◌<◌, ◌^◌, List, None, Bool, true, false, not, refl, sym, ◌∙◌, ap, subst, arith, Result, Ok, Err}
use Rattle.std.proofs.Math.Nat.{le_refl}
use Rattle.std.specs.Prelude.{is_err, OnOk, IsErrAnd}
use Rattle.std.specs.FinMap.{get}
use Rattle.schedule.specs.Schedule.{IsDay}
use Rattle.deposit_name.specs.Identifiers.{IsTld}
use Rattle.sqlite.specs.State.{State}
use Rattle.vault_volume.specs.declared.volume.Volume as volume
use Rattle.vault_volume.specs.Disk.{LeavesOnly}
use Rattle.vault_volume.specs.Vault.{volume_of, IsFree}
use Rattle.vault_volume.specs.Image.{DiffersOnlyIn}
use Rattle.vault_volume.specs.Extents.{SameFree}
use Rattle.vault_volume.proofs.ImageLemmas.{in_more}
use Rattle.vault_volume.proofs.Moments.{leaves_weaker, nothing_yet}
use Rattle.custody_records.specs.Records.{Records, with_registry}
use Rattle.custody_records.specs.Rows.{Rows, with_registry_row}
use Rattle.custody_records.specs.Form.{form_of, InForm, HasCurrentSchema}
use Rattle.custody_records.specs.RowsOfRecords.{row_of_registry}
use Rattle.custody_records.proofs.FormLemmas.{registry_inserted}
use Rattle.custody_records.proofs.ReadBack.{registry_read_back}
use Rattle.custody_store.specs.StoreState.{as_store_state, IsOneCommit}
use Rattle.sqlite.specs.Store.{Ghosts}
use Rattle.custody_machine.specs.Machine as machine
use Rattle.custody_machine.specs.Machine.{Command, Accept, step, Accepted, MayAnswer}
use Rattle.custody_machine.specs.History.{is_open_after}
use Rattle.custody_machine.specs.StoredState.{AreWhole, IsVolumeOf, AreWholeOnVolume, state_in}
use Rattle.custody_machine.specs.Moves.{DependsOnBytes}
use Rattle.custody_machine.specs.Custody.{IsPlaceable, HasRoomForCommand, IsInStore, LeftSince, AnswersCommand}
use Rattle.custody_machine.specs.declared.answers.Failure.TheVariants.{VolumeFailed, StoreFailed, Closed}
use Rattle.custody_machine.specs.declared.answers.Refusal.TheVariants.{VolumeFull}
use Rattle.custody_machine.proofs.Composed.{IsChange, good_now, changes_nothing, accepts, in_doubt}
use Rattle.custody.specs.declared.answers.Reply.{Reply}
use Rattle.custody.specs.declared.answers.Refused.{Refused}
use Rattle.custody.specs.declared.answers.Refused.TheVariants as refused
use Rattle.custody.specs.declared.open_custody.OpenCustody.{OpenCustody}
use Rattle.custody.specs.Answers.{answer_of, stays_open, uses_volume, may_call}
use Rattle.custody.specs.OpenCustody.{current_records, store_state_of, image_of, failures_of, MayLeaveImage, MayLeaveImageSince, contents_of, left_by_call, KeepsPast, KeepsOrder, KeepsImage, KeepsRows, IsSafe, HasAnsweredCommand}

-- ---- results

pub on_ok : {T E : Type 0} (P : Type 0) (r : Result T E) (b : Bool) → b ≡ is_err r → b ≡ false → OnOk r P → P
on_ok P (Ok x) b is good p = p
on_ok P (Err e) b is good p = cc

pub err_is : {T E : Type 0} (r : Result T E) (e : E) → IsErrAnd r (λ x. x ≡ e) → r ≡ Err e
err_is (Ok x) e h = absurd h
err_is (Err x) e h = ap Err h

-- ---- a volume that was not called

pub since_same : {V : Type 0} (moment : V → ℕ) (left_at : V → ℕ → List ℕ → Type 0) (v : V) (image : List ℕ) → LeftSince moment left_at v v image → left_at v (moment v) image
since_same moment left_at v image h =
    let from = h.1 in
    let to = h.2 in
    let same : h.0 ≡ moment v = omega arith in
    subst (λ t. left_at v t image) same h.3

pub stays_still : {V : Type 0} (moment : V → ℕ) (left_at : V → ℕ → List ℕ → Type 0) (v : V) → LeavesOnly moment left_at v v (left_at v (moment v))
stays_still moment left_at v = nothing_yet moment left_at v _ (λ c w. w)

-- and one that was only read
pub leaves_more : {V : Type 0} (moment : V → ℕ) (left_at : V → ℕ → List ℕ → Type 0) (old new : V) (P Q : List ℕ → Type 0) → ((c : List ℕ) → P c → Q c) → LeavesOnly moment left_at old new P → LeavesOnly moment left_at old new Q
leaves_more = leaves_weaker

-- ---- rows

-- the rows stand for the records, in the schema that has holds
abbrev pub StandFor : Rows → Records → Type 0
StandFor rows records = (form_of rows ≡ InForm records) × HasCurrentSchema rows

-- what a commit leaves, as records
module _ (old new : State) (records changed : Records) (after : Rows) (was : IsInStore records (as_store_state old).rows (as_store_state old).IsReady (as_store_state old).may_leave) (means : StandFor after changed) where
  -- a stop leaves the records from before or the changed ones
  pub either_form : {A E : Type 0} (r : Result A E) → IsOneCommit (as_store_state old) (as_store_state new) after r → (rows : Rows) → (as_store_state new).may_leave rows → (form_of rows ≡ InForm records) ⊎ (form_of rows ≡ InForm changed)
  either_form r commit rows left = ⊎_elim (λ (w : (as_store_state old).may_leave rows). inl (ap form_of (was.settled rows w) ∙ was.in_form)) (λ (e : rows ≡ after). inr (ap form_of e ∙ means.0)) (commit.left rows left)

  module _ (ready : (as_store_state new).IsReady) (is : (as_store_state new).rows ≡ after) where
    pub form_then : (rows : Rows) → (as_store_state new).may_leave rows → form_of rows ≡ InForm changed
    form_then rows left = ap form_of (ready.rest.only rows left ∙ is) ∙ means.0

    pub rows_then : (records_then : Records) → records_then ≡ changed → IsInStore records_then (as_store_state new).rows (as_store_state new).IsReady (as_store_state new).may_leave
    rows_then records_then same = record { ready = ready; in_form = ap form_of is ∙ means.0 ∙ ap InForm (sym same); current = subst HasCurrentSchema (sym is) means.1; settled = λ rows left. ready.rest.only rows left }

-- the row of a new registry
pub registry_means : (rows : Rows) (records : Records) (tld : List ℕ) (day : ℕ) → form_of rows ≡ InForm records → IsTld tld → IsDay day → get records.registries tld ≡ None → form_of (with_registry_row (row_of_registry tld day) rows) ≡ InForm (with_registry records tld day)
registry_means rows records tld day is form in_range new = registry_inserted rows records is (row_of_registry tld day) tld day (registry_read_back tld day form in_range) new

-- ---- answers

module _ {V S : Type 0} {g : volume.Ghosts V} (old new : OpenCustody V S g) (command : Command) where
  -- a command is done
  pub safe_done : (reply : Reply) → reply.is_repeat ≡ false → (uses_volume command ≡ false → volume_of new.vault ≡ volume_of old.vault) → failures_of new ≡ failures_of old → KeepsOrder new → IsSafe old command (Ok reply) new
  safe_done reply first uncalled failures order = record {
    answers = λ e. cc;
    failed = λ e. cc;
    not_failed = λ _. failures;
    full = λ e. cc;
    uncalled = uncalled;
    unchanged = λ same. by reply.is_repeat first same;
    order = λ _. order;
  }
    where
      by : (b : Bool) → b ≡ false → not b ≡ false → (current_records new ≡ current_records old) × (new.store ≡ old.store)
      by true e same = cc
      by false e same = cc

module _ {V S : Type 0} {g : volume.Ghosts V} (database : Ghosts S) (old new : OpenCustody V S g) (order : KeepsOrder old) (volume : KeepsImage old) (store : KeepsRows database old) (command : Command) (now : ℕ) where
  pub good_before : AreWholeOnVolume (current_records old) (image_of old)
  good_before = good_now (current_records old) (store_state_of database old).rows (image_of old) _ _ (IsFree old.vault) (store_state_of database old).IsReady (store_state_of database old).may_leave (MayLeaveImage old) order volume store

  -- it is refused, it failed before the commit, or it is a repeat
  pub does_nothing : (answer : Result Reply Refused) → MayAnswer (state_in (current_records old) (image_of old)) command now (answer_of command answer) (state_in (current_records old) (image_of old)) → DependsOnBytes (current_records old) (image_of old) command now (answer_of command answer)
      → stays_open answer ≡ is_open_after (answer_of command answer) → current_records new ≡ current_records old → (stays_open answer ≡ true → image_of new ≡ image_of old)
      → ((j : List ℕ) → MayLeaveImageSince old new j → DiffersOnlyIn (IsFree old.vault) (image_of old) j) → ((r : Rows) → (store_state_of database new).may_leave r → (store_state_of database old).may_leave r) → ((j : List ℕ) → MayLeaveImage new j → DiffersOnlyIn (IsFree old.vault) (image_of old) j)
      → HasAnsweredCommand database old command now answer new
  does_nothing answer allowed rests opened same image during rows_same images_same =
      changes_nothing (current_records old) (store_state_of database old).rows (image_of old) _ _ (IsFree old.vault) (store_state_of database old).IsReady (store_state_of database old).may_leave (MayLeaveImage old) order volume store
      command now (answer_of command answer) (stays_open answer) (current_records new) (image_of new) (MayLeaveImageSince old new) (store_state_of database new).may_leave (MayLeaveImage new) allowed rests opened (λ stays. (same, image stays)) during rows_same images_same

  module _ (changed : Records) (unsettled : ℕ → Type 0) (change : IsChange (current_records old) (image_of old) (IsFree old.vault) changed (image_of new) unsettled) where
    -- it is done, and answered
    pub does_change : (reply : Reply) (shown_reply : machine.Reply) → answer_of command (Ok reply) ≡ Accepted shown_reply → step (state_in (current_records old) (image_of old)) command now ≡ Accept shown_reply (state_in changed (image_of new))
        → DependsOnBytes (current_records old) (image_of old) command now (Accepted shown_reply) → current_records new ≡ changed
        → ((j : List ℕ) → MayLeaveImageSince old new j → DiffersOnlyIn (IsFree old.vault) (image_of old) j) → ((r : Rows) → (store_state_of database new).may_leave r → form_of r ≡ InForm changed) → ((j : List ℕ) → MayLeaveImage new j → DiffersOnlyIn unsettled (image_of new) j)
        → HasAnsweredCommand database old command now (Ok reply) new
    does_change reply shown_reply is ruled rests same during only images_same =
        subst (λ a. AnswersCommand (contents_of old) command now a true (contents_of new) (left_by_call database old new)) (sym is)
        (accepts (current_records old) (store_state_of database old).rows (image_of old) _ _ (IsFree old.vault) (store_state_of database old).IsReady (store_state_of database old).may_leave (MayLeaveImage old) order volume store
        changed (image_of new) unsettled change command now shown_reply ruled (current_records new) (image_of new) (MayLeaveImageSince old new) (store_state_of database new).may_leave (MayLeaveImage new) rests (same, refl) during only images_same)

    -- the commit failed: it is done or not
    pub is_in_doubt : (shown_reply : machine.Reply) → step (state_in (current_records old) (image_of old)) command now ≡ Accept shown_reply (state_in changed (image_of new)) → shown_reply.is_repeat ≡ false
        → ((j : List ℕ) → MayLeaveImageSince old new j → DiffersOnlyIn (IsFree old.vault) (image_of old) j) → ((r : Rows) → (store_state_of database new).may_leave r → (form_of r ≡ InForm (current_records old)) ⊎ (form_of r ≡ InForm changed)) → ((j : List ℕ) → MayLeaveImage new j → DiffersOnlyIn unsettled (image_of new) j)
        → HasAnsweredCommand database old command now (Err (refused.Failure StoreFailed)) new
    is_in_doubt shown_reply ruled first during either images_same =
        in_doubt (current_records old) (store_state_of database old).rows (image_of old) _ _ (IsFree old.vault) (store_state_of database old).IsReady (store_state_of database old).may_leave (MayLeaveImage old) order volume store
        changed (image_of new) unsettled change command now shown_reply ruled (current_records new) (image_of new) (MayLeaveImageSince old new) (store_state_of database new).may_leave (MayLeaveImage new) first during either images_same

-- ---- an open custody whose blocks and records are as they were

module _ {V S : Type 0} {g : volume.Ghosts V} (old new : OpenCustody V S g) (same : current_records new ≡ current_records old) (free : SameFree (IsFree old.vault) (IsFree new.vault)) where
  pub order_same : g.size (volume_of new.vault) ≡ g.size (volume_of old.vault) → failures_of new ≡ failures_of old → KeepsOrder old → KeepsOrder new
  order_same size failures order = record {
    whole = subst AreWhole (sym same) order.whole;
    blocks = size ∙ order.blocks ∙ ap (λ (r : Records). r.blocks) (sym same);
    placeable = λ b. (λ f. subst (λ r. IsPlaceable r b) (sym same) ((order.placeable b).0 ((free b).0 f)), λ p. (free b).1 ((order.placeable b).1 (subst (λ r. IsPlaceable r b) same p)));
    count = subst (λ n. n < 2 ^ 64 - 1) (sym failures) order.count;
  }

  pub image_same : image_of new ≡ image_of old → ((c : List ℕ) → MayLeaveImage new c → DiffersOnlyIn (IsFree old.vault) (image_of old) c) → KeepsImage old → KeepsImage new
  image_same image left volume = record {
    volume = subst (λ r. IsVolumeOf r (image_of new)) (sym same) (subst (IsVolumeOf (current_records old)) (sym image) volume.volume);
    elsewhere = λ c w. in_more (IsFree old.vault) (IsFree new.vault) (image_of new) c (λ b f. (free b).1 f) (subst (λ j. DiffersOnlyIn (IsFree old.vault) j c) (sym image) (left c w));
  }

  -- nothing was done
  pub safe_undone : (command : Command) (answer : Result Reply Refused) → answer ≢ Err (refused.Failure Closed) → (answer ≡ Err (refused.Failure VolumeFailed) → failures_of old < failures_of new) → (answer ≢ Err (refused.Failure VolumeFailed) → failures_of new ≡ failures_of old) → (answer ≡ Err (refused.Refusal VolumeFull) → ¬ HasRoomForCommand (current_records old) command)
      → (may_call command answer ≡ false → volume_of new.vault ≡ volume_of old.vault) → new.store ≡ old.store → (stays_open answer ≡ true → KeepsOrder new) → IsSafe old command answer new
  safe_undone command answer closed failed not_failed full uncalled store order = record { answers = closed; failed = failed; not_failed = not_failed; full = full; uncalled = uncalled; unchanged = λ _. (same, store); order = order }

-- ---- the clock

module _ {V S : Type 0} {g : volume.Ghosts V} where
  pub past_same : (h : OpenCustody V S g) → KeepsPast h h
  past_same h = (le_refl (g.moment (volume_of h.vault)), λ t c before. (λ w. w, λ w. w))

  pub past_join : (first mid last : OpenCustody V S g) → KeepsPast first mid → KeepsPast mid last → KeepsPast first last
  past_join first mid last a b = let from = a.0 in let to = b.0 in (
    omega arith,
    λ t c before. let here = a.1 t c before in let there = b.1 t c (omega arith) in (λ w. here.0 (there.0 w), λ w. there.1 (here.1 w)),
  )
