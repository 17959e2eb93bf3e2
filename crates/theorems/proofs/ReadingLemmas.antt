-- What is read of a custody that was reached from a beginning: of a part its bytes as they were received, of a revision why it has failed, and of an audit that no part is damaged.
use Rattle.std.proofs.Common.{◌≡◌, ◌⊎◌, inl, inr, ⊎_elim, ℕ, List, [], ◌∷◌, ◌++◌, None, Some, true, false, refl, sym, ◌∙◌, ap, subst, arith, Result, Ok, Err}
use Rattle.std.specs.Prelude.{Contains, IfOk, IfErr}
use Rattle.std.specs.FinMap.{get}
use Rattle.std.proofs.lemmas.List.Elements.{Contains-append_left, Contains-append_right, Contains-push}
use Rattle.std.proofs.lemmas.Option.{same_Some}
use Rattle.deposit_name.specs.declared.errors.NameError.{NameError}
use Rattle.deposit_name.specs.declared.kinds.Kind.{Kind}
use Rattle.deposit_name.specs.Name.{Name, name_text, is_same_kind}
use Rattle.deposit_name.proofs.KindLemmas.{same_kind_decides}
use Rattle.vault_volume.specs.declared.volume.Volume as volume
use Rattle.sqlite.specs.Store.{Ghosts}
use Rattle.custody_records.specs.Records.{Records, key_of}
use Rattle.custody_machine.specs.declared.answers.Failure.{Failure}
use Rattle.custody_machine.specs.declared.answers.Failure.TheVariants.{NoMemory, VolumeFailed, StoreFailed, Closed, Damaged}
use Rattle.custody_machine.specs.NameReading.{read_name}
use Rattle.custody_machine.specs.State.{State, Part, Content, Held, Dropped}
use Rattle.custody_machine.specs.Machine.{Command, Receive, TimedCommand, Record, state_of, state_after, after, part_at, part_under_name, is_dropped, are_bytes_dropped, bytes_held, bytes_in, content_len}
use Rattle.custody_machine.specs.History.{Event, WasReceived, IsHistory, found, none_found}
use Rattle.custody_machine.specs.StoredState.{HasDigests, state_in}
use Rattle.custody_machine.specs.Explaining.{explain_refusal}
use Rattle.custody_machine.specs.FetchResult.{fetch_result, part_named}
use Rattle.custody_machine.proofs.NameReading.{read_is}
use Rattle.custody_machine.proofs.Accepting.{recorded_is, recorded_of}
use Rattle.custody_machine.proofs.Continuing.{IsKeptPart, KeepsPart, step_continues}
use Rattle.custody_machine.proofs.Fetching.{fetches_held, fetches_one}
use Rattle.custody_machine.proofs.Histories.{fits_first}
use Rattle.custody_machine.proofs.Keeping.{Keeps, accepted_is_kept, keeps_on}
use Rattle.custody_machine.proofs.Moves.{moves_are_histories, places_are_right}
use Rattle.custody_machine.proofs.Received.{held_as_received}
use Rattle.custody_machine.proofs.Retries.{AllAccepted, accepted_after}
use Rattle.custody.specs.declared.answers.Refused.{Refused}
use Rattle.custody.specs.declared.answers.Refused.TheVariants as refused
use Rattle.custody.specs.declared.custody.Custody.{Custody}
use Rattle.custody.specs.declared.explanation.Explanation.{Explanation}
use Rattle.custody.specs.Custody.{open_custody_of}
use Rattle.custody.specs.OpenCustody.{current_records, image_of}
use Rattle.custody.specs.Explaining.{IsExplained, IsExplanation}
use Rattle.custody.specs.Fetching.{IsFetched}
use Rattle.custody.specs.Auditing.{AreDamaged}
use Rattle.theorems.specs.Sessions.{place_of}
use Rattle.theorems.specs.Reading.{ReceivesUnder, HasPartAtFirst, AreReceivedBytes, IsReadAsReceived, IsExplainedInState, ListsNoDamage, FetchesAsReceived, ExplainsState, AuditsListNone}
use Rattle.theorems.proofs.ServingLemmas.{contains-cons}

-- ---- the commands found

-- the commands found were each accepted
pub found_accepted : (first : State) (events : List Event) → IsHistory first events → AllAccepted first (found first events)
found_accepted first events h = accepted_after first h.0 events h.1 none_found (fits_first first h.0 h.2) h.3 tt

-- what is kept is kept by those that come then
kept_behind : (s : State) (c : Command) (entry : Record) (es : List TimedCommand) → Keeps s c entry → AllAccepted s es → Keeps (after s es) c entry
kept_behind s c entry [] k all = k
kept_behind s c entry (e ∷ es) k all =
    subst (λ t. Keeps (after t es) c entry) (sym (ap (state_of s) all.2)) (kept_behind all.1 c entry es (keeps_on s all.1 c entry (step_continues s e.0 e.1 all.0 all.1 all.2) k) all.3)

-- what each of them made is kept
each_is_kept : (s : State) (es : List TimedCommand) (e : TimedCommand) → AllAccepted s es → Contains es e → (entry : Record) × Keeps (after s es) e.0 entry
each_is_kept s [] e all has = let never = has.1 in absurd (omega arith)
each_is_kept s (x ∷ xs) e all has = by (contains-cons x e xs has) (λ rest. each_is_kept all.1 xs e all.3 rest)
  where
    to : state_after s x.0 x.1 ≡ all.1
    to = ap (state_of s) all.2

    own : Keeps (after (state_after s x.0 x.1) xs) x.0 all.0.entry
    own = subst (λ t. Keeps (after t xs) x.0 all.0.entry) (sym to) (kept_behind all.1 x.0 all.0.entry xs (accepted_is_kept s x.0 x.1 all.0 all.1 all.2) all.3)

    by : (x ≡ e) ⊎ Contains xs e → (Contains xs e → (entry : Record) × Keeps (after all.1 xs) e.0 entry) → (entry : Record) × Keeps (after (state_after s x.0 x.1) xs) e.0 entry
    by (inl is) rest = (all.0.entry, subst (λ (c : TimedCommand). Keeps (after (state_after s x.0 x.1) xs) c.0 all.0.entry) is own)
    by (inr has) rest = let kept = rest has in (kept.0, subst (λ t. Keeps (after t xs) e.0 kept.0) (sym to) kept.1)

-- the part that one of them received is recorded under its name
pub found_is_recorded : (first : State) (entries : List TimedCommand) → AllAccepted first entries → (entry : TimedCommand) (text bytes : List ℕ) → Contains entries entry → ReceivesUnder entry text bytes → (part : Part) × (part_named (after first entries) (read_name text) ≡ Some part)
found_is_recorded first entries all entry text bytes has is =
    let made = each_is_kept first entries entry all has in
    let keeps : KeepsPart (after first entries) text bytes made.0 = subst (λ c. Keeps (after first entries) c made.0) is made.1 in
    (keeps.kept, ap (part_named (after first entries)) keeps.named ∙ recorded_of (after first entries) keeps.name keeps.kept keeps.at (same_kind keeps.part keeps.kept keeps.same keeps.name.kind ∙ keeps.kind))
  where
    same_kind : (part kept : Part) → IsKeptPart part kept → (kind : Kind) → is_same_kind kept.kind kind ≡ is_same_kind part.kind kind
    same_kind part kept (inl is) kind = ap (λ (p : Part). is_same_kind p.kind kind) is
    same_kind part kept (inr is) kind = ap (λ (p : Part). is_same_kind p.kind kind) is

-- ---- names

one_read : (text : List ℕ) (a b : Name) → read_name text ≡ Ok a → read_name text ≡ Ok b → a ≡ b
one_read text a b p q = cc

one_name : (a b : Name) → key_of a ≡ key_of b → a.kind ≡ b.kind → a ≡ b
one_name a b keys kinds = λ i. record { tld = (keys i).tld; day = (keys i).day; kind = kinds i; part = (keys i).part; rev = (keys i).rev }

-- ---- the bytes of a part

-- a part is recorded under the name that a text is, and has these bytes
abbrev pub HasBytesUnder : State → (text bytes : List ℕ) → Type 0
HasBytesUnder state text bytes = (name : Name) × (part : Part) × (read_name text ≡ Ok name) × (part_under_name state name ≡ Some part) × (part.content ≡ Held bytes)

held_so : (part : Part) (bytes : List ℕ) → are_bytes_dropped part.content ≡ false → bytes_in part.content ≡ bytes → part.content ≡ Held bytes
held_so part bytes whole same = by part.content whole same
  where
    by : (content : Content) → are_bytes_dropped content ≡ false → bytes_in content ≡ bytes → content ≡ Held bytes
    by (Held own) whole same = ap Held same
    by (Dropped len) whole same = cc

-- so does one of which bytes are fetched
pub fetched_under : (state : State) (reference text bytes : List ℕ) (part : Part) → part_named state (read_name text) ≡ Some part → fetch_result state reference text ≡ Ok bytes → HasBytesUnder state text bytes
fetched_under state reference text bytes part at e =
    let fetched = ((fetches_one state reference text).held bytes).0 e in
    by (read_name text) refl at (held_so part bytes (ap is_dropped (sym at) ∙ fetched.1) (ap bytes_held (sym at) ∙ fetched.2))
  where
    by : (r : Result Name NameError) → read_name text ≡ r → part_named state r ≡ Some part → part.content ≡ Held bytes → HasBytesUnder state text bytes
    by (Err fault) is none held = cc
    by (Ok name) is there held = (name, part, is, there, held)

module _ (first : State) (entries : List TimedCommand) (all : AllAccepted first entries) where
  module _ (text bytes : List ℕ) (name : Name) (part : Part) (named : read_name text ≡ Ok name) (at : part_under_name (after first entries) name ≡ Some part) (held : part.content ≡ Held bytes) where
    recorded : (part_at (after first entries) (key_of name) ≡ Some part) × (is_same_kind part.kind name.kind ≡ true)
    recorded = recorded_is (after first entries) name part at

    kind : part.kind ≡ name.kind
    kind = (same_kind_decides part.kind name.kind).0 recorded.1

    -- they were received by one of the commands, or before the first state
    came : (get first.parts (key_of name) ≡ Some part) ⊎ WasReceived entries (key_of name) part bytes → HasPartAtFirst first text bytes ⊎ ((entry : TimedCommand) × Contains entries entry × ReceivesUnder entry text bytes)
    came (inl there) = inl (record { read = name; part = part; named = named; kept = there; kind = kind; held = held })
    came (inr w) =
        let same : w.3 ≡ name = one_name w.3 name w.6 (w.7 ∙ kind) in
        let of_text : w.2 ≡ text = (read_is w.2 w.3 w.5).1 ∙ ap name_text same ∙ sym (read_is text name named).1 in
        let entry : TimedCommand = (Receive w.2 bytes, part.received) in
        let there : Contains (w.0 ++ entry ∷ w.1) entry = Contains-append_right w.0 (entry ∷ w.1) entry (Contains-append_left (entry ∷ []) w.1 entry (Contains-push [] entry)) in
        inr (entry, subst (λ l. Contains l entry) (sym w.4) there, ap (λ t. Receive t bytes) of_text)

    -- and by each that received bytes under the name
    module _ (entry : TimedCommand) (other : List ℕ) (has : Contains entries entry) (is : ReceivesUnder entry text other) where
      keeps : (made : Record) × KeepsPart (after first entries) text other made
      keeps = let kept = each_is_kept first entries entry all has in (kept.0, subst (λ c. Keeps (after first entries) c kept.0) is kept.1)

      same_part : keeps.1.kept ≡ part
      same_part = same_Some keeps.1.kept part (sym keeps.1.at ∙ ap (λ (n : Name). part_at (after first entries) (key_of n)) (one_read text keeps.1.name name keeps.1.named named) ∙ recorded.0)

      same_bytes : other ≡ bytes
      same_bytes = by keeps.1.same
        where
          content : keeps.1.kept.content ≡ Held bytes
          content = ap (λ (p : Part). p.content) same_part ∙ held

          by : IsKeptPart keeps.1.part keeps.1.kept → other ≡ bytes
          by (inl as_it_was) = let both : Held other ≡ Held bytes = sym keeps.1.content ∙ ap (λ (p : Part). p.content) (sym as_it_was) ∙ content in cc
          by (inr gone) = let clash : Dropped (content_len keeps.1.part.content) ≡ Held bytes = ap (λ (p : Part). p.content) (sym gone) ∙ content in cc

    as_received : AreReceivedBytes first entries text bytes
    as_received = record {
      received = came (held_as_received first entries (key_of name) part bytes recorded.0 held);
      only = λ entry other has is. same_bytes entry other has is;
    }

  -- ---- a fetch

  -- what is fetched where records and image have the state, and each part its digest
  pub fetched_as_received : (records : Records) (image : List ℕ) → state_in records image ≡ after first entries → HasDigests image records → (reference text : List ℕ) (r : Result (List ℕ) Refused)
      → ((bytes : List ℕ) → fetch_result (state_in records image) reference text ≡ Ok bytes → HasBytesUnder (state_in records image) text bytes) → IsFetched records image reference text r → IsReadAsReceived first entries reference text r
  fetched_as_received records image same digests reference text (Ok bytes) under h =
      let has = subst (λ s. HasBytesUnder s text bytes) same (under bytes h.0) in
      let fetched : fetch_result (after first entries) reference text ≡ Ok bytes = subst (λ s. fetch_result s reference text ≡ Ok bytes) same h.0 in
      ((((fetches_one (after first entries) reference text).held bytes).0 fetched).0, as_received text bytes has.0 has.1 has.2 has.3 has.4)
  fetched_as_received records image same digests reference text (Err (refused.Refusal refusal)) under h = subst (λ s. fetch_result s reference text ≡ Err refusal) same h
  fetched_as_received records image same digests reference text (Err (refused.Failure NoMemory)) under h = tt
  fetched_as_received records image same digests reference text (Err (refused.Failure VolumeFailed)) under h = tt
  fetched_as_received records image same digests reference text (Err (refused.Failure StoreFailed)) under h = h
  fetched_as_received records image same digests reference text (Err (refused.Failure Closed)) under h = h
  fetched_as_received records image same digests reference text (Err (refused.Failure (Damaged damage))) under h = h (λ name is. digests (key_of name))

-- ---- an explanation

-- what is explained where records and image have the state, and each part its digest
pub explained_in_state : (state : State) (records : Records) (image : List ℕ) → state_in records image ≡ state → HasDigests image records → (tld : List ℕ) (day rev : ℕ) (r : Result Explanation Refused)
    → IsExplained records image tld day rev r → IsExplainedInState state tld day rev r
explained_in_state state records image same digests tld day rev (Ok told) h = (subst (λ s. explain_refusal s tld day rev ≡ None) same h.held, subst (λ s. IsExplanation s tld day rev told) same h.explained)
explained_in_state state records image same digests tld day rev (Err (refused.Refusal refusal)) h = subst (λ s. explain_refusal s tld day rev ≡ Some refusal) same h
explained_in_state state records image same digests tld day rev (Err (refused.Failure NoMemory)) h = tt
explained_in_state state records image same digests tld day rev (Err (refused.Failure VolumeFailed)) h = tt
explained_in_state state records image same digests tld day rev (Err (refused.Failure StoreFailed)) h = h
explained_in_state state records image same digests tld day rev (Err (refused.Failure Closed)) h = h
explained_in_state state records image same digests tld day rev (Err (refused.Failure (Damaged damage))) h = h.broken (digests h.place)

-- ---- an audit

none_damaged : (records : Records) (image : List ℕ) (names : List Name) → HasDigests image records → AreDamaged records image names → names ≡ []
none_damaged records image [] digests are = refl
none_damaged records image (name ∷ names) digests are =
    let damaged = (are.exact name).0 (Contains-append_left (name ∷ []) names name (Contains-push [] name)) in absurd (damaged.1 (digests (key_of name)))

lists_none : (records : Records) (image : List ℕ) → HasDigests image records → (answer : Result (List Name) Failure) → IfErr answer (λ failure. (failure ≡ NoMemory) ⊎ (failure ≡ VolumeFailed)) → IfOk answer (AreDamaged records image) → ListsNoDamage answer
lists_none records image digests (Ok names) fails damaged = none_damaged records image names digests damaged
lists_none records image digests (Err NoMemory) fails damaged = tt
lists_none records image digests (Err VolumeFailed) fails damaged = tt
lists_none records image digests (Err StoreFailed) fails damaged = ⊎_elim (λ e. cc) (λ e. cc) fails
lists_none records image digests (Err Closed) fails damaged = ⊎_elim (λ e. cc) (λ e. cc) fails
lists_none records image digests (Err (Damaged damage)) fails damaged = ⊎_elim (λ e. cc) (λ e. cc) fails

-- ---- the law

module _ {V S : Type 0} {g : volume.Ghosts V} {database : Ghosts S} (tells : g.tells) where
  -- the records of an open custody belong together, so a release's names are those of recorded parts
  pub fetches_as_received : (old new : Custody V S g database) → FetchesAsReceived database old new
  fetches_as_received old new first events h reference name answer did =
      let records = current_records (open_custody_of old) in
      let image = image_of (open_custody_of old) in
      let here = places_are_right first h.start (place_of database old) events h.begun h.moves in
      let all = found_accepted first events (moves_are_histories first h.start (place_of database old) events h.begun h.moves) in
      fetched_as_received first (found first events) all records image here.0 here.1 reference name answer
      (λ bytes e. fetches_held records image reference name bytes (old.order h.opened).whole.linked e) (did.bytes h.opened tells)

  pub explains_state : (old new : Custody V S g database) → ExplainsState database old new
  explains_state old new first events h tld day rev answer did =
      let here = places_are_right first h.start (place_of database old) events h.begun h.moves in
      explained_in_state (after first (found first events)) (current_records (open_custody_of old)) (image_of (open_custody_of old)) here.0 here.1 tld day rev answer (did.told h.opened tells)

  pub audits_list_none : (old new : Custody V S g database) → AuditsListNone database old new
  audits_list_none old new first events h answer did =
      let here = places_are_right first h.start (place_of database old) events h.begun h.moves in
      lists_none (current_records (open_custody_of old)) (image_of (open_custody_of old)) here.1 answer (did.fails h.opened) (did.damaged h.opened tells)
