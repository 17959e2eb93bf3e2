use Rattle.std.proofs.Common.{◌≡◌, ◌∙◌, List, ℕ, [], subst, sym}
use Rattle.std.specs.Prelude.{None}
use Rattle.std.proofs.lemmas.List.{length-map}
use Rattle.dnrd_csv.specs.inside.RowKeys.{borrowed_texts}
use Rattle.envelope.specs.Envelope.{Env, env_of}
use Rattle.deposit_name.specs.declared.kinds.Kind.TheVariants.{Full}
use Rattle.deposit_verify.specs.Checks.{HasMenu}
use Rattle.deposit_verify.specs.Deposit.{IsDeposit, IsFileOf, all_entries}
use Rattle.deposit_verify.specs.HeaderReasons.{IsMenuReason}
use Rattle.deposit_verify.specs.Known.{Known}
use Rattle.deposit_verify.specs.Reasons.{IsReason}
use Rattle.deposit_verify.specs.declared.header_reason.MenuReason.{MenuReason}
use Rattle.deposit_verify.specs.inside.Reading.{OneReading}
use Rattle.deposit_verify.specs.declared.reason.Reason.{Reason}
use Rattle.deposit_verify.specs.declared.reason.Reason.TheVariants.{Frame, Envelope, Header, Read, Tables}
use Rattle.deposit_verify.proofs.Lists.{zip_length}
use Rattle.deposit_verify.proofs.Lifted.{one_envelope}
use Rattle.deposit_verify.proofs.MenuLemmas.{menu_fails}
use Rattle.deposit_pack.specs.Unpacking.{IsUnpackReason, MayUnpack}
use Rattle.deposit_pack.proofs.unpacking.unpack.Goals as goal

nothing_known : Known
nothing_known = record { name = record { tld = []; day = 0; kind = Full; part = 1; rev = 0 }; id = []; latest = None; full = None; passed = []; base = None }

-- why a deposit without an envelope fails is why it is not unpacked
no_envelope : (joined : List ℕ) (reason : Reason) → ((v : Env) (rest : List ℕ) → ¬ IsDeposit joined v rest) → ((known : Known) → IsReason joined known reason) → IsUnpackReason joined reason
no_envelope joined (Frame fault) none told = (told nothing_known).place
no_envelope joined (Envelope fault) none told = (told nothing_known).place
no_envelope joined (Header reason) none told = let place = (told nothing_known).place in absurd (none place.0 place.1 place.2)
no_envelope joined (Read fault) none told = let place = (told nothing_known).place in absurd (none place.0 place.1 place.2)
no_envelope joined (Tables reason) none told = let place = (told nothing_known).place in absurd (none place.0 place.1 place.2)

-- a deposit of this envelope alone, whose menu is not right, is not unpacked
no_menu : (joined : List ℕ) (v : Env) (reason : MenuReason) → ((w : Env) (more : List ℕ) → IsDeposit joined w more → v ≡ w) → IsMenuReason v reason → MayUnpack joined → ⊥
no_menu joined v reason only is may = menu_fails v reason is (subst HasMenu (sym (only may.0 may.1 may.2)) may.3.0)

pub returns-in-Err-clause-unpacked : goal.returns-in-Err-clause-unpacked
returns-in-Err-clause-unpacked c = λ may. (rw c.in-Err.is at c.in_ok-found.ensures.none) may.0 may.1 may.2

pub returns-in-Err-clause-reason : goal.returns-in-Err-clause-reason
returns-in-Err-clause-reason c =
    no_envelope c.args.joined.now c.in-Err.reason (rw c.in-Err.is at c.in_ok-found.ensures.none) (rw c.in-Err.is at c.in_ok-found.ensures.reason)

pub returns-in-Some-clause-unpacked : goal.returns-in-Some-clause-unpacked
returns-in-Some-clause-unpacked c =
    let one : OneReading = record { envelope = c.law_one_reading.ensures.envelope; frame = c.law_one_reading.ensures.frame } in
    let v = env_of c.in-Ok.found.envelope in
    let deposit = rw c.in-Ok.is at c.in_ok-found.ensures.found in
    no_menu c.args.joined.now v c.in-Some.reason (λ w more other. (one_envelope one c.args.joined.now w v more _ other deposit.0).0) c.in-Some.ensures

pub files_of-requires : goal.files_of-requires
files_of-requires c =
    let are = rw (c.in-Ok-2.is, ← c.deref.ensures.value) at c.in_ok-files.ensures.cut in
    sym (zip_length IsFileOf (all_entries (env_of c.in-Ok.found.envelope)) (borrowed_texts c.deref.result.now) are.each ∙ length-map c.deref.result.now (λ f. f.now))

pub returns-clause-unpacked : goal.returns-clause-unpacked
returns-clause-unpacked c = λ may.
    let one : OneReading = record { envelope = c.law_one_reading.ensures.envelope; frame = c.law_one_reading.ensures.frame } in
    let v = env_of c.in-Ok.found.envelope in
    let deposit = rw c.in-Ok.is at c.in_ok-found.ensures.found in
    let same = one_envelope one c.args.joined.now v may.0 c.in-Ok.found.rest.now may.1 deposit.0 may.2 in
    let cut = rw c.in-Err-2.is at c.in_ok-files.ensures.cut in
    let files = rw (same.0, same.1) at may.3.1 in
    cut files.0 files.1
