-- One transaction of statements, at each of its ends.
use Rattle.std.proofs.Common.{◌≡◌, ◌⊎◌, inl, inr, ℕ, ◌+◌, ◌<◌, ◌≤◌, List, [], ◌∷◌, ◌++◌, length, map, drop, get_or, true, false, Ok, Err, Result, IsTrue, refl, sym, ap, subst, ◌∙◌, arith}
use Rattle.std.specs.Result.{IsErr}
use Rattle.std.proofs.lemmas.List.{drop_all, drop_more}
use Rattle.sqlite.specs.Tree.{Trees}
use Rattle.sqlite.specs.declared.error.Error.{Error}
use Rattle.sqlite.specs.Store.{Ghosts}
use Rattle.sqlite.specs.Steps.{FailsToCommit}
use Rattle.sqlite.specs.State.{HasCleanDisk, Survives, KeepsCommit, IsRolledBack, Shows, ExecutesInside}
use Rattle.sqlite.specs.Held.{Held, state}
use Rattle.sqlite.proofs.StateLemmas.{survives_then}
use Rattle.sqlite.proofs.Callers.{survives_begin}
use Rattle.custody_store.specs.Calls.{SqlStatement, AreRun, RunsTogether}

-- the next statement, after which those that are left make a run of all
pub run_next : {S X : Type 0} (g : Ghosts S) (xs : List X) (f : X → SqlStatement) (run : List X → List SqlStatement) → ((x : X) (more : List X) → run (x ∷ more) ≡ f x ∷ run more)
    → (i : ℕ) (x : X) (old mid new last : Held S) → i < length xs → ((last : Held S) → AreRun g (run (drop i xs)) mid last → AreRun g (run xs) old last)
    → (count : ℕ) → ExecutesInside 0 (f (get_or xs i x)).0 (f (get_or xs i x)).1 (state g mid) (state g new) (Ok count) → AreRun g (run (drop (i + 1) xs)) new last → AreRun g (run xs) old last
run_next g xs f run next i x old mid new last low before count executes ran =
    before last (subst (λ l. AreRun g l mid last) (sym (ap run (drop_more xs i x low) ∙ next (get_or xs i x) (drop (i + 1) xs))) (count, new, executes, ran))

-- and the last, after all those
pub run_last : {S X : Type 0} (g : Ghosts S) (f : X → SqlStatement) (it : SqlStatement) (xs : List X) (i : ℕ) (old mid new : Held S) → length xs ≤ i → ((last : Held S) → AreRun g (map f (drop i xs) ++ it ∷ []) mid last → AreRun g (map f xs ++ it ∷ []) old last)
    → (count : ℕ) → ExecutesInside 0 it.0 it.1 (state g mid) (state g new) (Ok count) → AreRun g (map f xs ++ it ∷ []) old new
run_last g f it xs i old mid new all before count executes = before new (subst (λ l. AreRun g (map f l ++ it ∷ []) mid new) (sym (drop_all i xs all)) (count, new, executes, refl))

-- and none is left
pub run_whole : {S X : Type 0} (g : Ghosts S) (f : X → SqlStatement) (xs : List X) (i : ℕ) (old new : Held S) → length xs ≤ i → ((last : Held S) → AreRun g (map f (drop i xs)) new last → AreRun g (map f xs) old last) → AreRun g (map f xs) old new
run_whole g f xs i old new all before = before new (subst (λ l. AreRun g (map f l) new new) (sym (drop_all i xs all)) refl)

-- inside a transaction it stays so
pub still_inside : {S : Type 0} (g : Ghosts S) (statements : List SqlStatement) (old new : Held S) → IsTrue old.in_transaction → AreRun g statements old new → IsTrue new.in_transaction
still_inside g [] old new inside same = subst (λ h. IsTrue h.in_transaction) same inside
still_inside g (it ∷ rest) old new inside ran = still_inside g rest ran.1 new ran.2.1.mode ran.3

-- a run inside a transaction commits nothing
pub keeps_committed : {S : Type 0} (g : Ghosts S) (statements : List SqlStatement) (old new : Held S) → AreRun g statements old new → (state g new).committed ≡ (state g old).committed
keeps_committed g [] old new same = ap (λ h. (state g h).committed) (sym same)
keeps_committed g (it ∷ rest) old new ran = keeps_committed g rest ran.1 new ran.3 ∙ ran.2.1.committed_is

-- the one statement of a list
pub only_run : {S : Type 0} (g : Ghosts S) (it : SqlStatement) (old new : Held S) → AreRun g (it ∷ []) old new → (count : ℕ) × ExecutesInside 0 it.0 it.1 (state g old) (state g new) (Ok count)
only_run g it old new ran = (ran.0, subst (λ h. ExecutesInside 0 it.0 it.1 (state g old) (state g h) (Ok ran.0)) ran.3 ran.2)

module _ {S : Type 0} (g : Ghosts S) (statements : List SqlStatement) (old begun mid end exit : Held S) (is : begun ≡ record old { in_transaction = true }) (same : end ≡ exit) (within : Survives (state g begun) (state g mid) (λ _. ⊥)) where
  inside : IsTrue begun.in_transaction
  inside = ap (λ h. h.in_transaction) is

  survives : (P : Trees → Type 0) → Survives (state g mid) (state g end) P → Survives (state g old) (state g end) P
  survives P h = survives_begin g old (state g end) P (subst (λ b. Survives (state g b) (state g end) P) is (survives_then (state g begun) (state g mid) (state g end) _ _ P (λ _ db none. absurd none) (λ _ db k. k) within h))

  -- what stands where it was rolled back
  back : IsRolledBack (state g mid) (state g end) → (IsTrue (state g mid).is_open → (state g mid).committed ≡ (state g begun).committed) → (state g old).committed ≡ (state g old).now → IsTrue (state g end).is_open
      → ((state g end).now ≡ (state g old).now) × ((state g end).committed ≡ (state g old).now)
  back undone kept settled is_open =
      let both = undone.undone is_open in
      let was = kept (undone.was_open is_open) ∙ ap (λ h. (state g h).committed) is ∙ settled in
      (both.0 ∙ was, both.1 ∙ was)

  module _ (last : Survives (state g mid) (state g end) (λ db. db ≡ (state g mid).now.trees)) (runs : HasCleanDisk (state g mid) → IsTrue begun.in_transaction → AreRun g statements begun mid) where
    ran : HasCleanDisk (state g end) → AreRun g statements begun mid
    ran clean = runs (omega (arith, clean, last.clean)) inside

    from_old : HasCleanDisk (state g end) → AreRun g statements (record old { in_transaction = true }) mid
    from_old clean = subst (λ h. AreRun g statements h mid) is (ran clean)

    left : HasCleanDisk (state g end) → (db : Trees) → (state g end).may_leave db → (state g old).may_leave db ⊎ ((last : Held S) × AreRun g statements (record old { in_transaction = true }) last × (db ≡ (state g last).now.trees))
    left clean db h = elim ((survives _ last).crash clean db h) [ inl before ↦ inl before | inr is_mid ↦ inr (mid, from_old clean, is_mid) ]

    pub committed_whole : {A E : Type 0} (x : A) → (HasCleanDisk (state g end) → Shows (state g mid) (state g end) (state g mid).now (state g mid).now false) → RunsTogether {E = E} g statements old exit (Ok x)
    committed_whole {A = A} {E = E} x shows = subst (λ h. RunsTogether {A = A} {E = E} g statements old h (Ok x)) same (record {
      done = λ clean. (mid, from_old clean, shows clean);
      kept = λ clean autocommit settled. tt;
      left = left;
    })

    pub not_committed : {A E : Type 0} (r : Result A E) → IsErr r → (HasCleanDisk (state g end) → (e : Error) × FailsToCommit (state g mid) (state g end) e) → RunsTogether g statements old exit r
    not_committed (Ok x) failed fails = absurd (let e = failed in cc)
    not_committed {A = A} {E = E} (Err x) failed fails = subst (λ h. RunsTogether {A = A} {E = E} g statements old h (Err x)) same (record {
      done = λ clean. tt;
      kept = λ clean autocommit settled. elim (fails clean).1 [
        | inl failed ↦ back failed.3 (λ _. keeps_committed g statements begun mid (ran clean)) settled
        | inr late ↦ absurd (let b = still_inside g statements begun mid inside (ran clean) in let f = late.1 in cc)
      ];
      left = left;
    })

  -- it stopped at one of its statements
  pub undone_whole : {A E : Type 0} (r : Result A E) → IsErr r → (HasCleanDisk (state g mid) → KeepsCommit (state g begun) (state g mid)) → (HasCleanDisk (state g end) → IsRolledBack (state g mid) (state g end))
      → Survives (state g mid) (state g end) (λ _. ⊥) → RunsTogether g statements old exit r
  undone_whole (Ok x) failed keeps undone last = absurd (let e = failed in cc)
  undone_whole {A = A} {E = E} (Err x) failed keeps undone last = subst (λ h. RunsTogether {A = A} {E = E} g statements old h (Err x)) same (record {
    done = λ clean. tt;
    kept = λ clean autocommit settled. let before : HasCleanDisk (state g mid) = omega (arith, clean, last.clean) in back (undone clean) (keeps before).committed settled;
    left = λ clean db h. elim ((survives _ last).crash clean db h) [ inl before ↦ inl before | inr none ↦ absurd none ];
  })

-- nothing was begun, since a transaction was open
pub not_begun : {S A E : Type 0} (g : Ghosts S) (statements : List SqlStatement) (old : Held S) (x : E) → IsTrue old.in_transaction → RunsTogether {A = A} g statements old old (Err x)
not_begun g statements old x inside = record {
  done = λ clean. tt;
  kept = λ clean autocommit settled. absurd (let a = autocommit in let i = inside in cc);
  left = λ clean db h. inl h;
}
