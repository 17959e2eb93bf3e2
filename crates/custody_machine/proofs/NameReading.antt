-- The name that is read in a text is the one whose text it is.
use Rattle.std.proofs.Common.{◌≡◌, ◌≢◌, ◌⊎◌, ⊎_elim, inl, inr, ℕ, zero, suc, ◌+◌, ◌-◌, ◌<◌, ◌≤◌, List, [], ◌∷◌, ◌++◌, length, take, drop, Option, Some, None, Bool, true, false, ◌||◌, ◌==◌, cond, if◌then◌else◌, codes, refl, sym, ◌∙◌, ap, subst, arith, Result, Ok, Err, IfOk, IfErr, append_assoc, length-append}
use Rattle.std.specs.Prelude.{option_map, bytes_eq}
use Rattle.std.specs.Int.{IsInRange}
use Rattle.std.specs.Cmp.Lexicographic.{bytes_decides}
use Rattle.std.proofs.lemmas.List.{take-append-drop, drop_at}
use Rattle.std.proofs.lemmas.Bool.Decides.{Decides-eqb, not_from_Decides}
use Rattle.std.proofs.lemmas.Option.{option_and_then_some}
use Rattle.schedule.specs.Schedule.{last_day}
use Rattle.schedule.specs.Text.{day_text}
use Rattle.deposit_name.specs.declared.kinds.Kind.{Kind}
use Rattle.deposit_name.specs.declared.kinds.Kind.TheVariants.{Full, Diff, Incr}
use Rattle.deposit_name.specs.declared.errors.NameError.{NameError}
use Rattle.deposit_name.specs.declared.errors.NameError.TheVariants.{Tld}
use Rattle.deposit_name.specs.Identifiers.{IsTld, is_tld}
use Rattle.deposit_name.specs.Name.{Name, IsName, IsNameDay, first_name_day, name_text, kind_text, part_text, rev_text}
use Rattle.deposit_name.specs.Fault.{HasNoUnderscore, NamePieces, IsSplit, HasPieces, IsDateText, IsKindText, IsPartText, IsRevText, IsFault}
use Rattle.deposit_name.proofs.IdentifierLemmas.{is_tld-IsTld}
use Rattle.deposit_name.proofs.NameLemmas.{no_fault, name_text-injective}
use Rattle.deposit_name.proofs.FaultLemmas.{one_fault}
use Rattle.deposit_name.proofs.PiecesLemmas.{regroup}
use Rattle.custody_records.specs.Form.{kind_in}
use Rattle.custody_records.proofs.FieldLemmas.{kind_in-kind_text}
use Rattle.custody_machine.specs.NameReading.{before_suffix, halves_of, has_underscore, pieces_in, number_with, read_day, read_part, read_rev, name_with_rev, name_with_part, name_with_kind, name_with_date, name_with_pieces, name_with_stem, read_name, IsReading}

-- ---- the ending

suffix_found : (suffix text stem : List ℕ) → before_suffix suffix text ≡ Some stem → text ≡ stem ++ suffix
suffix_found suffix text stem e = by (bytes_eq (drop (length text - length suffix) text) suffix) refl e
  where
    at : ℕ
    at = length text - length suffix

    by : (b : Bool) → bytes_eq (drop at text) suffix ≡ b → cond b (Some (take at text)) None ≡ Some stem → text ≡ stem ++ suffix
    by true same is =
        let ends : drop at text ≡ suffix = (bytes_decides _ _).0 same in
        let begins : take at text ≡ stem = cc in
        sym (take-append-drop at text) ∙ (λ i. begins i ++ ends i)
    by false same is = cc

suffix_missing : (suffix text : List ℕ) → before_suffix suffix text ≡ None → (stem : List ℕ) → text ≢ stem ++ suffix
suffix_missing suffix text e stem is = by (bytes_eq (drop (length text - length suffix) text) suffix) refl e
  where
    at : length text - length suffix ≡ length stem
    at = ap (λ t. length t - length suffix) is ∙ ap (λ n. n - length suffix) (length-append stem suffix) ∙ omega arith

    ends : drop (length text - length suffix) text ≡ suffix
    ends = ap (λ n. drop n text) at ∙ ap (drop (length stem)) is ∙ drop_at stem suffix (length stem) refl

    by : (b : Bool) → bytes_eq (drop (length text - length suffix) text) suffix ≡ b → cond b (Some (take (length text - length suffix) text)) None ≡ None → ⊥
    by true same none = cc
    by false same none = let yes = (bytes_decides _ _).1 ends in cc

-- ---- cuts

cut_found : (text a r : List ℕ) → halves_of text ≡ Some (a, r) → (text ≡ a ++ 95 ∷ r) × HasNoUnderscore a
cut_found [] a r e = cc
cut_found (byte ∷ text) a r e = by (byte == 95) (halves_of text) refl refl e (λ b s. cut_found text b s)
  where
    by : (b : Bool) (o : Option (List ℕ × List ℕ)) → (byte == 95) ≡ b → halves_of text ≡ o → cond {A = Option (List ℕ × List ℕ)} b (Some ([], text)) (option_map (λ (h : List ℕ × List ℕ). (byte ∷ h.0, h.1)) o) ≡ Some (a, r) → ((b s : List ℕ) → halves_of text ≡ Some (b, s) → (text ≡ b ++ 95 ∷ s) × HasNoUnderscore b) → (byte ∷ text ≡ a ++ 95 ∷ r) × HasNoUnderscore a
    by true o same is e rest_of =
        let here : byte ≡ 95 = (Decides-eqb byte 95).0 same in
        let pair : ◌≡◌ {A = List ℕ × List ℕ} ([], text) (a, r) = cc in
        let front : [] ≡ a = ap (λ (p : List ℕ × List ℕ). p.0) pair in
        let rest : text ≡ r = ap (λ (p : List ℕ × List ℕ). p.1) pair in
        (subst (λ x. byte ∷ text ≡ x ++ 95 ∷ r) front (λ i. here i ∷ rest i), subst HasNoUnderscore front tt)
    by false None same is e rest_of = cc
    by false (Some h) same is e rest_of =
        let before = rest_of h.0 h.1 is in
        let pair : ◌≡◌ {A = List ℕ × List ℕ} (byte ∷ h.0, h.1) (a, r) = cc in
        let front : byte ∷ h.0 ≡ a = ap (λ (p : List ℕ × List ℕ). p.0) pair in
        let rest : h.1 ≡ r = ap (λ (p : List ℕ × List ℕ). p.1) pair in
        let other : byte ≢ 95 = λ is. let yes = (Decides-eqb byte 95).1 is in cc in
        (ap (λ t. byte ∷ t) before.0 ∙ (λ i. front i ++ 95 ∷ rest i), subst HasNoUnderscore front (other, before.1))

cut_is : (a r : List ℕ) → HasNoUnderscore a → halves_of (a ++ 95 ∷ r) ≡ Some (a, r)
cut_is [] r h = refl
cut_is (byte ∷ a) r h = by (byte == 95) refl (cut_is a r h.1)
  where
    by : (b : Bool) → (byte == 95) ≡ b → halves_of (a ++ 95 ∷ r) ≡ Some (a, r) → cond {A = Option (List ℕ × List ℕ)} b (Some ([], a ++ 95 ∷ r)) (option_map (λ (h : List ℕ × List ℕ). (byte ∷ h.0, h.1)) (halves_of (a ++ 95 ∷ r))) ≡ Some (byte ∷ a, r)
    by true same rest = absurd (h.0 ((Decides-eqb byte 95).0 same))
    by false same rest = ap (option_map (λ (h : List ℕ × List ℕ). (byte ∷ h.0, h.1))) rest

underscore_none : (text : List ℕ) → has_underscore text ≡ false → HasNoUnderscore text
underscore_none [] e = tt
underscore_none (byte ∷ text) e = by (byte == 95) refl e (underscore_none text)
  where
    by : (b : Bool) → (byte == 95) ≡ b → (b || has_underscore text) ≡ false → (has_underscore text ≡ false → HasNoUnderscore text) → (byte ≢ 95) × HasNoUnderscore text
    by true same e rest = cc
    by false same e rest = (λ is. let yes = (Decides-eqb byte 95).1 is in cc, rest e)

none_underscore : (text : List ℕ) → HasNoUnderscore text → has_underscore text ≡ false
none_underscore [] h = refl
none_underscore (byte ∷ text) h = by (byte == 95) refl (none_underscore text h.1)
  where
    by : (b : Bool) → (byte == 95) ≡ b → has_underscore text ≡ false → (b || has_underscore text) ≡ false
    by true same rest = absurd (h.0 ((Decides-eqb byte 95).0 same))
    by false same rest = rest

-- ---- five pieces

pieces_found : (stem : List ℕ) (p : NamePieces) → pieces_in stem ≡ Some p → IsSplit stem p
pieces_found stem p e =
    option_and_then_some _ (halves_of stem) p e (λ t et e.
    option_and_then_some _ (halves_of t.1) p e (λ d ed e.
    option_and_then_some _ (halves_of d.1) p e (λ k ek e.
    option_and_then_some _ (halves_of k.1) p e (λ q eq e. by_rev t d k q et ed ek eq (has_underscore q.1) refl e))))
  where
    by_rev : (t d k q : List ℕ × List ℕ) → halves_of stem ≡ Some t → halves_of t.1 ≡ Some d → halves_of d.1 ≡ Some k → halves_of k.1 ≡ Some q → (b : Bool) → has_underscore q.1 ≡ b
        → cond b None (Some (record { tld = t.0; date = d.0; kind = k.0; part = q.0; rev = q.1 })) ≡ Some p → IsSplit stem p
    by_rev t d k q et ed ek eq true u e = cc
    by_rev t d k q et ed ek eq false u e =
        let ht = cut_found stem t.0 t.1 et in
        let hd = cut_found t.1 d.0 d.1 ed in
        let hk = cut_found d.1 k.0 k.1 ek in
        let hq = cut_found k.1 q.0 q.1 eq in
        let whole : stem ≡ t.0 ++ 95 ∷ (d.0 ++ 95 ∷ (k.0 ++ 95 ∷ (q.0 ++ 95 ∷ q.1))) =
        ht.0 ∙ ap (λ r. t.0 ++ 95 ∷ r) (hd.0 ∙ ap (λ r. d.0 ++ 95 ∷ r) (hk.0 ∙ ap (λ r. k.0 ++ 95 ∷ r) hq.0)) in
        let is : ◌≡◌ {A = NamePieces} (record { tld = t.0; date = d.0; kind = k.0; part = q.0; rev = q.1 }) p = cc in
        subst (IsSplit stem) is (record {
          joined = whole ∙ sym (regroup t.0 d.0 k.0 q.0 q.1);
          tld = ht.1;
          date = hd.1;
          kind = hk.1;
          part = hq.1;
          rev = underscore_none q.1 u;
        })

pieces_are : (stem : List ℕ) (p : NamePieces) → IsSplit stem p → pieces_in stem ≡ Some p
pieces_are stem p h = rw (h.joined ∙ regroup p.tld p.date p.kind p.part p.rev, cut_is p.tld (p.date ++ 95 ∷ (p.kind ++ 95 ∷ (p.part ++ 95 ∷ p.rev))) h.tld, cut_is p.date (p.kind ++ 95 ∷ (p.part ++ 95 ∷ p.rev)) h.date, cut_is p.kind (p.part ++ 95 ∷ p.rev) h.kind, cut_is p.part p.rev h.part, none_underscore p.rev h.rev) refl

pieces_missing : (stem : List ℕ) → pieces_in stem ≡ None → (p : NamePieces) → IsSplit stem p → ⊥
pieces_missing stem e p h = let some = pieces_are stem p h in cc

-- ---- the pieces, read

number_found : (text_of : ℕ → List ℕ) (count first : ℕ) (text : List ℕ) (n : ℕ) → number_with text_of first count text ≡ Some n → (first ≤ n) × (n < first + count) × (text ≡ text_of n)
unfolding number_with
number_found text_of zero first text n e = cc
number_found text_of (suc count) first text n e = by (bytes_eq (text_of first) text) refl e (number_found text_of count (first + 1) text n)
  where
    by : (b : Bool) → bytes_eq (text_of first) text ≡ b → cond b (Some first) (number_with text_of (first + 1) count text) ≡ Some n
        → (number_with text_of (first + 1) count text ≡ Some n → (first + 1 ≤ n) × (n < first + 1 + count) × (text ≡ text_of n)) → (first ≤ n) × (n < first + suc count) × (text ≡ text_of n)
    by true same e rest = let is : first ≡ n = cc in (omega arith, omega arith, sym ((bytes_decides _ _).0 same) ∙ ap text_of is)
    by false same e rest = let h = rest e in let low = h.0 in let high = h.1 in (omega arith, omega arith, h.2)

number_missing : (text_of : ℕ → List ℕ) (count first : ℕ) (text : List ℕ) → number_with text_of first count text ≡ None → (n : ℕ) → first ≤ n → n < first + count → text ≢ text_of n
unfolding number_with
number_missing text_of zero first text e n low high is = absurd (omega arith)
number_missing text_of (suc count) first text e n low high is = by (bytes_eq (text_of first) text) refl e (number_missing text_of count (first + 1) text)
  where
    split : (first n : ℕ) → first ≤ n → (first ≡ n) ⊎ (first + 1 ≤ n)
    split zero zero low = inl refl
    split zero (suc n) low = inr (omega arith)
    split (suc f) zero low = absurd (omega arith)
    split (suc f) (suc n) low = ⊎_elim (λ (e : f ≡ n). inl (ap suc e)) (λ (h : f + 1 ≤ n). inr (omega arith)) (split f n (omega arith))

    by : (b : Bool) → bytes_eq (text_of first) text ≡ b → cond b (Some first) (number_with text_of (first + 1) count text) ≡ None
        → (number_with text_of (first + 1) count text ≡ None → (m : ℕ) → first + 1 ≤ m → m < first + 1 + count → text ≢ text_of m) → ⊥
    by true same e rest = cc
    by false same e rest = ⊎_elim (λ (here : first ≡ n). let yes = (bytes_decides (text_of first) text).1 (ap text_of here ∙ sym is) in no yes same) (λ (later : first + 1 ≤ n). rest e n later (omega arith) is) (split first n low)
      where
        no : {b : Bool} → b ≡ true → b ≡ false → ⊥
        no p q = cc

day_found : (text : List ℕ) (d : ℕ) → read_day text ≡ Some d → IsNameDay d × (text ≡ day_text d)
unfolding read_day
day_found text d e = let h = number_found day_text (last_day + 1 - first_name_day) first_name_day text d e in let low = h.0 in let high = h.1 in ((omega arith, omega arith), h.2)

day_missing : (text : List ℕ) → read_day text ≡ None → IsDateText text → ⊥
unfolding read_day
day_missing text e h = let low = h.1.0 in let high = h.1.1 in number_missing day_text (last_day + 1 - first_name_day) first_name_day text e h.0 (omega arith) (omega arith) h.2

part_found : (text : List ℕ) (n : ℕ) → read_part text ≡ Some n → IsInRange 1 8 n × (text ≡ part_text n)
unfolding read_part
part_found text n e = let h = number_found part_text 8 1 text n e in let low = h.0 in let high = h.1 in ((omega arith, omega arith), h.2)

part_missing : (text : List ℕ) → read_part text ≡ None → IsPartText text → ⊥
unfolding read_part
part_missing text e h = let r = h.1 in number_missing part_text 8 1 text e h.0 (omega arith) (omega arith) h.2

rev_found : (text : List ℕ) (n : ℕ) → read_rev text ≡ Some n → (n ≤ 99) × (text ≡ rev_text n)
unfolding read_rev
rev_found text n e = let h = number_found rev_text 100 0 text n e in let high = h.1 in (omega arith, h.2)

rev_missing : (text : List ℕ) → read_rev text ≡ None → IsRevText text → ⊥
unfolding read_rev
rev_missing text e h = let high = h.1 in number_missing rev_text 100 0 text e h.0 (omega arith) (omega arith) h.2

pub kind_found : (text : List ℕ) (kind : Kind) → kind_in text ≡ Some kind → text ≡ kind_text kind
kind_found text kind e = by (bytes_eq text (codes "full")) refl e
  where
    by_incr : (b : Bool) → bytes_eq text (codes "incr") ≡ b → cond b (Some Incr) None ≡ Some kind → text ≡ kind_text kind
    by_incr true same e = let is : Incr ≡ kind = cc in (bytes_decides text (codes "incr")).0 same ∙ ap kind_text is
    by_incr false same e = cc

    by_diff : (b : Bool) → bytes_eq text (codes "diff") ≡ b → cond b (Some Diff) (cond (bytes_eq text (codes "incr")) (Some Incr) None) ≡ Some kind → text ≡ kind_text kind
    by_diff true same e = let is : Diff ≡ kind = cc in (bytes_decides text (codes "diff")).0 same ∙ ap kind_text is
    by_diff false same e = by_incr (bytes_eq text (codes "incr")) refl e

    by : (b : Bool) → bytes_eq text (codes "full") ≡ b
        → cond b (Some Full) (cond (bytes_eq text (codes "diff")) (Some Diff) (cond (bytes_eq text (codes "incr")) (Some Incr) None)) ≡ Some kind → text ≡ kind_text kind
    by true same e = let is : Full ≡ kind = cc in (bytes_decides text (codes "full")).0 same ∙ ap kind_text is
    by false same e = by_diff (bytes_eq text (codes "diff")) refl e

kind_missing : (text : List ℕ) → kind_in text ≡ None → IsKindText text → ⊥
kind_missing text e h = let some = ap kind_in h.1 ∙ kind_in-kind_text h.0 in cc

-- ---- names

abbrev Reads : List ℕ → Result Name NameError → Type 0
Reads text r = IfOk r (λ n. IsName n × (text ≡ name_text n)) × IfErr r (IsFault text)

rejoin : (a b c d e f : List ℕ) → (a ++ codes "_" ++ b ++ codes "_" ++ c ++ codes "_" ++ d ++ codes "_" ++ e) ++ f ≡ a ++ codes "_" ++ b ++ codes "_" ++ c ++ codes "_" ++ d ++ codes "_" ++ e ++ f
rejoin a b c d e f = simp append_assoc

module _ (text : List ℕ) (p : NamePieces) (pieces : HasPieces text p) (tld : IsTld p.tld) where
  reads_rev : (day : ℕ) (kind : Kind) (part : ℕ) → IsNameDay day × (p.date ≡ day_text day) → p.kind ≡ kind_text kind → IsInRange 1 8 part × (p.part ≡ part_text part) → (o : Option ℕ) → read_rev p.rev ≡ o → Reads text (name_with_rev p day kind part o)
  reads_rev day kind part hd hk hp None e = (tt, (p, pieces, tld, (day, hd.0, hd.1), (kind, hk), (part, hp.0, hp.1), rev_missing p.rev e))
  reads_rev day kind part hd hk hp (Some rev) e =
      let hr = rev_found p.rev rev e in (
        (
          record { tld = tld; day = hd.0; part = hp.0; rev = hr.0 },
          pieces.1 ∙ ap (λ s. s ++ codes ".ryde") pieces.2.joined ∙ rejoin p.tld p.date p.kind p.part p.rev (codes ".ryde")
              ∙ (λ i. p.tld ++ codes "_" ++ hd.1 i ++ codes "_" ++ hk i ++ codes "_" ++ hp.1 i ++ codes "_" ++ hr.1 i ++ codes ".ryde"),
        ),
        tt,
      )

  reads_part : (day : ℕ) (kind : Kind) → IsNameDay day × (p.date ≡ day_text day) → p.kind ≡ kind_text kind → (o : Option ℕ) → read_part p.part ≡ o → Reads text (name_with_part p day kind o)
  reads_part day kind hd hk None e = (tt, (p, pieces, tld, (day, hd.0, hd.1), (kind, hk), part_missing p.part e))
  reads_part day kind hd hk (Some part) e = reads_rev day kind part hd hk (part_found p.part part e) (read_rev p.rev) refl

  reads_kind : (day : ℕ) → IsNameDay day × (p.date ≡ day_text day) → (o : Option Kind) → kind_in p.kind ≡ o → Reads text (name_with_kind p day o)
  reads_kind day hd None e = (tt, (p, pieces, tld, (day, hd.0, hd.1), kind_missing p.kind e))
  reads_kind day hd (Some kind) e = reads_part day kind hd (kind_found p.kind kind e) (read_part p.part) refl

  reads_date : (o : Option ℕ) → read_day p.date ≡ o → Reads text (name_with_date p o)
  reads_date None e = (tt, (p, pieces, tld, day_missing p.date e))
  reads_date (Some day) e = reads_kind day (day_found p.date day e) (kind_in p.kind) refl

reads_pieces : (text stem : List ℕ) → text ≡ stem ++ codes ".ryde" → (o : Option NamePieces) → pieces_in stem ≡ o → Reads text (name_with_pieces o)
reads_pieces text stem is None e = (tt, (stem, is, pieces_missing stem e))
reads_pieces text stem is (Some p) e = by (is_tld p.tld) refl
  where
    pieces : HasPieces text p
    pieces = (stem, is, pieces_found stem p e)

    by : (b : Bool) → is_tld p.tld ≡ b → Reads text (if b then name_with_date p (read_day p.date) else Err Tld)
    by true e = reads_date text p pieces ((is_tld-IsTld p.tld).0 e) (read_day p.date) refl
    by false e = (tt, (p, pieces, not_from_Decides _ (is_tld-IsTld p.tld) e))

reads_stem : (text : List ℕ) (o : Option (List ℕ)) → before_suffix (codes ".ryde") text ≡ o → Reads text (name_with_stem o)
reads_stem text None e = (tt, suffix_missing (codes ".ryde") text e)
reads_stem text (Some stem) e = reads_pieces text stem (suffix_found (codes ".ryde") text stem e) (pieces_in stem) refl

reads : (text : List ℕ) → Reads text (read_name text)
unfolding read_name
reads text = reads_stem text (before_suffix (codes ".ryde") text) refl

pub read_is : (text : List ℕ) (name : Name) → read_name text ≡ Ok name → IsName name × (text ≡ name_text name)
read_is text name e = subst (λ r. IfOk r (λ n. IsName n × (text ≡ name_text n))) e (reads text).0

pub is_reading : IsReading
is_reading = record {
  names = λ text name. (read_is text name, λ h. ok text name h (read_name text) refl (reads text));
  faults = λ text fault. (λ e. subst (λ r. IfErr r (IsFault text)) e (reads text).1, λ h. err text fault h (read_name text) refl (reads text));
}
  where
    ok : (text : List ℕ) (name : Name) → IsName name × (text ≡ name_text name) → (r : Result Name NameError) → read_name text ≡ r → Reads text r → read_name text ≡ Ok name
    ok text name h (Ok n) e is = e ∙ ap Ok (name_text-injective n name is.0.0 h.0 (sym is.0.1 ∙ h.1))
    ok text name h (Err f) e is = absurd (no_fault text f name h.0 h.1 is.1)

    err : (text : List ℕ) (fault : NameError) → IsFault text fault → (r : Result Name NameError) → read_name text ≡ r → Reads text r → read_name text ≡ Err fault
    err text fault h (Ok n) e is = absurd (no_fault text fault n is.0.0 is.0.1 h)
    err text fault h (Err f) e is = e ∙ ap Err (one_fault text f fault is.1 h)
