-- The bytes that a reader gave so far.
use Rattle.std.proofs.Common.{◌≡◌, ℕ, ◌+◌, ◌<◌, ◌≤◌, List, ◌++◌, length, take, drop, Option, Some, None, IfSome, sym, ◌∙◌, ap, arith, length-append}
use Rattle.std.proofs.lemmas.List.{append-nil, length-take-le, take_at, take-append-le}
use Rattle.std.proofs.Math.Seq.{take-append-add}
use borrow.Rule.Slice.PartMut.{put_mid}
use Rattle.std.specs.Io.KnownBytes.{Consumes, IsAtEnd}
use Rattle.std.proofs.KnownBytes.{Consumes-trans}
use Rattle.std.specs.Fmt.{option_append}
use Rattle.custody.specs.Receiving.{AreFirstBytes}

-- what came so far is what the reader has lost, and so many are left
abbrev pub HaveCome : Option (List ℕ) → Option (List ℕ) → ℕ → ℕ → List ℕ → Type 0
HaveCome old now len left sent = Consumes old now sent × (length sent + left ≡ len)

-- all came
pub all_came : (old now : Option (List ℕ)) (len left : ℕ) (sent : List ℕ) → HaveCome old now len left sent → left ≡ 0 → AreFirstBytes old len sent
all_came old now len left sent come none = (long, by old now come.0)
  where
    long : length sent ≡ len
    long = let sum = come.1 in omega (arith, sum, none)

    by : (old now : Option (List ℕ)) → Consumes old now sent → IfSome old (λ input. sent ≡ take len input)
    by None now c = tt
    by (Some input) None c = absurd c
    by (Some input) (Some rest) c = sym (ap (take len) c ∙ take_at sent rest len long)

-- the reader is at its end, and some are left
pub ended_short : (old now : Option (List ℕ)) (len left : ℕ) (sent : List ℕ) → HaveCome old now len left sent → 1 ≤ left → IsAtEnd now → IfSome old (λ input. length input < len)
ended_short None now len left sent come some end = tt
ended_short (Some input) None len left sent come some end = absurd come.0
ended_short (Some input) (Some rest) len left sent come some end =
    let all : input ≡ sent = come.0 ∙ ap (λ l. sent ++ l) end ∙ append-nil sent in
    let long = ap length all in
    let sum = come.1 in
    omega (arith, long, sum, some)

-- one piece more
pub comes_more : (old mid now : Option (List ℕ)) (len left : ℕ) (sent piece : List ℕ) (rest : ℕ) → HaveCome old mid len left sent → Consumes mid now piece → rest + length piece ≡ left → HaveCome old now len rest (sent ++ piece)
comes_more old mid now len left sent piece rest come more less = (Consumes-trans old mid now sent piece come.0 more, (let sum = come.1 in omega (arith, sum, less, length-append sent piece)))

-- those that were there first, and those of the reader behind them
pub chained_known : (known : Option (List ℕ)) (first : List ℕ) (P : List ℕ → Type 0) → IfSome (option_append (Some first) known) P → IfSome known (λ rest. P (first ++ rest))
chained_known None first P h = tt
chained_known (Some rest) first P h = h

-- ---- one read more into a buffer

-- what was there first, followed by what was read behind it
pub take-put_more : (old got : List ℕ) (k n room : ℕ) → k ≤ length old → n ≤ length got → take (k + n) (put_mid k room old got) ≡ take k old ++ take n got
take-put_more old got k n room inside within =
    ap (λ m. take (m + n) (put_mid k room old got)) (sym (length-take-le k old inside))
    ∙ take-append-add (take k old) (got ++ drop room (drop k old)) n ∙ ap (λ l. take k old ++ l) (take-append-le n got (drop room (drop k old)) within)

-- there is room for both
pub within-put_more : (old got : List ℕ) (k n room : ℕ) → k ≤ length old → n ≤ length got → k + n ≤ length (put_mid k room old got)
within-put_more old got k n room inside within =
    let rest = drop room (drop k old) in
    omega (arith, length-append (take k old) (got ++ rest), length-append got rest, length-take-le k old inside, within)
