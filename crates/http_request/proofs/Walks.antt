-- What the parameters of a route take of a path that has its form.
use Rattle.std.proofs.Common.{◌≡◌, ◌<◌, ◌≤◌, ℕ, ◌+◌, ◌-◌, List, [], ◌∷◌, ◌++◌, length, take, drop, get_or, true, false, ltb, leb, ◌==◌, ◌&&◌, refl, sym, ap, ap₂, ◌∙◌, arith, append-nil, length-append}
use Rattle.std.specs.List.{list_all}
use Rattle.std.proofs.lemmas.Bool.{and_parts, and_right, lt-ltb, le-ltb, le-leb, cond-false}
use Rattle.std.proofs.lemmas.List.{drop-drop, drop_at, take_at, get_or-drop, length-drop}
use Rattle.matchit.specs.Rows.{param_token}
use Rattle.matchit.specs.Seek.{has_slash, slash}
use Rattle.matchit.specs.Params.{wild_from, wild_stop, part_of, after_token, walk}
use Rattle.http_request.proofs.Descending.{segment_to}

module _ (whole : List ℕ) (at : ℕ) where
  -- what stands behind some bytes
  further : (front rest : List ℕ) (n : ℕ) → drop at whole ≡ front ++ rest → length front ≡ n → drop (at + n) whole ≡ rest
  further front rest n is long = sym (drop-drop n at whole) ∙ ap (drop n) is ∙ drop_at front rest n long

  -- at least so many bytes there are
  reaches : (front rest : List ℕ) → drop at whole ≡ front ++ rest → 0 < length front → at + (length front + length rest) ≡ length whole
  reaches front rest is some =
      let left : length (front ++ rest) ≡ length whole - at = sym (ap length is) ∙ length-drop at whole in
      omega (arith, left, length-append front rest, some)

  -- what stands between two places
  part_at : (part rest : List ℕ) (end : ℕ) → drop at whole ≡ part ++ rest → 0 < length part → end ≡ at + length part → part_of whole at end ≡ part
  part_at part rest end is some to =
      let counted = reaches part rest is some in
      let ordered : leb at end ≡ true = le-leb at end (omega (arith, to)) in
      let within : leb end (length whole) ≡ true = le-leb end (length whole) (omega (arith, to, counted)) in
      let inside : take (end - at) (part ++ rest) ≡ part = take_at part rest (end - at) (omega (arith, to)) in
      rw (ordered, within, is) inside

wild_bytes : (bytes t : List ℕ) (len token at : ℕ) → list_all (λ b. ltb b 256) bytes ≡ true → at + length bytes ≤ len
    → wild_from (bytes ++ param_token ∷ t) len token at ≡ (token + length bytes, at + length bytes)
wild_bytes [] t len token at small fits =
    let a : token ≡ token + 0 = omega arith in
    let b : at ≡ at + 0 = omega arith in
    ap₂ (λ (x y : ℕ). (x, y)) a b
wild_bytes (x ∷ bytes) t len token at small fits =
    let parts = and_parts (ltb x 256) (list_all (λ b. ltb b 256) bytes) small in
    let before : ltb at len ≡ true = lt-ltb at len (omega arith) in
    let more = wild_bytes bytes t len (token + 1) (at + 1) parts.1 (omega arith) in
    let a : (token + 1) + length bytes ≡ token + length (x ∷ bytes) = omega arith in
    let b : (at + 1) + length bytes ≡ at + length (x ∷ bytes) = omega arith in
    rw (parts.0, before) (more ∙ ap₂ (λ (x y : ℕ). (x, y)) a b)

module _ (pattern path : List ℕ) (token at : ℕ) where
  -- the last parameter takes the rest
  stop_last : drop token pattern ≡ param_token ∷ [] → wild_stop pattern token path at ≡ length path
  stop_last is =
      let counted = reaches pattern token (param_token ∷ []) [] is (omega arith) in
      let last : ltb (token + 1) (length pattern) ≡ false = le-ltb (token + 1) (length pattern) (omega (arith, counted)) in
      cond-false (ltb token (length pattern) && (get_or pattern token 0 == param_token) && ltb (token + 1) (length pattern)) _ (length path)
      (and_right (ltb token (length pattern) && (get_or pattern token 0 == param_token)) (ltb (token + 1) (length pattern)) last)

  -- a parameter before a slash takes its segment
  stop_segment : (more part rest : List ℕ) → drop token pattern ≡ param_token ∷ slash ∷ more → drop at path ≡ part ++ slash ∷ rest → has_slash part ≡ false
      → wild_stop pattern token path at ≡ at + length part
  stop_segment more part rest is behind plain =
      let counted = reaches pattern token (param_token ∷ slash ∷ []) more is (omega arith) in
      let first : ltb token (length pattern) ≡ true = lt-ltb token (length pattern) (omega (arith, counted)) in
      let second : ltb (token + 1) (length pattern) ≡ true = lt-ltb (token + 1) (length pattern) (omega (arith, counted)) in
      let here : token ≡ token + 0 = omega arith in
      let wild : get_or pattern token 0 ≡ param_token = ap (λ n. get_or pattern n 0) here ∙ sym (get_or-drop token pattern 0 0) ∙ ap (λ l. get_or l 0 0) is in
      let suffix : drop (token + 1) pattern ≡ slash ∷ more = further pattern token (param_token ∷ []) (slash ∷ more) 1 is refl in
      let taken : length (part ++ slash ∷ []) ≡ length part + 1 = length-append part (slash ∷ []) in
      rw (first, second, wild, suffix, behind, segment_to part rest plain, taken) (omega arith)

module _ (pattern text path : List ℕ) (name : ℕ × ℕ) (bytes : List ℕ) (small : list_all (λ b. ltb b 256) bytes ≡ true) (token at : ℕ) where
  -- the next parameter is the last
  last_walked : (part : List ℕ) → drop token pattern ≡ bytes ++ param_token ∷ [] → drop at path ≡ bytes ++ part → 0 < length part → at ≤ length path
      → walk pattern text path (name ∷ []) token at ≡ (part_of text name.0 name.1, part) ∷ []
  last_walked part is behind some within =
      let there : length (bytes ++ part) ≡ length path - at = sym (ap length behind) ∙ length-drop at path in
      let counted : at + (length bytes + length part) ≡ length path = omega (arith, there, length-append bytes part, within, some) in
      let from = wild_bytes bytes [] (length path) token at small (omega (arith, counted)) in
      let stop = stop_last pattern path (token + length bytes) (at + length bytes) (further pattern token bytes (param_token ∷ []) (length bytes) is refl) in
      let rest : drop (at + length bytes) path ≡ part ++ [] = further path at bytes part (length bytes) behind refl ∙ sym (append-nil part) in
      let taken = part_at path (at + length bytes) part [] (length path) rest some (omega (arith, counted)) in
      rw (is, from, stop, taken) refl

  -- a slash stands behind the next parameter
  segment_walked : (more part rest : List ℕ) (others : List (ℕ × ℕ)) → drop token pattern ≡ bytes ++ param_token ∷ slash ∷ more → drop at path ≡ bytes ++ (part ++ slash ∷ rest) → 0 < length part
      → has_slash part ≡ false → at ≤ length path → token + length bytes < 200
      → walk pattern text path (name ∷ others) token at ≡ (part_of text name.0 name.1, part) ∷ walk pattern text path others ((token + length bytes) + 1) ((at + length bytes) + length part)
  segment_walked more part rest others is behind some plain within few =
      let there : length (bytes ++ (part ++ slash ∷ rest)) ≡ length path - at = sym (ap length behind) ∙ length-drop at path in
      let from = wild_bytes bytes (slash ∷ more) (length path) token at small (omega (arith, there, length-append bytes (part ++ slash ∷ rest), length-append part (slash ∷ rest), within, some)) in
      let here = further path at bytes (part ++ slash ∷ rest) (length bytes) behind refl in
      let stop = stop_segment pattern path (token + length bytes) (at + length bytes) more part rest (further pattern token bytes (param_token ∷ slash ∷ more) (length bytes) is refl) here plain in
      let taken = part_at path (at + length bytes) part (slash ∷ rest) ((at + length bytes) + length part) here some refl in
      let next : after_token (token + length bytes) ≡ (token + length bytes) + 1 = omega (arith, few) in
      rw (is, from, stop, taken, next) refl

module _ (bytes text : List ℕ) (small : list_all (λ b. ltb b 256) bytes ≡ true) where
  pub one_walked : (part : List ℕ) (name : ℕ × ℕ) → 0 < length part → walk (bytes ++ param_token ∷ []) text (bytes ++ part) (name ∷ []) 0 0 ≡ (part_of text name.0 name.1, part) ∷ []
  one_walked part name some = last_walked (bytes ++ param_token ∷ []) text (bytes ++ part) name bytes small 0 0 part refl refl some (omega arith)

  module _ (short : length bytes < 100) (part : List ℕ) (some : 0 < length part) (plain : has_slash part ≡ false) (name other : ℕ × ℕ) where
    pub two_walked : (rest : List ℕ) → 0 < length rest → walk (bytes ++ param_token ∷ slash ∷ param_token ∷ []) text (bytes ++ (part ++ slash ∷ rest)) (name ∷ other ∷ []) 0 0
        ≡ (part_of text name.0 name.1, part) ∷ (part_of text other.0 other.1, rest) ∷ []
    two_walked rest some2 =
        let pattern : List ℕ = bytes ++ param_token ∷ slash ∷ param_token ∷ [] in
        let path : List ℕ = bytes ++ (part ++ slash ∷ rest) in
        let n : ℕ = 0 + length bytes in
        let first = segment_walked pattern text path name bytes small 0 0 (param_token ∷ []) part rest (other ∷ []) refl refl some plain (omega arith) (omega arith) in
        let token = further pattern n (param_token ∷ []) (slash ∷ param_token ∷ []) 1 (further pattern 0 bytes _ (length bytes) refl refl) refl in
        let behind = further path n part (slash ∷ rest) (length part) (further path 0 bytes _ (length bytes) refl refl) refl in
        let within = reaches path 0 bytes (part ++ slash ∷ rest) refl in
        let second = last_walked pattern text path other (slash ∷ []) refl (n + 1) (n + length part) rest token behind some2
        (omega (arith, length-append bytes (part ++ slash ∷ rest), length-append part (slash ∷ rest))) in
        first ∙ ap (λ l. (part_of text name.0 name.1, part) ∷ l) second

    pub three_walked : (next rest : List ℕ) (last : ℕ × ℕ) → 0 < length next → has_slash next ≡ false → 0 < length rest
        → walk (bytes ++ param_token ∷ slash ∷ param_token ∷ slash ∷ param_token ∷ []) text (bytes ++ (part ++ slash ∷ (next ++ slash ∷ rest))) (name ∷ other ∷ last ∷ []) 0 0
        ≡ (part_of text name.0 name.1, part) ∷ (part_of text other.0 other.1, next) ∷ (part_of text last.0 last.1, rest) ∷ []
    three_walked next rest last some2 plain2 some3 =
        let pattern : List ℕ = bytes ++ param_token ∷ slash ∷ param_token ∷ slash ∷ param_token ∷ [] in
        let path : List ℕ = bytes ++ (part ++ slash ∷ (next ++ slash ∷ rest)) in
        let counted : length path ≡ length bytes + (length part + (1 + (length next + (1 + length rest)))) =
        omega (arith, length-append bytes (part ++ slash ∷ (next ++ slash ∷ rest)), length-append part (slash ∷ (next ++ slash ∷ rest)), length-append next (slash ∷ rest)) in
        let n : ℕ = 0 + length bytes in
        let m : ℕ = (n + 1) + 1 in
        let at : ℕ = n + length part in
        let at2 : ℕ = (at + 1) + length next in
        let first = segment_walked pattern text path name bytes small 0 0 (param_token ∷ slash ∷ param_token ∷ []) part (next ++ slash ∷ rest) (other ∷ last ∷ []) refl refl some plain (omega arith) (omega arith) in
        let token = further pattern n (param_token ∷ []) (slash ∷ param_token ∷ slash ∷ param_token ∷ []) 1 (further pattern 0 bytes _ (length bytes) refl refl) refl in
        let behind = further path n part (slash ∷ (next ++ slash ∷ rest)) (length part) (further path 0 bytes _ (length bytes) refl refl) refl in
        let second = segment_walked pattern text path other (slash ∷ []) refl (n + 1) at (param_token ∷ []) next rest (last ∷ []) token behind some2 plain2 (omega (arith, counted)) (omega arith) in
        let token2 = further pattern m (param_token ∷ []) (slash ∷ param_token ∷ []) 1 (further pattern (n + 1) (slash ∷ []) _ 1 token refl) refl in
        let behind2 = further path (at + 1) next (slash ∷ rest) (length next) (further path at (slash ∷ []) _ 1 behind refl) refl in
        let third = last_walked pattern text path last (slash ∷ []) refl (m + 1) at2 rest token2 behind2 some3 (omega (arith, counted)) in
        first ∙ ap (λ l. (part_of text name.0 name.1, part) ∷ l) (second ∙ ap (λ l. (part_of text other.0 other.1, next) ∷ l) third)
