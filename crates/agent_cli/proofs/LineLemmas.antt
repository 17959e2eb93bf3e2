-- What a reader of lines has taken, and the words of a line that were seen.
use Rattle.std.proofs.Common.{◌≡◌, ◌≢◌, ℕ, ◌<◌, ◌≤◌, false, Option, None, Some, List, [], ◌∷◌, ◌++◌, length, map, codes, string_bytes, String, All, refl, sym, ap, ◌∙◌, subst, append_assoc, append-nil, arith, cond, ◌==◌, true, Result, Ok, Err, MatchResult, MatchOption}
use Rattle.std.proofs.lemmas.Bool.{ne_eqb, eqb-true, eqb-false}
use Rattle.std.proofs.lemmas.List.{map_push, length-map, length_push}
use Rattle.std.proofs.lemmas.List.Elements.{All-head, All-tail, All-nil, All-push}
use Rattle.std.proofs.KnownBytes.{Consumes-nil, Consumes-trans, Consumes-kept}
use Rattle.std.specs.Io.KnownBytes.{Keeps, Consumes, IsAtEnd}
use Rattle.std.specs.Str.{NoCharPasses, EmptyOrStartsWithPassing}
use Rattle.std.specs.Char.{is_whitespace, is_not_whitespace}
use Rattle.clap.specs.Words.{Text}
use Rattle.agent_cli.specs.BatchLines.{longest_line, before_lines, batch_lines, ReadsLine, BeginsWithWord, SplitsIntoWords, call_words}

-- no line ends within these bytes
abbrev pub HasNoFeed : List ℕ → Type 0
HasNoFeed bytes = All (λ b. b ≢ 10) bytes

-- bytes before lines begin the first of them
abbrev all_before : List ℕ → List (List ℕ) → List (List ℕ)
all_before [] lines = lines
all_before (b ∷ bytes) lines = before_lines b (all_before bytes lines)

before_first : (bytes first : List ℕ) (others : List (List ℕ)) → all_before bytes (first ∷ others) ≡ (bytes ++ first) ∷ others
before_first [] first others = refl
before_first (b ∷ bytes) first others = ap (before_lines b) (before_first bytes first others)

before_none : (b : ℕ) (bytes : List ℕ) → all_before (b ∷ bytes) [] ≡ (b ∷ bytes) ∷ []
before_none b [] = refl
before_none b (c ∷ bytes) = ap (before_lines b) (before_none c bytes)

-- bytes without a line feed begin the first line of what follows them
lines_after : (bytes rest : List ℕ) → HasNoFeed bytes → batch_lines (bytes ++ rest) ≡ all_before bytes (batch_lines rest)
lines_after [] rest none = refl
lines_after (b ∷ bytes) rest none =
    let other : b ≢ 10 = All-head (λ x. x ≢ 10) b bytes none in
    ap (λ t. cond t ([] ∷ batch_lines (bytes ++ rest)) (before_lines b (batch_lines (bytes ++ rest)))) (ne_eqb b 10 other)
    ∙ ap (before_lines b) (lines_after bytes rest (All-tail (λ x. x ≢ 10) b bytes none))

-- the bytes that are read since the line began are the line so far, in which none ends
pub record HasRead (old now : Option (List ℕ)) (line : List ℕ) : Type 0 where
  pub taken : Consumes old now line
  pub no_feed : HasNoFeed line

pub has_read_nothing : (old : Option (List ℕ)) → HasRead old old []
has_read_nothing old = record { taken = Consumes-nil old; no_feed = All-nil _ }

-- what `next_byte` says
abbrev pub ReadsByte : {E : Type 0} → Option (List ℕ) → Option (List ℕ) → Result (Option ℕ) E → Type 0
ReadsByte old new result = MatchResult result (λ found. MatchOption found (Keeps old new × IsAtEnd new) (λ byte. Consumes old new (byte ∷ []))) (λ _. Keeps old new)

-- what the length of a list says of it
pub empty_by_length : (n : ℕ) (xs : List ℕ) → n ≡ length xs → (n == 0) ≡ true → xs ≡ []
empty_by_length n [] counts zero = refl
empty_by_length n (x ∷ xs) counts zero = absurd (omega (arith, eqb-true n 0 zero))

pub nonempty_by_length : (n : ℕ) (xs : List ℕ) → n ≡ length xs → (n == 0) ≡ false → xs ≢ []
nonempty_by_length n xs counts nonzero none = eqb-false n 0 nonzero (counts ∙ ap length none)

-- a line that began at the end of the bytes: none is left
no_line : (old now new : Option (List ℕ)) (line : List ℕ) → HasRead old now line → line ≡ [] → Keeps now new → IsAtEnd new → ReadsLine old None new
no_line None now new line read empty keeps end = tt
no_line (Some bytes) None new line read empty keeps end = absurd read.taken
no_line (Some bytes) (Some rest) None line read empty keeps end = absurd keeps
no_line (Some bytes) (Some rest) (Some left) line read empty keeps end =
    ap batch_lines (read.taken ∙ ap (λ l. l ++ rest) empty ∙ sym keeps ∙ end)

-- a line that ends with the bytes
last_line : (old now new : Option (List ℕ)) (line : List ℕ) → HasRead old now line → line ≢ [] → length line ≤ longest_line → Keeps now new → IsAtEnd new
    → ReadsLine old (Some line) new
last_line None now new line read some short keeps end = tt
last_line (Some bytes) None new line read some short keeps end = absurd read.taken
last_line (Some bytes) (Some rest) None line read some short keeps end = absurd keeps
last_line (Some bytes) (Some rest) (Some left) [] read some short keeps end = absurd (some refl)
last_line (Some bytes) (Some rest) (Some left) (b ∷ line) read some short keeps end = (
  λ _. ap batch_lines (read.taken ∙ ap (λ l. (b ∷ line) ++ l) (sym keeps ∙ end)) ∙ lines_after (b ∷ line) [] read.no_feed ∙ before_none b line
      ∙ ap (λ l. (b ∷ line) ∷ batch_lines l) (sym end),
  λ long. absurd (omega arith),
)

-- a line that ends before a line feed
ended_line : (old now new : Option (List ℕ)) (line : List ℕ) → HasRead old now line → length line ≤ longest_line → (b : ℕ) → b ≡ 10 → Consumes now new (b ∷ []) → ReadsLine old (Some line) new
ended_line None now new line read short b is feed = tt
ended_line (Some bytes) None new line read short b is feed = absurd read.taken
ended_line (Some bytes) (Some rest) None line read short b is feed = absurd feed
ended_line (Some bytes) (Some rest) (Some left) line read short b is feed = (
  λ _. ap batch_lines (read.taken ∙ ap (λ l. line ++ l) (feed ∙ ap (λ x. x ∷ left) is)) ∙ lines_after line (10 ∷ left) read.no_feed ∙ before_first line [] (batch_lines left)
      ∙ ap (λ l. l ∷ batch_lines left) (append-nil line),
  λ long. absurd (omega arith),
)

module _ {E : Type 0} {old now : Option (List ℕ)} {line : List ℕ} (before : HasRead old now line) (new : Option (List ℕ)) (result : Result (Option ℕ) E) (reads : ReadsByte now new result) where
  -- no byte came, and the line is empty
  pub reads_no_line : {found : Option ℕ} → result ≡ Ok found → found ≡ None → line ≡ [] → ReadsLine old None new
  reads_no_line {found} is none empty =
      let ends = rw (is, none) at reads in
      no_line old now new line before empty ends.0 ends.1

  -- no byte came, and the line has some
  pub reads_last_line : {found : Option ℕ} → result ≡ Ok found → found ≡ None → line ≢ [] → length line ≤ longest_line → ReadsLine old (Some line) new
  reads_last_line {found} is none some short =
      let ends = rw (is, none) at reads in
      last_line old now new line before some short ends.0 ends.1

  -- a line feed came
  pub reads_ended_line : {found : Option ℕ} {b : ℕ} → result ≡ Ok found → found ≡ Some b → b ≡ 10 → length line ≤ longest_line → ReadsLine old (Some line) new
  reads_ended_line {found} {b} is some feed short = ended_line old now new line before short b feed (rw (is, some) at reads)

  -- another byte came
  pub has_read_byte : {found : Option ℕ} {b : ℕ} {longer : List ℕ} → result ≡ Ok found → found ≡ Some b → b ≢ 10 → longer ≡ line ++ (b ∷ []) → HasRead old new longer
  has_read_byte {found} {b} {longer} is some other pushed = subst (HasRead old new) (sym pushed) (record {
    taken = Consumes-trans old now new line (b ∷ []) before.taken (rw (is, some) at reads);
    no_feed = All-push (λ x. x ≢ 10) line b before.no_feed other;
  })

  -- the read failed
  pub has_read_kept : {error : E} → result ≡ Err error → HasRead old new line
  has_read_kept {error} is = record { taken = Consumes-kept old now new line before.taken (rw is at reads); no_feed = before.no_feed }

-- bytes with no line feed begin a line, whatever lines follow
begins_line : (line : List ℕ) (lines : List (List ℕ)) → 0 < length line → (more : List ℕ) × (others : List (List ℕ)) × (all_before line lines ≡ (line ++ more) ∷ others)
begins_line [] lines some = absurd (omega arith)
begins_line (b ∷ line) [] some = ([], [], before_none b line ∙ ap (λ l. l ∷ []) (sym (append-nil (b ∷ line))))
begins_line (b ∷ line) (first ∷ others) some = (first, others, before_first (b ∷ line) first others)

-- a line that is too long
pub reads_long_line : {old now : Option (List ℕ)} {line : List ℕ} → HasRead old now line → longest_line < length line → ReadsLine old (Some line) now
reads_long_line {old = None} {line} read long = tt
reads_long_line {old = Some bytes} {now = None} {line} read long = absurd read.taken
reads_long_line {old = Some bytes} {now = Some rest} {line} read long =
    let begins = begins_line line (batch_lines rest) (omega arith) in (
      λ short. absurd (omega arith),
      λ _. (begins.0, begins.1, ap batch_lines read.taken ∙ lines_after line rest read.no_feed ∙ begins.2),
    )

-- what `split_whitespace` says of an item, as the record
pub begins_with_word : (text word rest : List ℕ) → (gap : List ℕ) × (text ≡ gap ++ (word ++ rest)) × (0 < length word) × NoCharPasses is_not_whitespace gap × NoCharPasses is_whitespace word × ((more : List ℕ) × EmptyOrStartsWithPassing is_whitespace rest more) → BeginsWithWord text word rest
begins_with_word text word rest item = record { gap = item.0; split = item.1; nonempty = item.2; gap_is_white = item.3; word_has_no_white = item.4; rest_begins_white = item.5 }

-- the words of a call for the words of the text that are seen, before the rest
pub record WordsBefore {Y : Type 0} (folder text rest : List ℕ) (words : List (String Y)) : Type 0 where
  pub seen : List Text
  pub called : map string_bytes words ≡ call_words folder seen
  pub seen_then_rest : (own : List Text) → SplitsIntoWords rest own → SplitsIntoWords text (seen ++ own)

-- a word at the end of the words so far, where it is not the first of the line
called_next : {Y : Type 0} (folder : Text) (seen : List Text) (word : Text) (words items : List (String Y)) (s : String Y) → map string_bytes words ≡ call_words folder seen
    → items ≡ words ++ (s ∷ []) → string_bytes s ≡ word → length items ≢ 2 → map string_bytes items ≡ call_words folder (seen ++ (word ∷ []))
called_next folder [] word words items s called pushed is other =
    let two : length items ≡ 2 = omega (arith, ap length pushed, length_push words s, length-map words string_bytes, ap length called) in
    absurd (other two)
called_next folder (first ∷ others) word words items s called pushed is other =
    ap (map string_bytes) pushed ∙ map_push string_bytes words s ∙ ap (λ l. l ++ (string_bytes s ∷ [])) called
    ∙ ap (λ b. (codes "escrow" ∷ first ∷ folder ∷ others) ++ (b ∷ [])) is

-- the first word of the line, and the folder after it
called_first : {Y : Type 0} (folder : Text) (seen : List Text) (word : Text) (words items all : List (String Y)) (s f : String Y) → map string_bytes words ≡ call_words folder seen
    → items ≡ words ++ (s ∷ []) → string_bytes s ≡ word → length items ≡ 2 → all ≡ items ++ (f ∷ []) → string_bytes f ≡ folder
    → map string_bytes all ≡ call_words folder (seen ++ (word ∷ []))
called_first folder [] word words items all s f called pushed is two put folder_is =
    let both : map string_bytes items ≡ codes "escrow" ∷ word ∷ [] =
    ap (map string_bytes) pushed ∙ map_push string_bytes words s ∙ ap (λ l. l ++ (string_bytes s ∷ [])) called ∙ ap (λ b. codes "escrow" ∷ b ∷ []) is in
    ap (map string_bytes) put ∙ map_push string_bytes items f ∙ ap (λ l. l ++ (string_bytes f ∷ [])) both ∙ ap (λ b. codes "escrow" ∷ word ∷ b ∷ []) folder_is
called_first folder (first ∷ others) word words items all s f called pushed is two put folder_is =
    absurd (omega (arith, ap length pushed, length_push words s, length-map words string_bytes, ap length called))

-- before any word is seen, the program's name is alone
pub words_before_start : {Y : Type 0} (folder text rest : List ℕ) (none words : List (String Y)) (s : String Y) → rest ≡ text → none ≡ [] → words ≡ none ++ (s ∷ []) → string_bytes s ≡ codes "escrow"
    → WordsBefore folder text rest words
words_before_start folder text rest none words s rest_is_text empty pushed is = record {
  seen = [];
  called = ap (map string_bytes) (pushed ∙ ap (λ l. l ++ (s ∷ [])) empty) ∙ ap (λ b. b ∷ []) is;
  seen_then_rest = λ own has. subst (λ t. SplitsIntoWords t own) rest_is_text has;
}

module _ {Y : Type 0} {folder text rest : List ℕ} {words : List (String Y)} (before : WordsBefore folder text rest words) where
  then_rest : {word next : List ℕ} → BeginsWithWord rest word next → (own : List Text) → SplitsIntoWords next own → SplitsIntoWords text ((before.seen ++ (word ∷ [])) ++ own)
  then_rest {word} {next} begins own has = subst (SplitsIntoWords text) (sym (append_assoc before.seen (word ∷ []) own)) (before.seen_then_rest (word ∷ own) (next, begins, has))

  -- one more word, which is not the first
  pub words_before_next : {word next : List ℕ} (items : List (String Y)) (s : String Y) → BeginsWithWord rest word next → items ≡ words ++ (s ∷ []) → string_bytes s ≡ word → length items ≢ 2
      → WordsBefore folder text next items
  words_before_next {word} {next} items s begins pushed is other = record {
    seen = before.seen ++ (word ∷ []);
    called = called_next folder before.seen word words items s before.called pushed is other;
    seen_then_rest = then_rest begins;
  }

  -- the first word, and the folder after it
  pub words_before_first : {word next : List ℕ} (items all : List (String Y)) (s f : String Y) → BeginsWithWord rest word next → items ≡ words ++ (s ∷ []) → string_bytes s ≡ word → length items ≡ 2
      → all ≡ items ++ (f ∷ []) → string_bytes f ≡ folder → WordsBefore folder text next all
  words_before_first {word} {next} items all s f begins pushed is two put folder_is = record {
    seen = before.seen ++ (word ∷ []);
    called = called_first folder before.seen word words items all s f before.called pushed is two put folder_is;
    seen_then_rest = then_rest begins;
  }

  -- where no word is left, the words seen are all the words
  pub words_before_end : SplitsIntoWords rest [] → SplitsIntoWords text before.seen
  words_before_end none = subst (SplitsIntoWords text) (append-nil before.seen) (before.seen_then_rest [] none)
