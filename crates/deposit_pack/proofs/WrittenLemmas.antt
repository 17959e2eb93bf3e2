-- Files that are written one behind the other.
use Rattle.std.proofs.Common.{Bool, ℕ, ◌-◌, drop, zero, suc, ◌≡◌, ◌<◌, ◌≤◌, ◌+◌, ◌++◌, ◌∷◌, ◌∙◌, [], List, Option, ap, append_assoc, arith, get_or, length, map, refl, subst, sym, take}
use Rattle.std.specs.Prelude.{Contains}
use Rattle.std.specs.List.{concat}
use Rattle.std.proofs.lemmas.List.{append-nil, drop_at, get_or-map, length-append, length-map, map-append, map_push, take_more, take_rest}
use Rattle.std.proofs.lemmas.List.Elements.{All-more, Contains-get_or}
use Rattle.std.proofs.lemmas.List.Folds.{concat-append}
use Rattle.sha2.specs.Sha256.{sha256}
use Rattle.dnrd_csv.specs.Text.{table_text}
use Rattle.deposit_name.specs.declared.table.TableName.{TableName}
use Rattle.deposit_name.specs.declared.table.TableName.TheVariants.{Domain}
use Rattle.envelope.specs.Envelope.{env_text, file_length_max}
use Rattle.envelope.specs.Frame.{fixed_digits, frame_head}
use Rattle.envelope.specs.declared.envelope.FileEntry.{FileEntry}
use Rattle.deposit_verify.specs.declared.base.Base.{Base}
use Rattle.deposit_pack.specs.Packing.{NamedRows, Objects, packed_entry, file_of, files_text_of, table_names, objects_in, packed, packed_env, named_rows, rows_of}
use Rattle.deposit_pack.specs.PackErrors.{IsPackError, base_keys}
use Rattle.deposit_pack.specs.Unpacking.{file_names}
use Rattle.deposit_pack.specs.declared.pack_error.PackError.{PackError}
use Rattle.deposit_pack.specs.declared.pack_error.PackError.TheVariants.{Sunday, PrevId, Deletes, Header, Table, Menu, Reference, NoBase, Count, Length, Memory}
use Rattle.deposit_pack.specs.declared.source.Attributes.{Attributes}
use Rattle.deposit_pack.specs.declared.source.Source.{Source}
use Rattle.deposit_pack.specs.declared.source.TableFile.{TableFile}
use Rattle.deposit_pack.specs.inside.Writing.{AreAppended, IsWriteError}

-- no rows
abbrev pub no_rows : NamedRows
no_rows = record { name = Domain; rows = [] }

-- ---- one file more

-- what stands behind the front of a text
pub cut_behind : (front back text : List ℕ) (start : ℕ) → text ≡ front ++ back → start ≡ length front → take (length text - start) (drop start text) ≡ back
cut_behind front back text start same at = take_rest text start ∙ ap (drop start) same ∙ drop_at front back start (sym at)

-- as many files as names
pub sized : (files : List NamedRows) (contents : List TableFile) → table_names files ≡ file_names contents → length files ≡ length contents
sized files contents named = sym (length-map files (λ (f : NamedRows). f.name)) ∙ ap length named ∙ length-map contents (λ (f : TableFile). f.name)

name_at : (files : List NamedRows) (contents : List TableFile) (i : ℕ) (e : TableFile) → table_names files ≡ file_names contents → i < length files → i < length contents
    → (get_or contents i e).name ≡ (get_or files i no_rows).name
name_at files contents i e named inside within =
    sym (get_or-map (λ (f : TableFile). f.name) contents i e e.name within) ∙ ap (λ (names : List TableName). get_or names i e.name) (sym named) ∙ get_or-map (λ (f : NamedRows). f.name) files i no_rows e.name inside

rows_at : (files : List NamedRows) (tables : List (List (List (List ℕ)))) (i : ℕ) → rows_of files ≡ tables → i < length files → get_or tables i [] ≡ (get_or files i no_rows).rows
rows_at files tables i same inside = ap (λ (tables : List (List (List (List ℕ)))). get_or tables i []) (sym same) ∙ get_or-map (λ (f : NamedRows). f.rows) files i no_rows [] inside

entry_made : (f : NamedRows) (name : TableName) (text : List ℕ) (entry : FileEntry) → entry ≡ record { length = length text; name = name; sha256 = sha256 text } → name ≡ f.name → text ≡ file_of f → entry ≡ packed_entry f
entry_made f name text entry made named same =
    let At : TableName → List ℕ → Type 0 = λ name text. entry ≡ record { length = length text; name = name; sha256 = sha256 text } in
    subst (At f.name) same (subst (λ (n : TableName). At n text) named made)

appended_more : (files : List NamedRows) (i : ℕ) (before middle after : List ℕ) (entries : List FileEntry) (entry : FileEntry)
    → i < length files → AreAppended (take i files) before middle entries → after ≡ middle ++ file_of (get_or files i no_rows) → entry ≡ packed_entry (get_or files i no_rows)
    → length (file_of (get_or files i no_rows)) ≤ file_length_max → AreAppended (take (i + 1) files) before after (entries ++ entry ∷ [])
appended_more files i before middle after entries entry inside written added made short =
    let f : NamedRows = get_or files i no_rows in
    let front : List NamedRows = take i files in
    let more : take (i + 1) files ≡ front ++ f ∷ [] = take_more files i no_rows inside in
    let texts : concat (map file_of (take (i + 1) files)) ≡ concat (map file_of front) ++ file_of f =
    ap (λ (fs : List NamedRows). concat (map file_of fs)) more ∙ ap concat (map_push file_of front f) ∙ concat-append (map file_of front) (file_of f ∷ [])
    ∙ ap (λ (text : List ℕ). concat (map file_of front) ++ text) (append-nil (file_of f)) in
    let listed : map packed_entry (take (i + 1) files) ≡ map packed_entry front ++ packed_entry f ∷ [] = ap (map packed_entry) more ∙ map_push packed_entry front f in
    record {
      bytes = added ∙ ap (λ (bytes : List ℕ). bytes ++ file_of f) written.bytes ∙ append_assoc before (concat (map file_of front)) (file_of f) ∙ ap (λ (text : List ℕ). before ++ text) (sym texts);
      listed = ap (λ (es : List FileEntry). es ++ entry ∷ []) written.listed ∙ ap (λ (e : FileEntry). map packed_entry front ++ e ∷ []) made ∙ sym listed;
      lengths = All-more (λ (f : NamedRows). length (file_of f) ≤ file_length_max) files i no_rows inside written.lengths short;
    }

pub written_more : (files : List NamedRows) (contents : List TableFile) (tables : List (List (List (List ℕ)))) (i : ℕ) (e : TableFile) (before middle after text : List ℕ) (rows : List (List (List ℕ))) (entries : List FileEntry) (entry : FileEntry)
    → table_names files ≡ file_names contents → rows_of files ≡ tables → i < length contents → rows ≡ get_or tables i [] → AreAppended (take i files) before middle entries
    → after ≡ middle ++ table_text rows → text ≡ table_text rows → entry ≡ record { length = length text; name = (get_or contents i e).name; sha256 = sha256 text } → length text ≤ file_length_max
    → AreAppended (take (i + 1) files) before after (entries ++ entry ∷ [])
written_more files contents tables i e before middle after text rows entries entry named same within here written added cut made short =
    let inside : i < length files = omega (arith, sized files contents named) in
    let f : NamedRows = get_or files i no_rows in
    let right : rows ≡ f.rows = here ∙ rows_at files tables i same inside in
    let whole : text ≡ file_of f = cut ∙ ap table_text right in
    appended_more files i before middle after entries entry inside written (added ∙ ap (λ (r : List (List (List ℕ))). middle ++ table_text r) right)
    (entry_made f (get_or contents i e).name text entry made (name_at files contents i e named inside within) whole)
    (subst (λ (t : List ℕ). length t ≤ file_length_max) whole short)

-- a file that is too long
pub long_at : (files : List NamedRows) (contents : List TableFile) (tables : List (List (List (List ℕ)))) (i : ℕ) (text : List ℕ) (rows : List (List (List ℕ))) (error : PackError)
    → table_names files ≡ file_names contents → rows_of files ≡ tables → i < length contents → rows ≡ get_or tables i [] → text ≡ table_text rows → (error ≡ Length) × (file_length_max < length text) → IsWriteError files error
long_at files contents tables i text rows error named same within here cut long =
    let inside : i < length files = omega (arith, sized files contents named) in
    let whole : text ≡ file_of (get_or files i no_rows) = cut ∙ ap table_text (here ∙ rows_at files tables i same inside) in
    subst (IsWriteError files) (sym long.0) (get_or files i no_rows, Contains-get_or files i no_rows inside, subst (λ (t : List ℕ). file_length_max < length t) whole long.1)

-- ---- the whole

-- the names of the rows are those of the files
pub names_same : (has_headers : Bool) (files : List TableFile) → table_names (map (named_rows has_headers) files) ≡ file_names files
names_same has_headers [] = refl
names_same has_headers (f ∷ files) = ap (λ (names : List TableName). f.name ∷ names) (names_same has_headers files)

-- the bytes of both lists
pub both_written : (o : Objects) (empty middle after : List ℕ) → empty ≡ [] → middle ≡ empty ++ concat (map file_of o.contents) → after ≡ middle ++ concat (map file_of o.deletes) → after ≡ files_text_of o
both_written o empty middle after none first second =
    second ∙ ap (λ (m : List ℕ). m ++ concat (map file_of o.deletes)) (first ∙ ap (λ (e : List ℕ). e ++ concat (map file_of o.contents)) none)
    ∙ sym (concat-append (map file_of o.contents) (map file_of o.deletes)) ∙ ap concat (sym (map-append file_of o.contents o.deletes))

-- the text of all is no shorter than that of one
long_in : (files : List NamedRows) (k : ℕ) (d : NamedRows) → k < length files → length (file_of (get_or files k d)) ≤ length (concat (map file_of files))
long_in [] k d inside = absurd (omega arith)
long_in (f ∷ files) zero d inside = omega (arith, length-append (file_of f) (concat (map file_of files)))
long_in (f ∷ files) (suc k) d inside =
    let inner : length (file_of (get_or files k d)) ≤ length (concat (map file_of files)) = long_in files k d (omega arith) in
    omega (arith, length-append (file_of f) (concat (map file_of files)))

long_among : (files : List NamedRows) (f : NamedRows) → Contains files f → length (file_of f) ≤ length (concat (map file_of files))
long_among files f within = subst (λ (g : NamedRows). length (file_of g) ≤ length (concat (map file_of files))) within.2 (long_in files within.0 f within.1)

-- the deposit is no shorter than its files
pub long_packed : (a : Attributes) (o : Objects) (before : Base) → length (files_text_of o) ≤ length (packed a o before)
unfolding packed
long_packed a o before =
    let text : List ℕ = env_text (packed_env a o before) in
    let files : List ℕ = files_text_of o in
    let digits : List ℕ = fixed_digits 8 (length text) in
    omega (arith, length-append frame_head (digits ++ 10 ∷ (text ++ files)), length-append digits (10 ∷ (text ++ files)), length-append text files)

-- what is said of some of the files is true of the source
pub write_error : (a : Attributes) (source : Source) (base : Option Base) (files : List NamedRows) (error : PackError)
    → length (concat (map file_of files)) ≤ length (files_text_of (objects_in source)) → IsWriteError files error → IsPackError a source base error
write_error a source base files Length among said = omega (arith, long_among files said.0 said.1, said.2, among, long_packed a (objects_in source) (base_keys base))
write_error a source base files Memory among said = tt
write_error a source base files (Sunday day) among said = absurd said
write_error a source base files (PrevId kind) among said = absurd said
write_error a source base files (Deletes kind table) among said = absurd said
write_error a source base files (Header at) among said = absurd said
write_error a source base files (Table t) among said = absurd said
write_error a source base files (Menu reason) among said = absurd said
write_error a source base files (Reference missing) among said = absurd said
write_error a source base files NoBase among said = absurd said
write_error a source base files (Count table) among said = absurd said

-- each of the two lists is no longer than both
both_long : (o : Objects) → length (files_text_of o) ≡ length (concat (map file_of o.contents)) + length (concat (map file_of o.deletes))
both_long o = ap length (ap concat (map-append file_of o.contents o.deletes) ∙ concat-append (map file_of o.contents) (map file_of o.deletes)) ∙ length-append (concat (map file_of o.contents)) (concat (map file_of o.deletes))

pub contents_among : (o : Objects) → length (concat (map file_of o.contents)) ≤ length (files_text_of o)
contents_among o = omega (arith, both_long o)

pub deletes_among : (o : Objects) → length (concat (map file_of o.deletes)) ≤ length (files_text_of o)
deletes_among o = omega (arith, both_long o)
