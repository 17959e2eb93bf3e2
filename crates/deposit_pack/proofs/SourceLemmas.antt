-- The files of a registry, one after another.
use Rattle.std.proofs.Common.{Err, Ok, Result, Bool, ℕ, ◌≡◌, ◌≢◌, ◌<◌, ◌+◌, ◌++◌, ◌∷◌, ◌∙◌, [], List, Option, Some, ap, arith, get_or, length, map, refl, subst, suc, sym, take, take-suc}
use Rattle.std.specs.Prelude.{All, Contains, IfErr, IsErrAnd, IsTrue, option_map}
use Rattle.std.specs.List.{slice_get}
use Rattle.std.proofs.lemmas.List.{get_or-map, length-map, map_more, map_push}
use Rattle.std.proofs.lemmas.List.Elements.{All-push, All-same}
use Rattle.std.proofs.lemmas.Option.{slice_get-get_or, slice_get-map}
use Rattle.dnrd_csv.specs.AnySpelling.{rows_below_header}
use Rattle.dnrd_csv.specs.declared.errors.TableError.TheVariants.{OutOfMemory}
use Rattle.deposit_name.specs.Tables.{has_deletes}
use Rattle.deposit_name.specs.declared.table.TableName.TheVariants.{Domain}
use Rattle.deposit_verify.specs.declared.base.Base.{Base}
use Rattle.deposit_verify.specs.declared.files_reason.FileList.{FileList}
use Rattle.deposit_verify.specs.declared.files_reason.FileList.TheVariants.{Contents, Deletes as DeletesList}
use Rattle.deposit_verify.specs.declared.files_reason.FilePlace.{FilePlace}
use Rattle.deposit_pack.specs.Packing.{NamedRows, table_names, objects_in, named_rows, rows_of}
use Rattle.deposit_pack.specs.PackErrors.{IsReadingError, IsPackError, LacksHeader, RefusesRowsOf, files_in, rows_listed}
use Rattle.deposit_pack.specs.declared.pack_error.PackError.{PackError}
use Rattle.deposit_pack.specs.declared.pack_error.PackError.TheVariants.{Sunday, PrevId, Deletes, Header, Table, Menu, Reference, NoBase, Count, Length, Memory}
use Rattle.deposit_pack.specs.declared.source.Attributes.{Attributes}
use Rattle.deposit_pack.specs.declared.source.Source.{Source}
use Rattle.deposit_pack.specs.declared.source.TableFile.{TableFile}
use Rattle.deposit_pack.specs.inside.Reading.{IsSourceError}

-- a file that stands nowhere
abbrev pub no_file : TableFile
no_file = record { name = Domain; text = record { ref_ptr = (0, 0); now = [] } }

-- what an error is that `?` hands on
pub error_kept : {T E : Type 0} (Q : E → Type 0) (r : Result T E) (e : E) → IsErrAnd r (λ x. x ≡ e) → Q e → IfErr r Q
error_kept Q (Ok x) e is holds = tt
error_kept Q (Err x) e is holds = subst Q (sym is) holds

-- ---- names

-- the name of a file is among the names
pub named_in : (has_headers : Bool) (files : List TableFile) (i : ℕ) (d : TableFile) → i < length files → Contains (table_names (map (named_rows has_headers) files)) (get_or files i d).name
named_in has_headers files i d inside =
    let rows : List NamedRows = map (named_rows has_headers) files in
    let within : i < length rows = omega (arith, length-map files (named_rows has_headers)) in (
      i,
      omega (arith, length-map rows (λ (f : NamedRows). f.name)),
      get_or-map (λ (f : NamedRows). f.name) rows i (named_rows has_headers d) (get_or files i d).name within ∙ ap (λ (f : NamedRows). f.name) (get_or-map (named_rows has_headers) files i d (named_rows has_headers d) inside),
    )

-- what may be deleted of the rows may be deleted of the files
pub may_delete_files : (has_headers : Bool) (files : List TableFile) → All (λ (f : NamedRows). IsTrue (has_deletes f.name)) (map (named_rows has_headers) files) → All (λ (f : TableFile). IsTrue (has_deletes f.name)) files
may_delete_files has_headers files all = λ k d inside.
    subst (λ (f : NamedRows). IsTrue (has_deletes f.name)) (get_or-map (named_rows has_headers) files k d (named_rows has_headers d) inside)
    (all k (named_rows has_headers d) (omega (arith, length-map files (named_rows has_headers))))

-- ---- errors

abbrev pub place_of : FileList → ℕ → TableFile → FilePlace
place_of list place f = record { list = list; place = place; name = f.name }

listed_at : (source : Source) (list : FileList) (place : ℕ) (f : TableFile) → slice_get (files_in source list) place ≡ Some f
    → slice_get (rows_listed (objects_in source) list) place ≡ Some (named_rows source.has_headers f)
listed_at source Contents place f there = slice_get-map (named_rows source.has_headers) source.contents.now place ∙ ap (option_map (named_rows source.has_headers)) there
listed_at source DeletesList place f there = slice_get-map (named_rows source.has_headers) source.deletes.now place ∙ ap (option_map (named_rows source.has_headers)) there

-- what is said of the file at a place of its list is true of the source
file_error : (a : Attributes) (source : Source) (base : Option Base) (list : FileList) (place : ℕ) (f : TableFile) (error : PackError)
    → slice_get (files_in source list) place ≡ Some f → IsSourceError source.has_headers (place_of list place f) f.text.now error → IsPackError a source base error
file_error a source base list place f (Header at) there said = (said.1, subst (LacksHeader source) (sym said.0) (f, there, refl, said.2))
file_error a source base list place f (Table t) there said =
    let At : FilePlace → Type 0 = λ at. (g : NamedRows) × (slice_get (rows_listed (objects_in source) at.list) at.place ≡ Some g) × (g.name ≡ at.name) × RefusesRowsOf at.list g t.fault × (t.fault ≢ OutOfMemory) in
    subst At (sym said.0) (named_rows source.has_headers f, listed_at source list place f there, refl, said.1, said.2)
file_error a source base list place f Memory there said = tt
file_error a source base list place f (Sunday day) there said = absurd said
file_error a source base list place f (PrevId kind) there said = absurd said
file_error a source base list place f (Deletes kind table) there said = absurd said
file_error a source base list place f (Menu reason) there said = absurd said
file_error a source base list place f (Reference missing) there said = absurd said
file_error a source base list place f NoBase there said = absurd said
file_error a source base list place f (Count table) there said = absurd said
file_error a source base list place f Length there said = absurd said

pub source_error : (a : Attributes) (source : Source) (base : Option Base) (list : FileList) (files : List TableFile) (has_headers : Bool) (i : ℕ) (d : TableFile) (error : PackError)
    → files_in source list ≡ files → source.has_headers ≡ has_headers → i < length files
    → IsSourceError has_headers (place_of list i (get_or files i d)) (get_or files i d).text.now error → IsPackError a source base error
source_error a source base list files has_headers i d error same headed inside said =
    file_error a source base list i (get_or files i d) error (ap (λ (files : List TableFile). slice_get files i) same ∙ slice_get-get_or files i d inside)
    (subst (λ (h : Bool). IsSourceError h (place_of list i (get_or files i d)) (get_or files i d).text.now error) (sym headed) said)

-- ---- rows

-- the rows of one more file
pub rows_more : (has_headers : Bool) (files : List TableFile) (i : ℕ) (d : TableFile) (tables after : List (List (List (List ℕ)))) (rows : List (List (List ℕ)))
    → i < length files → tables ≡ rows_of (map (named_rows has_headers) (take i files)) → rows ≡ rows_below_header has_headers (get_or files i d).text.now → after ≡ tables ++ rows ∷ []
    → after ≡ rows_of (map (named_rows has_headers) (take (i + 1) files))
rows_more has_headers files i d tables after rows inside before here pushed =
    let front : List NamedRows = map (named_rows has_headers) (take i files) in
    let last : NamedRows = named_rows has_headers (get_or files i d) in
    let step : rows_of (map (named_rows has_headers) (take (i + 1) files)) ≡ rows_of front ++ last.rows ∷ [] =
    ap rows_of (map_more (named_rows has_headers) files i d inside) ∙ map_push (λ (f : NamedRows). f.rows) front last in
    pushed ∙ ap (λ (t : List (List (List (List ℕ)))). t ++ rows ∷ []) before ∙ ap (λ (r : List (List (List ℕ))). rows_of front ++ r ∷ []) here ∙ sym step

-- what holds of the rows of one more file
pub right_more : (P : NamedRows → Type 0) (has_headers : Bool) (files : List TableFile) (i : ℕ) (d : TableFile) (rows : List (List (List ℕ)))
    → i < length files → All P (map (named_rows has_headers) (take i files)) → rows ≡ rows_below_header has_headers (get_or files i d).text.now → P (record { name = (get_or files i d).name; rows = rows })
    → All P (map (named_rows has_headers) (take (i + 1) files))
right_more P has_headers files i d rows inside before same here =
    All-same P _ _ (map_more (named_rows has_headers) files i d inside)
    (All-push P (map (named_rows has_headers) (take i files)) (named_rows has_headers (get_or files i d)) before
    (subst (λ (r : List (List (List ℕ))). P (record { name = (get_or files i d).name; rows = r })) same here))

-- what holds of the files up to one more
pub each_more : (P : TableFile → Type 0) (files : List TableFile) (i : ℕ) (d : TableFile) → i < length files → All P (take i files) → P (get_or files i d) → All P (take (i + 1) files)
each_more P files i d inside before here =
    let next : suc i ≡ i + 1 = omega arith in
    subst (λ (n : ℕ). All P (take n files)) next (All-same P _ _ (take-suc files i d inside) (All-push P (take i files) (get_or files i d) before here))

-- what is said of a file is an error of reading it
pub reading_error : (has_headers : Bool) (file : FilePlace) (text : List ℕ) (error : PackError) → IsSourceError has_headers file text error → IsReadingError error
reading_error h file text (Sunday day) is = is
reading_error h file text (PrevId kind) is = is
reading_error h file text (Deletes kind table) is = is
reading_error h file text (Header place) is = tt
reading_error h file text (Table t) is = tt
reading_error h file text (Menu reason) is = is
reading_error h file text (Reference missing) is = is
reading_error h file text NoBase is = is
reading_error h file text (Count table) is = is
reading_error h file text Length is = is
reading_error h file text Memory is = tt
