use Rattle.std.proofs.Common.{◌≡◌, ◌∙◌, Bor, List, ℕ, ap, arith, length, sym}
use Rattle.std.proofs.lemmas.List.{length-map}
use Rattle.dnrd_csv.specs.inside.RowKeys.{borrowed_texts}
use Rattle.envelope.specs.Envelope.{Env, env_of}
use Rattle.deposit_verify.specs.Deposit.{AreFiles, all_entries, contents_files, deletes_files, deletes_of}
use Rattle.deposit_verify.proofs.Judged.{files_parted}
use Rattle.deposit_verify.proofs.files_read.read_files.Goals as goal

-- how many files there are of contents, and of deletes
are_parted : (v : Env) (rest : List ℕ) (files contents deletes : List (Bor (List ℕ))) → AreFiles (all_entries v) rest (borrowed_texts files)
    → borrowed_texts contents ≡ contents_files v (borrowed_texts files) → borrowed_texts deletes ≡ deletes_files v (borrowed_texts files)
    → (length contents ≡ length v.contents) × (length deletes ≡ length (deletes_of v))
are_parted v rest files contents deletes are front back =
    let parted = files_parted v rest (borrowed_texts files) are in
    let count = λ (fs : List (Bor (List ℕ))). length-map fs (λ (f : Bor (List ℕ)). f.now) in
    (sym (count contents) ∙ ap length front ∙ parted.1, sym (count deletes) ∙ ap length back ∙ parted.2)

pub parted-requires : goal.parted-requires
parted-requires c =
    let are = rw (c.in-Ok.is, ← c.deref.ensures.value) at c.in_ok-files.ensures.cut in
    omega (arith, length-map c.deref.result.now (λ (f : Bor (List ℕ)). f.now), (files_parted (env_of c.args.envelope.now) c.args.rest.now _ are).0)

pub read_tables-requires : goal.read_tables-requires
read_tables-requires c =
    let are = rw (c.in-Ok.is, ← c.deref.ensures.value) at c.in_ok-files.ensures.cut in
    rw c.deref-2.ensures.value (are_parted (env_of c.args.envelope.now) c.args.rest.now _ _ _ are c.parted.ensures.contents c.parted.ensures.deletes).0

pub returns-in-Err-2-clause-read : goal.returns-in-Err-2-clause-read
returns-in-Err-2-clause-read c =
    let are = rw (c.in-Ok.is, ← c.deref.ensures.value) at c.in_ok-files.ensures.cut in
    (borrowed_texts c.deref.result.now, are, rw (c.in-Err-2.is, c.deref-2.ensures.value, c.parted.ensures.contents) at c.in_ok-tables.ensures.read)

pub read_key_files-requires-clause-count : goal.read_key_files-requires-clause-count
read_key_files-requires-clause-count c =
    let are = rw (c.in-Ok.is, ← c.deref.ensures.value) at c.in_ok-files.ensures.cut in
    rw c.deletes_of.ensures (are_parted (env_of c.args.envelope.now) c.args.rest.now _ _ _ are c.parted.ensures.contents c.parted.ensures.deletes).1
