use Rattle.std.proofs.Common.{◌≡◌, ◌<◌, ◌+◌, ◌++◌, ◌∷◌, ◌∙◌, [], List, ℕ, ap, arith, get_or, length, map, rules, sym, take}
use Rattle.std.specs.Iterator.Adapters.{zip_first, zip_second}
use Rattle.std.specs.Slice.Iter.{iter_rest}
use Rattle.std.proofs.lemmas.List.{length-append, length-map, get_or-map, map-append, take_more}
use Rattle.std.proofs.lemmas.Slice.Zip.{zip_turn}
use Rattle.deposit_name.specs.declared.table.TableName.TheVariants.{Domain}
use Rattle.dnrd_csv.specs.inside.RowKeys.{borrowed_texts}
use Rattle.envelope.specs.declared.envelope.FileEntry.{FileEntry}
use Rattle.deposit_verify.proofs.Lists.{no_entry}
use Rattle.deposit_pack.specs.declared.source.TableFile.{TableFile}
use Rattle.deposit_pack.proofs.unpacking.named_files.Goals as goal

-- one element more is what stands at the next place
one_more : {T Y : Type 0} (f : T → Y) (ts : List T) (t : T) (ys : List Y) (n m : ℕ) (d : Y) → map f ts ≡ take n ys → m ≡ n + 1 → n < length ys → f t ≡ get_or ys n d → map f (ts ++ t ∷ []) ≡ take m ys
one_more f ts t ys n m d before next inside here =
    map-append f ts (t ∷ []) ∙ ap (λ front. front ++ f t ∷ []) before ∙ ap (λ y. take n ys ++ y ∷ []) here ∙ sym (take_more ys n d inside) ∙ ap (λ (k : ℕ). take k ys) (sym next)

pub loop-entry-preserved : goal.loop-entry-preserved
loop-entry-preserved c =
    let s = c.into_iter-entry-iterator.result in
    let first : iter_rest (zip_first s) ≡ c.args.entries.now = first_of (cc, search rules) in
    let second : iter_rest (zip_second s) ≡ c.args.files.now = first_of (cc, search rules) in
    let turn = zip_turn c.args.entries.now c.args.files.now c.loop-entry.yielded s c.loop-entry.entry-iterator c.next.new.self c.next.result first second c.loop-entry.yielded_by (c.in-Some.entry, c.in-Some.text) c.in-Some.is c.next.ensures.steps in
    let n = length c.loop-entry.yielded in
    let m : length (c.loop-entry.yielded ++ (c.in-Some.entry, c.in-Some.text) ∷ []) ≡ n + 1 = length-append c.loop-entry.yielded ((c.in-Some.entry, c.in-Some.text) ∷ []) in
    let file : TableFile = record { name = c.in-Some.entry.now.name; text = c.in-Some.text.now } in
    record {
      names = ap (map (λ (f : TableFile). f.name)) c.in_ok-push.ensures.items
          ∙ one_more (λ (f : TableFile). f.name) c.loop-entry.named.items file (map (λ (e : FileEntry). e.name) c.args.entries.now) n _ Domain c.loop-entry.invariant.names m
          (omega (arith, turn.0, length-map c.args.entries.now (λ (e : FileEntry). e.name)))
          (ap (λ (e : FileEntry). e.name) (turn.2 no_entry) ∙ sym (get_or-map (λ (e : FileEntry). e.name) c.args.entries.now n no_entry Domain turn.0));
      texts = ap (map (λ (f : TableFile). f.text.now)) c.in_ok-push.ensures.items
          ∙ one_more (λ (f : TableFile). f.text.now) c.loop-entry.named.items file (borrowed_texts c.args.files.now) n _ [] c.loop-entry.invariant.texts m
          (omega (arith, turn.1, length-map c.args.files.now (λ f. f.now)))
          (ap (λ f. f.now) (turn.3 c.in-Some.text.now) ∙ sym (get_or-map (λ f. f.now) c.args.files.now n c.in-Some.text.now [] turn.1));
    }
