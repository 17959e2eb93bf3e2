use Rattle.std.proofs.Common.{◌≡◌, ◌↔◌, ◌<◌, ◌++◌, ◌∷◌, ◌∙◌, [], ℕ, Bool, Bor, Contains, IsTrue, List, ap, append-nil, arith, cond, filter, get_or, length, sym}
use Rattle.std.proofs.lemmas.List.{length-map, take_all}
use Rattle.csv.specs.Records.{fields_of, partial_of}
use Rattle.dnrd_csv.specs.inside.RowKeys.{borrowed_texts}
use Rattle.deposit_verify.specs.References.{column}
use Rattle.deposit_verify.proofs.Lists.{text_at}
use Rattle.deposit_tables.specs.inside.Changing.{is_gone}
use Rattle.deposit_tables.proofs.ChangedRows.{gone_more}
use Rattle.deposit_tables.proofs.changes.gone_keys.Goals as goal
use Rattle.deposit_tables.proofs.changes.gone_keys.Goals.{then-not-has_key+in_ok-push_field, else-not-has_key}

pub loop-key-preserved : goal.loop-key-preserved
loop-key-preserved c =
    let own = column 0 c.args.rows.now in
    let keys = c.args.keys.now in
    let sorted = borrowed_texts c.in_ok-own.own.items in
    let texts = borrowed_texts keys in
    let i = c.loop-key.key-index in
    let none : Bor (List ℕ) = record { ref_ptr = (0, 0); now = [] } in
    let key = (get_or keys i none).now in
    let now = fields_of c.loop-key.fields in
    let next = fields_of c.if-not-has_key.fields in
    let inside : i < length texts = omega (arith, length-map keys (λ (k : Bor (List ℕ)). k.now), c.loop-key-test.true) in
    let at : get_or texts i [] ≡ key = text_at keys i none c.loop-key-test.true in
    let told : IsTrue c.has_key.result ↔ Contains sorted key = rw c.deref.ensures.value at c.has_key.ensures in
    elim c.if-not-has_key.branch [
      | then-not-has_key+in_ok-push_field w ↦ record {
        so_far = gone_more own sorted texts i key c.has_key.result now next inside at told c.in_ok-own.ensures.same c.loop-key.invariant.so_far
            (ap fields_of w.fields-is ∙ w.in_ok-push_field.ensures.fields ∙ ap (λ (p : List ℕ). now ++ (p ++ key) ∷ []) c.loop-key.invariant.partial ∙ ap (λ (b : Bool). now ++ cond b [] (key ∷ [])) (sym w.if-not-has_key.true));
        partial = ap partial_of w.fields-is ∙ w.in_ok-push_field.ensures.partial;
      }
      | else-not-has_key w ↦ record {
        so_far = gone_more own sorted texts i key c.has_key.result now next inside at told c.in_ok-own.ensures.same c.loop-key.invariant.so_far
            (ap fields_of w.fields-is ∙ sym (append-nil now) ∙ ap (λ (b : Bool). now ++ cond b [] (key ∷ [])) (sym w.if-not-has_key.false));
        partial = ap partial_of w.fields-is ∙ c.loop-key.invariant.partial;
      }
    ]

pub returns : goal.returns
returns c =
    let keys = c.args.keys.now in
    c.from_fields.ensures ∙ c.loop-key.invariant.so_far
    ∙ ap (filter (is_gone (column 0 c.args.rows.now))) (take_all c.loop-key.key-index (borrowed_texts keys) (omega (arith, length-map keys (λ (k : Bor (List ℕ)). k.now), c.loop-key-test.false)))
