use Rattle.std.proofs.Common.{◌≡◌, ◌<◌, ◌≤◌, true, map, length, sym, ap, ◌∙◌, arith, rules}
use Rattle.std.specs.Prelude.{not, is_some}
use Rattle.std.proofs.lemmas.List.{length-map}
use Rattle.custody_records.specs.declared.damage.RowDamage.TheVariants as damage
use Rattle.custody_records.specs.Form.{is_schema, has_holds, records_in, in_form_or, OutOfForm}
use Rattle.custody_store.specs.Reading.{answered_meta}
use Rattle.custody_store.proofs.FormLemmas.{many, mismatch, volume}
use Rattle.custody_store.proofs.loading.volume_in.Goals as goal

pub returns-then-has_holds : goal.returns-then-has_holds
returns-then-has_holds c why same rest there =
    let is : damage.Form ≡ why = cc in
    let known : is_schema c.in-Some.meta.schema_no ≡ true = search rules in
    let apart : is_some rest.holds ≡ not (has_holds c.in-Some.meta.schema_no) = search (rules, there) in
    mismatch (map answered_meta c.args.rows.now) c.in-Some.meta rest (sym c.in-Some.ensures) known apart ∙ ap OutOfForm is

pub returns-then-rows-gt1 : goal.returns-then-rows-gt1
returns-then-rows-gt1 c why same rest there =
    let is : damage.Form ≡ why = cc in
    let known : is_schema c.in-Some.meta.schema_no ≡ true = search rules in
    let more : 1 < length (map answered_meta c.args.rows.now) = omega (arith, c.if-rows-gt1.true, length-map c.args.rows.now answered_meta) in
    many (map answered_meta c.args.rows.now) c.in-Some.meta rest (sym c.in-Some.ensures) known more ∙ ap OutOfForm is

pub returns-in-Some-volume : goal.returns-in-Some-volume
returns-in-Some-volume c rest =
    let known : is_schema c.in-Some.meta.schema_no ≡ true = search rules in
    let same : has_holds c.in-Some.meta.schema_no ≡ c.args.has_holds = search rules in
    let few : length (map answered_meta c.args.rows.now) ≤ 1 = omega (arith, c.if-rows-gt1.false, length-map c.args.rows.now answered_meta) in
    volume (map answered_meta c.args.rows.now) c.in-Some.meta c.in-Some-volume.volume rest (sym c.in-Some.ensures) known few (sym c.in-Some-volume.ensures)
    ∙ ap (λ h. in_form_or damage.Form (records_in h c.in-Some-volume.volume.0 c.in-Some-volume.volume.1 rest)) same
