use Rattle.std.proofs.Common.{ℕ, List, [], ◌∷◌, ◌++◌, Bor, length, map, refl, sym, ◌∙◌, ap, subst}
use Rattle.std.proofs.lemmas.Iterator.Consumers.{YieldsList-at, YieldsList-from_first, YieldsList-end, YieldsList-turn}
use Rattle.vault_volume.specs.Vault.{volume_of}
use Rattle.custody_records.specs.MemoryRecords.{records_of}
use Rattle.custody_records.specs.RegistryRows.{rows_left}
use Rattle.custody_records.specs.declared.parts.Part.{Part}
use Rattle.custody_rules.specs.Blocks.{IsInRange}
use Rattle.custody_rules.proofs.PartBlocks.{in_range_rows}
use Rattle.custody.specs.Auditing.{has_digest}
use Rattle.custody.proofs.AuditLemmas.{IsPicked, IsPicking, IsPassing, passed_on, picked_on, are_held, are_damaged}
use Rattle.custody.proofs.RevisionLemmas.{read_again}
use Rattle.custody.proofs.auditing.audit_parts.Goals as goal

pub has_digest-requires-clause-held : goal.has_digest-requires-clause-held
has_digest-requires-clause-held g c =
    let records = records_of c.args.records.now in
    let rows = rows_left c.parts-part-items.result in
    let item = c.in-Some.part.now in
    let turn = YieldsList-turn (YieldsList-at c.into_iter-part-iterator.ensures.into_iter_gives (YieldsList-from_first (λ (p : Bor Part). p.now) rows_left rows refl))
    c.loop-part.yielded c.loop-part.part-iterator c.loop-part.yielded_by c.next.result c.next.new.self c.in-Some.part c.in-Some.is c.next.ensures.steps in
    subst (λ (n : ℕ). IsInRange n item) (sym (c.loop-part.invariant.read.size ∙ c.requires.blocks))
    (subst (IsInRange records.blocks) (sym turn.1) (in_range_rows records rows c.parts-part-items.ensures.all c.parts-part-items.ensures.rising c.requires.range (length c.loop-part.yielded) item turn.0))

pub loop-part-preserved-in-Ok-push : goal.loop-part-preserved-in-Ok-push
loop-part-preserved-in-Ok-push g c =
    let tells = g.V.Volume.tells in
    let image = g.V.Volume.image (volume_of c.args.vault.now) in
    let part = c.in-Some.part in
    let inv = c.loop-part.invariant in
    let found = c.in-Ok.ensures in
    record {
      read = read_again c.args.vault.now c.loop-part.vault c.has_digest.new.vault inv.read found.read;
      failures = found.failures ∙ inv.failures;
      picked = subst (IsPicked (IsPicking tells image) (IsPassing tells image) (map (λ (p : Bor Part). p.now) (c.loop-part.yielded ++ part ∷ []))) (sym c.in-Ok-push.ensures.items)
          (picked_on (IsPicking tells image) (IsPassing tells image) c.loop-part.yielded part c.loop-part.damaged.items
          (found.dropped c.if-not-intact.true, λ t. sym (found.digest t ∙ ap (λ (j : List ℕ). has_digest j part.now) (inv.read.image t)) ∙ c.if-not-intact.true) inv.picked);
    }

pub loop-part-preserved : goal.loop-part-preserved
loop-part-preserved g c =
    let tells = g.V.Volume.tells in
    let image = g.V.Volume.image (volume_of c.args.vault.now) in
    let part = c.in-Some.part in
    let inv = c.loop-part.invariant in
    let found = c.in-Ok.ensures in
    record {
      read = read_again c.args.vault.now c.loop-part.vault c.has_digest.new.vault inv.read found.read;
      failures = found.failures ∙ inv.failures;
      picked = passed_on (IsPicking tells image) (IsPassing tells image) c.loop-part.yielded part c.loop-part.damaged.items
          (λ t. sym (found.digest t ∙ ap (λ (j : List ℕ). has_digest j part.now) (inv.read.image t)) ∙ c.if-not-intact.false) inv.picked;
    }

pub returns-clause-held : goal.returns-clause-held
returns-clause-held g c =
    let tells = g.V.Volume.tells in
    let image = g.V.Volume.image (volume_of c.args.vault.now) in
    let rows = rows_left c.parts-part-items.result in
    let names = c.loop-part.damaged.items in
    let seen = YieldsList-end (YieldsList-at c.into_iter-part-iterator.ensures.into_iter_gives (YieldsList-from_first (λ (p : Bor Part). p.now) rows_left rows refl))
    c.loop-part.yielded c.loop-part.part-iterator c.loop-part.yielded_by c.next.result c.next.new.self c.in-None.is c.next.ensures.steps in
    are_held (records_of c.args.records.now) rows c.parts-part-items.ensures.all c.parts-part-items.ensures.rising tells image names
    (subst (λ l. IsPicked (IsPicking tells image) (IsPassing tells image) l names) seen.0 c.loop-part.invariant.picked)

pub returns-clause-damaged : goal.returns-clause-damaged
returns-clause-damaged g c = λ told.
    let tells = g.V.Volume.tells in
    let image = g.V.Volume.image (volume_of c.args.vault.now) in
    let rows = rows_left c.parts-part-items.result in
    let names = c.loop-part.damaged.items in
    let seen = YieldsList-end (YieldsList-at c.into_iter-part-iterator.ensures.into_iter_gives (YieldsList-from_first (λ (p : Bor Part). p.now) rows_left rows refl))
    c.loop-part.yielded c.loop-part.part-iterator c.loop-part.yielded_by c.next.result c.next.new.self c.in-None.is c.next.ensures.steps in
    are_damaged (records_of c.args.records.now) rows c.parts-part-items.ensures.all c.parts-part-items.ensures.rising tells image names
    (subst (λ l. IsPicked (IsPicking tells image) (IsPassing tells image) l names) seen.0 c.loop-part.invariant.picked) told
