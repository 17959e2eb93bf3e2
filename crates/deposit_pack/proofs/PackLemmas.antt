-- What was read, written and counted may be packed, and is packed.
use Rattle.std.specs.Prelude.{◌^◌, unwrap_or}
use Rattle.std.proofs.Common.{◌≡◌, ◌<◌, ◌≤◌, ◌++◌, ◌∙◌, [], ℕ, All, IsTrue, List, ap, arith, length, map, refl, subst, sym}
use Rattle.std.proofs.lemmas.List.Elements.{All-map}
use Rattle.deposit_name.specs.Tables.{has_deletes}
use Rattle.deposit_name.specs.declared.kinds.Kind.{Kind}
use Rattle.deposit_name.specs.declared.kinds.Kind.TheVariants.{Full}
use Rattle.envelope.specs.Envelope.{Env, IsEnvelope, env_text, file_length_max}
use Rattle.envelope.specs.Frame.{frame}
use Rattle.envelope.proofs.Lengths.{env_most}
use Rattle.deposit_verify.specs.Checks.{HasMenu, StandInOrder}
use Rattle.deposit_verify.specs.References.{AreReferencesKept}
use Rattle.deposit_verify.specs.declared.base.Base.{Base}
use Rattle.deposit_verify.specs.declared.files_read.FilesRead.{FilesRead}
use Rattle.deposit_pack.specs.Packable.{AreAttributes, IsPackable, MayDelete}
use Rattle.deposit_pack.specs.Packing.{NamedRows, Objects, contents_rows, deletes_member, packed_entry, env_counting, file_of, files_text_of, table_names, numbers_of, packed, packed_env}
use Rattle.deposit_pack.specs.declared.source.Attributes.{Attributes}
use Rattle.deposit_pack.specs.inside.Steps.{AreRead, HasNoFault}
use Rattle.deposit_pack.proofs.EnvelopeLemmas.{menu_contents, names_entered}
use Rattle.deposit_pack.proofs.PackedForm.{packed_in_form}

may_delete : (kind : Kind) (ds : List NamedRows) → (kind ≡ Full → ds ≡ []) → StandInOrder (map (λ e. e.name) (unwrap_or (deletes_member kind (map packed_entry ds)) [])) → All (λ f. IsTrue (has_deletes f.name)) ds
    → MayDelete kind (table_names ds)
may_delete Full ds none order each = ap table_names (none refl)
may_delete _ ds none order each = (subst StandInOrder (names_entered ds) order, All-map (λ name. IsTrue (has_deletes name)) (λ (f : NamedRows). f.name) ds each)

module _ (a : Attributes) (o : Objects) (before : Base) where
  -- what has no fault, was read, has the menu, and was written and counted
  pub packable : (v : Env) (numbers : List ℕ) (files : FilesRead) → v ≡ env_counting a o numbers → AreAttributes a → HasNoFault a o → AreRead o files → HasMenu v → (a.name.kind ≡ Full → AreReferencesKept (contents_rows o))
      → All (λ f. length (file_of f) ≤ file_length_max) (o.contents ++ o.deletes) → All (λ n. n < 2 ^ 32) (numbers_of a.name.kind a o before) → IsPackable a o before
  packable v numbers files is attributes fine read menu references lengths counts =
      let here : HasMenu (env_counting a o numbers) = subst HasMenu is menu in
      record {
        attributes = attributes;
        weekday = fine.weekday;
        prev_id = fine.prev_id;
        contents = menu_contents v a o numbers is menu;
        deletes = may_delete a.name.kind o.deletes fine.none_of_full here.deletes fine.deletes;
        tables = read.tables_right;
        keys = read.keys_right;
        references = references;
        lengths = lengths;
        counts = counts;
      }

  -- its envelope has a short text
  pub short_text : (text : List ℕ) (v : Env) → text ≡ env_text v → v ≡ packed_env a o before → IsPackable a o before → length text < 10 ^ 8
  short_text text v spelled is can = omega (arith, ap length spelled, env_most v (subst IsEnvelope (sym is) (packed_in_form a o before can)))

  -- framed with its files, that text is the deposit
  pub packed_bytes : (bytes text body : List ℕ) (v : Env) → bytes ≡ frame text body → text ≡ env_text v → v ≡ packed_env a o before → body ≡ files_text_of o → bytes ≡ packed a o before
  unfolding packed
  packed_bytes bytes text body v framed spelled is written = framed ∙ ap (λ (t : List ℕ). frame t body) (spelled ∙ ap env_text is) ∙ ap (frame (env_text (packed_env a o before))) written
