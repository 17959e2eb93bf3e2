use Rattle.std.proofs.Common.{◌∙◌, ◌≡◌, refl, inl, subst, Ok, ℕ, List}
use Rattle.std.specs.Io.KnownBytes.{Appends}
use Rattle.desk.specs.Lines.{AppendsBeginning}
use Rattle.custody.specs.ExplanationText.{explanation_text}
use Rattle.answer_lines.specs.Printing.{as_line}
use Rattle.agent_cli.proofs.acting.explain.Goals as goal

pub returns-in-Ok-format-clause-explains : goal.returns-in-Ok-format-clause-explains
returns-in-Ok-format-clause-explains g c =
    let text : c.as_bytes.result.now ≡ as_line (explanation_text c.in-Ok.explanation) = c.as_bytes.ensures.value ∙ c.in-Ok-format.ensures.ok in (
      Ok c.in-Ok.explanation,
      c.in-Ok.ensures,
      inl (
        c.print_bytes.ensures.status,
        (
          (
            (λ done. subst (λ (bytes : List ℕ). Appends (g.W.Write.contents c.args.out.now) (g.W.Write.contents c.print_bytes.new.out) bytes) text (c.print_bytes.ensures.written done)),
            subst (λ (bytes : List ℕ). AppendsBeginning (g.W.Write.contents c.args.out.now) (g.W.Write.contents c.print_bytes.new.out) bytes) text c.print_bytes.ensures.begun,
          ),
          refl,
        ),
      ),
    )
