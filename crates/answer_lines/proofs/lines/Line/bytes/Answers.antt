use Rattle.std.proofs.Common.{◌∙◌, sym, ap, List, ℕ, [], ◌∷◌, ◌++◌, codes}
use Rattle.answer_lines.specs.Lines.{line_text}
use Rattle.answer_lines.specs.declared.lines.Line.{Line}
use Rattle.answer_lines.proofs.lines.Line.bytes.Goals as goal

pub returns-in-Released : goal.returns-in-Released
returns-in-Released c =
    c.words_line.ensures ∙ ap (λ (text : List ℕ). (codes "released " ++ text) ++ 10 ∷ []) c.release_words-release.ensures.text
    ∙ ap (λ (line : Line). line_text line ++ 10 ∷ []) (sym c.in-Released.is)

pub returns-in-Release : goal.returns-in-Release
returns-in-Release c =
    c.words_line-in-Release.ensures ∙ ap (λ (text : List ℕ). (codes "release " ++ text) ++ 10 ∷ []) c.release_words-release-in-Release.ensures.text
    ∙ ap (λ (line : Line). line_text line ++ 10 ∷ []) (sym c.in-Release.is)

pub returns-in-LiftedHold : goal.returns-in-LiftedHold
returns-in-LiftedHold c =
    c.words_line-in-LiftedHold.ensures ∙ ap (λ (text : List ℕ). (codes "hold " ++ text) ++ 10 ∷ []) c.lifted_hold_words.ensures.text
    ∙ ap (λ (line : Line). line_text line ++ 10 ∷ []) (sym c.in-LiftedHold.is)
