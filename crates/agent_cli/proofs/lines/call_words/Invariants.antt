use Rattle.std.specs.Str.Iter.{split_whitespace_rest}
use Rattle.agent_cli.proofs.LineLemmas.{WordsBefore}
use Rattle.agent_cli.proofs.lines.call_words.Given as goal

abbrev pub invariant-loop-word : goal.invariant-loop-word
invariant-loop-word l = WordsBefore l.folder l.text (split_whitespace_rest l.word-iterator) l.words.items
