use Rattle.std.proofs.Common.{◌≡◌, ◌≢◌, length, ap, ◌∙◌, arith}
use Rattle.std.specs.Str.Iter.{split_whitespace_rest}
use Rattle.agent_cli.proofs.LineLemmas.{begins_with_word, words_before_start, words_before_next, words_before_first, words_before_end}
use Rattle.agent_cli.proofs.lines.call_words.Goals as goal

-- no word is seen yet, and the whole text is left
pub loop-word-init : goal.loop-word-init
loop-word-init c =
    let rest_is_text = ap split_whitespace_rest c.into_iter-word-iterator.ensures.into_iter_gives ∙ c.split_whitespace-word-items.ensures.rest in
    words_before_start c.args.folder.now c.args.text.now _ c.new-words.result.items c.push.new.self.items c.in_ok-from_str.field-0 rest_is_text c.new-words.ensures.items c.in_ok-push.ensures.items
    c.in_ok-from_str.ensures.ok

-- the first word of the line, with the folder after it
pub loop-word-preserved-in_ok-push-3 : goal.loop-word-preserved-in_ok-push-3
loop-word-preserved-in_ok-push-3 c =
    let begins = begins_with_word _ c.in-Some.word.now _ c.in-Some.ensures.steps in
    let two : length c.push-in-loop-word.new.self.items ≡ 2 = omega (arith, c.push-in-loop-word.new.self.ok.0) in
    words_before_first c.loop-word.invariant c.push-in-loop-word.new.self.items c.push-then-len-eq2.new.self.items c.in_ok-from_str-2.field-0 c.in_ok-from_str-3.field-0 begins
    c.in_ok-push-2.ensures.items c.in_ok-from_str-2.ensures.ok two c.in_ok-push-3.ensures.items c.in_ok-from_str-3.ensures.ok

-- a word after the first
pub loop-word-preserved : goal.loop-word-preserved
loop-word-preserved c =
    let begins = begins_with_word _ c.in-Some.word.now _ c.in-Some.ensures.steps in
    let other : length c.push-in-loop-word.new.self.items ≢ 2 = λ two. c.if-len-eq2.false (omega (arith, c.push-in-loop-word.new.self.ok.0)) in
    words_before_next c.loop-word.invariant c.push-in-loop-word.new.self.items c.in_ok-from_str-2.field-0 begins c.in_ok-push-2.ensures.items c.in_ok-from_str-2.ensures.ok other

-- the iterator is done, so the words seen are all the words
pub returns : goal.returns
returns c =
    let before = c.loop-word.invariant in
    (before.seen, words_before_end before c.in-None.ensures.steps.1, before.called)
