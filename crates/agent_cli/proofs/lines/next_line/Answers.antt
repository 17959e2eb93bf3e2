use Rattle.std.proofs.Common.{◌≡◌, ◌∙◌, length, vec_len, sym, subst, arith}
use Rattle.agent_cli.proofs.LineLemmas.{HasRead, has_read_nothing, has_read_byte, has_read_kept, empty_by_length, nonempty_by_length, reads_no_line, reads_last_line, reads_ended_line, reads_long_line}
use Rattle.agent_cli.proofs.lines.next_line.Goals as goal
use Rattle.agent_cli.proofs.lines.next_line.Goals.{in-Ok-Some-2+in_ok-push-in-Ok-Some-2, in-Err}

-- nothing is read yet
pub loop-init : goal.loop-init
loop-init g c =
    let old = g.R.Read.remaining c.args.input.now in
    subst (HasRead old old) (sym c.new-line.ensures.items) (has_read_nothing old)

-- the line is too long
pub returns-then-len-gt-LONGEST_LINE : goal.returns-then-len-gt-LONGEST_LINE
returns-then-len-gt-LONGEST_LINE g c = reads_long_line c.loop.invariant (omega (arith, c.loop.line.ok.0))

-- no byte is left where the line would begin
pub returns-in-Ok-None : goal.returns-in-Ok-None
returns-in-Ok-None g c =
    let counts : vec_len c.loop.line ≡ length c.loop.line.items = omega (arith, c.loop.line.ok.0) in
    reads_no_line c.loop.invariant (g.R.Read.remaining c.next_byte.new.input) c.next_byte.result c.next_byte.ensures c.in-Ok-None.is c.in-Ok-None.field-0-is
    (empty_by_length (vec_len c.loop.line) c.loop.line.items counts (sym c.is_empty.ensures ∙ c.if-is_empty.true))

-- the last line ends with the bytes
pub returns-in-Ok-None-2 : goal.returns-in-Ok-None-2
returns-in-Ok-None-2 g c =
    let counts : vec_len c.loop.line ≡ length c.loop.line.items = omega (arith, c.loop.line.ok.0) in
    reads_last_line c.loop.invariant (g.R.Read.remaining c.next_byte.new.input) c.next_byte.result c.next_byte.ensures c.in-Ok-None.is c.in-Ok-None.field-0-is
    (nonempty_by_length (vec_len c.loop.line) c.loop.line.items counts (sym c.is_empty.ensures ∙ c.if-is_empty.false)) (omega (arith, c.loop.line.ok.0))

-- the line ends before a line feed
pub returns-in-Ok-Some : goal.returns-in-Ok-Some
returns-in-Ok-Some g c =
    reads_ended_line c.loop.invariant (g.R.Read.remaining c.next_byte.new.input) c.next_byte.result c.next_byte.ensures c.in-Ok-Some.is c.in-Ok-Some.field-0-is c.if-byte-eq10.true
    (omega (arith, c.loop.line.ok.0))

-- another byte is added to the line, or an interrupted read leaves all as it was
pub loop-preserved : goal.loop-preserved
loop-preserved g c = elim c.match-next_byte.branch [
  | in-Ok-Some-2+in_ok-push-in-Ok-Some-2 w ↦
      rw w.line-is (has_read_byte c.loop.invariant (g.R.Read.remaining c.next_byte.new.input) c.next_byte.result c.next_byte.ensures w.in-Ok-Some.is w.in-Ok-Some.field-0-is w.if-byte-eq10.false
      w.in_ok-push-in-Ok-Some-2.ensures.items)
  | in-Err w ↦ rw w.line-is (has_read_kept c.loop.invariant (g.R.Read.remaining c.next_byte.new.input) c.next_byte.result c.next_byte.ensures w.in-Err.is)
]
