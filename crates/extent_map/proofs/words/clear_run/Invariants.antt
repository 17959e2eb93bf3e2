use Rattle.std.proofs.Common.{◌≡◌, ℕ, ◌+◌, ◌-◌, ◌<◌, ◌≤◌, length}
use Rattle.extent_map.specs.Words.{bit, one_count}
use Rattle.extent_map.proofs.words.clear_run.Given as goal

abbrev pub invariant-loop-b : goal.invariant-loop-b
invariant-loop-b l = record {
  length : length l.words ≡ length l.initial.words;
  done : (c : ℕ) → l.start ≤ c → c < l.b → bit l.words c ≡ 0;
  below : (c : ℕ) → c < l.start → bit l.words c ≡ bit l.initial.words c;
  above : (c : ℕ) → l.b ≤ c → bit l.words c ≡ bit l.initial.words c;
  count : (n : ℕ) → l.start + l.count ≤ n → one_count l.words n + (l.b - l.start) ≡ one_count l.initial.words n;
}
