-- The codes so far stand for themselves; then the pairs so far are in the table.
use Rattle.std.proofs.Common.{◌≡◌, ℕ, ◌<◌, length, get_or, take}
use Rattle.sno_value.specs.Primitives.{replacement}
use Rattle.sno_value.proofs.texts.replacements.Given as goal

abbrev pub invariant-loop-code : goal.invariant-loop-code
invariant-loop-code l = record {
  whole : length l.table ≡ 256;
  same : (c : ℕ) → c < l.code → get_or l.table c 0 ≡ c;
}

abbrev pub invariant-loop-at : goal.invariant-loop-at
invariant-loop-at l = record {
  whole : length l.table ≡ 256;
  replaced : (c : ℕ) → c < 256 → get_or l.table c 0 ≡ replacement (take l.at l.from) (take l.at l.to) c;
}
