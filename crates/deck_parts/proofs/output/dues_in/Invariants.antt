-- The submissions so far are found: whatever follows is found behind them.
use Rattle.std.proofs.Common.{◌≡◌, ◌++◌, drop}
use Rattle.deck_parts.specs.Numbers.{dues_of}
use Rattle.deck_parts.proofs.output.dues_in.Given as goal

abbrev pub invariant-loop-place : goal.invariant-loop-place
invariant-loop-place l = l.found.dues.items ++ dues_of l.part l.place l.found.before l.found.ahead (drop l.place l.texts) ≡ dues_of l.part 0 0 0 l.texts
