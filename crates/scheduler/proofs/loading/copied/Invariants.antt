use Rattle.std.proofs.Common.{◌≡◌, take}
use Rattle.scheduler.proofs.loading.copied.Given as goal

abbrev pub invariant-loop-line : goal.invariant-loop-line
invariant-loop-line l = l.copied ≡ take l.line-index l.lines
