use Rattle.std.proofs.Common.{◌≡◌, take}
use Rattle.std.specs.List.{list_all}
use Rattle.parts.specs.inner.Tests.{goes_along}
use Rattle.parts.proofs.checking.all_go_along.Given as goal

abbrev pub invariant-loop-text : goal.invariant-loop-text
invariant-loop-text l = l.good ≡ list_all (goes_along l.split) (take l.text-index l.texts)
