use Rattle.std.proofs.Common.{◌≡◌, ◌++◌, take}
use Rattle.std.specs.List.{flat_map}
use Rattle.parts.specs.{Splits.{goes}, inner.Picks.{printout_of}}
use Rattle.parts.proofs.joining.put_printouts.Given as goal

abbrev pub invariant-loop-number : goal.invariant-loop-number
invariant-loop-number l = l.out.items ≡ l.fn.out.items ++ flat_map (printout_of (goes l.split) l.parts) (take l.number-index l.numbers)
