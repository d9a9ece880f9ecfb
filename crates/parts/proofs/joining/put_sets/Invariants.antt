use Rattle.std.proofs.Common.{◌≡◌, ◌++◌, take}
use Rattle.std.specs.List.{flat_map}
use Rattle.parts.specs.{Splits.{goes}, inner.Picks.{set_of}}
use Rattle.parts.proofs.joining.put_sets.Given as goal

abbrev pub invariant-loop-name : goal.invariant-loop-name
invariant-loop-name l = l.out.items ≡ l.fn.out.items ++ flat_map (set_of (goes l.split) l.parts) (take l.name-index l.names)
