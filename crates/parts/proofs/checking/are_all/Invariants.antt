use Rattle.std.proofs.Common.{◌≡◌, take}
use Rattle.std.specs.{List.{list_all}, Prelude.{◌==◌}}
use Rattle.parts.proofs.checking.are_all.Given as goal

abbrev pub invariant-loop-own : goal.invariant-loop-own
invariant-loop-own l = l.good ≡ list_all (λ own. own == l.part) (take l.own-index l.parts)
