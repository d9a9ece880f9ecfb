use Rattle.std.proofs.Common.{◌≡◌, take}
use Rattle.std.specs.{List.{list_all}, Prelude.{nat_lt}}
use Rattle.parts.proofs.checking.are_below.Given as goal

abbrev pub invariant-loop-part : goal.invariant-loop-part
invariant-loop-part l = l.good ≡ list_all (λ part. nat_lt part l.most) (take l.part-index l.parts)
