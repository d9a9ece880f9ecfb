use Rattle.std.proofs.Common.{◌≡◌, drop}
use Rattle.sno_syntax.{specs.Places.{end_of}, specs.inner.Ends.{place_after}, proofs.Shorthand.{end_from}}
use Rattle.sno_syntax.proofs.place.end_of.Given as goal

-- what is left of the text leads to its end
abbrev pub invariant-loop-index : goal.invariant-loop-index
invariant-loop-index l = end_from (place_after l.text l.last) (drop l.index l.text) ≡ end_of l.text
