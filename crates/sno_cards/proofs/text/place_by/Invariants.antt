use Rattle.std.proofs.Common.{◌≡◌, length}
use Rattle.sno_cards.specs.inner.Segments.{AreAscending, nowhere, place_by}
use Rattle.sno_cards.proofs.text.place_by.Given as goal

-- what is left of the segments gives the place
abbrev pub invariant-loop-rest : goal.invariant-loop-rest
invariant-loop-rest l = record {
  ascending : AreAscending l.rest;
  same : place_by nowhere l.rest l.offset ≡ place_by nowhere l.segments l.offset;
}

abbrev pub decreases-loop-rest : goal.decreases-loop-rest
decreases-loop-rest l = length l.rest
