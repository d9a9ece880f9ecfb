use Rattle.std.proofs.Common.{◌≡◌, ◌+◌, ◌++◌, ◌≤◌, drop}
use Rattle.std.specs.List.{slice_range}
use Rattle.sno_cards.specs.{Statements.{placed_on}, inner.Cuts.{cut_of, fed}}
use Rattle.sno_cards.proofs.cutting.Cutting.feed.Given as goal

-- what is cut so far, with the characters since then, fed with those that are left, is the whole text fed
abbrev pub invariant-loop-index : goal.invariant-loop-index
invariant-loop-index l = record {
  whole : fed (cut_of l.initial.self) (placed_on l.card l.column l.text)
      ≡ fed (record (cut_of l.self) { piece = l.self.piece ++ placed_on l.card (l.column + l.from) (slice_range l.text l.from l.index) })
      (placed_on l.card (l.column + l.index) (drop l.index l.text));
  within : l.from ≤ l.index;
}
