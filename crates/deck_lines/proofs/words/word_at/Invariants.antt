use Rattle.std.proofs.Common.{◌≡◌, ◌<◌, length}
use Rattle.std.specs.Prelude.{slice_get}
use Rattle.mon_text.specs.Lines.{words}
use Rattle.deck_lines.proofs.words.word_at.Given as goal

abbrev pub invariant-loop-left : goal.invariant-loop-left
invariant-loop-left l = record {
  within : l.left < length (words l.rest);
  same : slice_get (words l.rest) l.left ≡ slice_get (words l.text) l.place;
}

abbrev pub decreases-loop-left : goal.decreases-loop-left
decreases-loop-left l = l.left
