-- A deck is cut (own): what stands before its stream is read, the deck is taken apart, and by the split that there is the round of its texts
-- runs in parts.
use Rattle.std.specs.Prelude.{ℕ, List, length, IfSome}
use Rattle.std.specs.Str.Lines.{lines}
use Rattle.access_report.specs.Fronts.{ReachesStream}
use Rattle.deck_parts.specs.Wholes.{IsTakenApart}
use Rattle.round_cut.specs.Cuts.{IsLawful}
use Rattle.snomon_parts.specs.declared.cutting.Cut.{Cut}

pub record IsCut (deck : List ℕ) (cut : Cut) : Type 0 where
  pub front : ReachesStream (lines deck) cut.front.accounts cut.front.catalogue
  pub apart : IsTakenApart deck cut.whole
  pub lawful : IfSome cut.split (λ split. IsLawful split cut.whole.texts.items (length cut.whole.sets.items))
