-- What was told so far, and the rest of the piece, tell what all of the piece tells.
use Rattle.std.proofs.Common.{◌≡◌, ◌≤◌, ◌+◌, length}
use Rattle.deck_driver.specs.{Feeds.{Begins, EndsLine, IsReadBack}, inner.Pieces.{TookUpTo, LeavesNothing}}
use Rattle.deck_driver.proofs.feed.DeckFeed.feed.Given as goal

abbrev pub invariant-lines : goal.invariant-lines
invariant-lines g l = record {
  told : TookUpTo l.fn.out l.fn.self l.fn.piece l.out l.self l.rest (g.S.Sink.standing l.fn.audit) (g.S.Sink.standing l.audit);
  appends : Begins l.fn.out l.out;
  fed : l.self.fed + length l.rest ≡ l.fn.self.fed + length l.fn.piece;
  within : length l.rest ≤ length l.fn.piece;
  reads_back : IsReadBack l.fn.self.options.check l.fn.self.state → IsReadBack l.self.options.check l.self.state;
  options : l.self.options ≡ l.fn.self.options;
  ended : EndsLine l.fn.piece → LeavesNothing l.rest l.self;
}

abbrev pub decreases-lines : goal.decreases-lines
decreases-lines g l = length l.rest
