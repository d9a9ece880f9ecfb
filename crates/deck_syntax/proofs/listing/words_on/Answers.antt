use Rattle.std.proofs.Common.{arith}
use Rattle.deck_syntax.proofs.CardWords.{fits, parted}
use Rattle.deck_syntax.proofs.listing.words_on.Goals as goal

pub slice_bounds-result-count : goal.slice_bounds-result-count
slice_bounds-result-count c = fits c.in_ok-words.words.now c.from_blank-behind.result.now c.from_blank-behind.ensures

pub returns : goal.returns
returns c = parted c.args.text.now c.in_ok-words.words.now c.from_blank-behind.result.now c.in_ok-words.ensures c.from_blank-behind.ensures (omega (arith, c.in-len1-up.len_at_least))
