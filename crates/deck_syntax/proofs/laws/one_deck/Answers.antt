use Rattle.std.proofs.Common.{sym, ◌∙◌}
use Rattle.deck_syntax.proofs.Complete.{deck_taken}
use Rattle.deck_syntax.proofs.laws.one_deck.Goals as goal

pub returns : goal.returns
returns c = λ ls deck other one another. sym (deck_taken ls deck one) ∙ deck_taken ls other another
