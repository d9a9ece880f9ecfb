use Rattle.deck_syntax.proofs.{Complete.{deck_taken}, Sound.{deck_spelled}}
use Rattle.deck_syntax.proofs.laws.reading_spells.Goals as goal

pub returns : goal.returns
returns c = λ ls deck. (λ is. (deck_taken ls deck is, is.ends), λ same. deck_spelled ls deck same.0 same.1)
