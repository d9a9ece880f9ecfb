use Rattle.deck_syntax.proofs.CardWords.{asks_so}
use Rattle.deck_syntax.proofs.listing.listing_on.Goals as goal

pub returns-clause-value : goal.returns-clause-value
returns-clause-value c =
    asks_so c.args.text.now c.in_ok-account.account.now c.in_ok-account.name.now c.in_ok-account-2.account c.in_ok-name.name c.in_ok-account.ensures
    c.in_ok-account-2.ensures.value c.in_ok-account-2.ensures.named c.in_ok-name.ensures.value c.in_ok-name.ensures.named
