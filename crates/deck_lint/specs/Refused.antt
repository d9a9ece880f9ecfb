-- Why a job is not loaded (own): each reason, and not only the first, in the order in which a load looks for them.
use Rattle.std.specs.Prelude.{ℕ, Bool, true, false, List, [], ◌∷◌, ◌++◌, replicate, slice_set, Option, Some, None, option_map}
use Rattle.sno_cards.specs.Statements.{statements_of}
use Rattle.mon_access.specs.declared.account.Account.{Account}
use Rattle.mon_access.specs.Accounts.{find_account}
use Rattle.deck_lines.specs.declared.unit_error.UnitError.{UnitError}
use Rattle.deck_syntax.specs.declared.job_deck.UnitCard.{UnitCard}
use Rattle.deck_syntax.specs.declared.job_deck.JobDeck.{JobDeck}
use Rattle.load_refusal.specs.declared.load_error.LoadError.{LoadError}
use Rattle.load_refusal.specs.declared.load_error.LoadError.TheVariants.{NoAccount, Cards}
use Rattle.load_refusal.specs.Loads.{missing}
use Rattle.deck_lines.specs.Ties.{refused_by}
use Rattle.program_listing.specs.Refused.{listed, program_refused}

-- the first, if there is one
abbrev pub first_of : List LoadError → Option LoadError
first_of [] = None
first_of (reason ∷ reasons) = Some reason

-- THE UNIT CARDS

abbrev pub tie_listed : Option UnitError → List LoadError
tie_listed refusal = listed (option_map Cards refusal)

-- which units are tied after a card that is refused or not
abbrev pub tied_after : Option UnitError → ℕ → List Bool → List Bool
tied_after (Some refusal) unit tied = tied
tied_after None unit tied = slice_set tied unit true

-- each card that ties a unit that there is not, or one that a card before it tied
abbrev pub ties_refused : List UnitCard → List Bool → List LoadError
ties_refused [] tied = []
ties_refused (card ∷ cards) tied =
    tie_listed (refused_by card.unit tied) ++ ties_refused cards (tied_after (refused_by card.unit tied) card.unit tied)

-- THE JOB

abbrev pub account_refused : Option Account → List LoadError
account_refused account = listed (missing NoAccount account)

-- its account, its unit cards, its program
abbrev pub deck_refused : List Account → JobDeck → List LoadError
deck_refused accounts deck =
    account_refused (find_account accounts deck.account) ++ ties_refused deck.ties (replicate 100 false)
    ++ program_refused (statements_of deck.lines)
