-- Why a job is not loaded (own), told by its cards.
use Rattle.std.specs.Prelude.{Bool, true, false, List, [], ◌∷◌, Option, Some, None, option_map, Result, Ok, Err, replicate, slice_set}
use Rattle.std.specs.Option.{option_or}
use Rattle.sno_cards.specs.declared.refusal.SyntaxError.{SyntaxError}
use Rattle.sno_cards.specs.Programs.{ProgramText}
use Rattle.sno_cards.specs.Statements.{statements_of}
use Rattle.sno_syntax.specs.Refusals.{syntax_refusal}
use Rattle.mon_access.specs.declared.account.Account.{Account}
use Rattle.mon_access.specs.Accounts.{find_account}
use Rattle.deck_lines.specs.declared.unit_error.UnitError.{UnitError}
use Rattle.deck_lines.specs.Ties.{refused_by}
use Rattle.deck_syntax.specs.declared.job_deck.UnitCard.{UnitCard}
use Rattle.deck_syntax.specs.declared.job_deck.JobDeck.{JobDeck}
use Rattle.load_refusal.specs.declared.load_error.LoadError.{LoadError}
use Rattle.load_refusal.specs.declared.load_error.LoadError.TheVariants.{NoAccount, Cards, Syntax}

-- THE UNIT CARDS

-- told by which units are tied already
abbrev pub cards_refused : List UnitCard → List Bool → Option UnitError
cards_refused [] tied = None
cards_refused (card ∷ cards) tied = option_or (refused_by card.unit tied) (cards_refused cards (slice_set tied card.unit true))

-- THE PROGRAM

abbrev pub program_refusal : Result ProgramText SyntaxError → Option LoadError
program_refusal it = elim it [ Ok cards ↦ option_map Syntax (syntax_refusal cards) | Err refusal ↦ Some (Syntax refusal) ]

-- THE JOB

-- refused where it is missing
abbrev pub missing : {A : Type 0} → LoadError → Option A → Option LoadError
missing refusal found = elim found [ Some it ↦ None | None ↦ Some refusal ]

-- why a job is not loaded where a slot is free: its account, its unit cards, its program
abbrev pub job_refusal : List Account → JobDeck → Option LoadError
job_refusal accounts deck =
    option_or (missing NoAccount (find_account accounts deck.account))
    (option_or (option_map Cards (cards_refused deck.ties (replicate 100 false))) (program_refusal (statements_of deck.lines)))
