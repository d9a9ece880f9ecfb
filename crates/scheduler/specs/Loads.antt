-- What loading a job does (own).
use Rattle.std.specs.Prelude.{◌≡◌, ℕ, List, [], ◌∷◌, drop, Option, Some, None, option_map, Result, Ok, Err, option_and_then}
use Rattle.std.specs.Option.{option_or, option_map_or}
use Rattle.std.specs.List.{fold}
use Rattle.std.specs.Result.{result_ok}
use Rattle.sno_cards.specs.declared.refusal.SyntaxError.{SyntaxError}
use Rattle.sno_cards.specs.Programs.{ProgramText}
use Rattle.sno_cards.specs.Statements.{statements_of}
use Rattle.sno_syntax.specs.Programs.{Program}
use Rattle.sno_syntax.specs.Reading.{program_on}
use Rattle.sno_run.specs.Jobs.{first_job}
use Rattle.mon_access.specs.declared.account.Account.{Account}
use Rattle.mon_access.specs.Accounts.{find_account}
use Rattle.mon_unit.specs.declared.tie.Target.TheVariants.{Set}
use Rattle.deck_lines.specs.declared.unit_error.UnitError.{UnitError}
use Rattle.mon_unit.specs.State.{UnitState}
use Rattle.mon_unit.specs.Tying.{new_units, tie_refusal, tied_to, with_tie}
use Rattle.deck_syntax.specs.declared.job_deck.UnitCard.{UnitCard}
use Rattle.deck_syntax.specs.declared.job_deck.JobDeck.{JobDeck}
use Rattle.load_refusal.specs.declared.load_error.LoadError.{LoadError}
use Rattle.load_refusal.specs.declared.load_error.LoadError.TheVariants.{NoSlot, NoAccount, Cards}
use Rattle.load_refusal.specs.Loads.{missing, program_refusal, job_refusal}
use Rattle.scheduler.specs.States.{SlotState, with_seat, first_free}

-- THE UNITS

-- a job's data are the lines behind its program; there are none where its cards are refused
abbrev pub first_units : List (List ℕ) → UnitState
first_units lines = new_units (option_map_or (λ good. drop good.data_from lines) (result_ok (statements_of lines)) [])

abbrev pub tied_by : UnitCard → UnitState → UnitState
tied_by card units = with_tie card.unit (tied_to (Set card.set)) units

-- card by card
abbrev pub with_ties : List UnitCard → UnitState → UnitState
with_ties cards units = fold (λ tied card. tied_by card tied) units cards

-- THE PROGRAM

-- the program that cards spell, where they spell one
abbrev pub program_in : Result ProgramText SyntaxError → Option Program
program_in cards = option_and_then program_on (result_ok cards)

-- THE JOB

-- why a job is not loaded: for want of a slot, or as its cards tell
abbrev pub load_refusal : List Account → JobDeck → List (Option SlotState) → Option LoadError
load_refusal accounts deck slots = option_or (missing NoSlot (first_free slots)) (job_refusal accounts deck)

-- what a slot holds when the job has been loaded
abbrev pub loaded_slot : Account → JobDeck → Program → SlotState
loaded_slot account deck p =
    record { number = deck.number; account = account; job = first_job p deck.limits; units = with_ties deck.ties (first_units deck.lines) }

-- the job of a deck that is not refused
abbrev pub slot_in : List Account → JobDeck → Option SlotState
slot_in accounts deck = option_and_then (λ account. option_map (loaded_slot account deck) (program_in (statements_of deck.lines))) (find_account accounts deck.account)

abbrev pub loaded_by : Option LoadError → Option ℕ → Option SlotState → List (Option SlotState) → Result ℕ LoadError × List (Option SlotState)
loaded_by (Some refusal) n slot slots = (Err refusal, slots)
loaded_by None (Some n) slot slots = (Ok n, with_seat n slot slots)
loaded_by None None slot slots = (Err NoSlot, slots)

-- a job is loaded into the lowest free slot, which has this number; or it is refused, and nothing has changed
abbrev pub job_loaded : List Account → JobDeck → List (Option SlotState) → Result ℕ LoadError × List (Option SlotState)
job_loaded accounts deck slots = loaded_by (load_refusal accounts deck slots) (first_free slots) (slot_in accounts deck) slots

-- THE LAW

-- why unit cards are refused, by the units as the cards before tie them
abbrev pub ties_refusal : List UnitCard → UnitState → Option UnitError
ties_refusal [] units = None
ties_refusal (card ∷ cards) units = option_or (tie_refusal card.unit units) (ties_refusal cards (tied_by card units))

-- why a job is not loaded where a slot is free, by its units: its account, its unit cards, its program
abbrev pub deck_refusal : List Account → JobDeck → Option LoadError
deck_refusal accounts deck =
    option_or (missing NoAccount (find_account accounts deck.account))
    (option_or (option_map Cards (ties_refusal deck.ties (first_units deck.lines))) (program_refusal (statements_of deck.lines)))

-- it is what the cards alone tell
abbrev pub ToldByCards : Type 0
ToldByCards = (accounts : List Account) (deck : JobDeck) → deck_refusal accounts deck ≡ job_refusal accounts deck
