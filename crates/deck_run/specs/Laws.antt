-- What a `$LIST` card shows, in words of its own; how the printouts of a deck follow one another; and decks that are cut,
-- refused, or made of what was written. The marks say where memory breaks turns off.
use Rattle.std.specs.Prelude.{◌≡◌, ℕ, suc, false, List, [], ◌∷◌, ◌++◌, Some, None, codes}
use Rattle.std.specs.List.{flat_map, AllByRecursion}
use Rattle.std.specs.Str.Lines.{lines}
use Rattle.mon_access.specs.declared.account.Account.{Account}
use Rattle.mon_access.specs.declared.access.Decider.{Decider}
use Rattle.mon_access.specs.declared.access.Decision.TheVariants.{Granted, Denied}
use Rattle.mon_access.specs.Accounts.{find_account, HaveDifferentNames}
use Rattle.mon_catalogue.specs.declared.data_set.DataSet.{DataSet}
use Rattle.mon_catalogue.specs.Sets.{Sets, find_set}
use Rattle.mon_catalogue.specs.Stored.{IsStored}
use Rattle.mon_catalogue.specs.Text.{text_of}
use Rattle.mon_guard.specs.Deciding.{decision_on, to_read}
use Rattle.mon_guard.specs.Reasons.{reason_of}
use Rattle.deck_lines.specs.declared.command.Command.{Command}
use Rattle.deck_lines.specs.declared.command.Command.TheVariants as command
use Rattle.mon_command.specs.Commanded.{commanded}
use Rattle.mon_command.specs.Commands.{heading}
use Rattle.mon_command.specs.Replies.{reason_text}
use Rattle.mon_command.specs.Printouts.{records_text}
use Rattle.mon_device.specs.Putting.{Standing}
use Rattle.scheduler.specs.Marks.{Marks}
use Rattle.mon_monitor.specs.SystemStates.{SystemState}
use Rattle.mon_monitor.specs.Printouts.{printouts_text}
use Rattle.mon_monitor.specs.Played.{Played, played}
use Rattle.mon_monitor.specs.Laws.{NotByMemory}
use Rattle.deck_lines.specs.declared.deck_error.DeckError.{DeckError}
use Rattle.deck_syntax.specs.Decks.{Deck, Asked, Ending, Stopped, Refused}
use Rattle.deck_syntax.specs.Laws.{BeginsGood, deck_over}
use Rattle.deck_syntax.specs.Sections.{deck_of}
use Rattle.deck_syntax.specs.Spelling.{SpellsAccounts, IsDeck}
use Rattle.deck_driver.specs.declared.options.Options.{Options}
use Rattle.deck_driver.specs.declared.feed.DeckFeed.{DeckFeed}
use Rattle.deck_driver.specs.RunStates.{over, opening, events_of, played_run_state, all_counted}
use Rattle.deck_driver.specs.Feeds.{Outcome, outcome_of}
use Rattle.deck_driver.specs.Abstraction.{told, outcome_from, Took}
use Rattle.deck_driver.specs.Printouts.{output_of_run_state, output_of, ReadsBack}
use Rattle.deck_run.specs.Runs.{deck_ending, run_state_of, catalogue_after}

-- the printout of a command over these data sets
abbrev pub printout : List Account → Sets → Command → List ℕ
printout accounts sets command = let answer = commanded accounts sets command in answer.printout

-- a `$LIST` card's account is known and is this one, and the data set that it names is there and is this one
pub record Meets (accounts : List Account) (sets : Sets) (asking name : List ℕ) (account : Account) (set : DataSet) : Type 0 where
  pub known : find_account accounts asking ≡ Some account
  pub there : find_set name sets ≡ Some set

-- the account may list the data set's records
abbrev pub MayRead : Account → DataSet → Type 0
MayRead account set = decision_on account set to_read ≡ Granted

-- the card shows these records
abbrev pub Shows : List Account → Sets → List ℕ → List ℕ → List (List ℕ) → Type 0
Shows accounts sets asking name records =
    printout accounts sets (command.List asking name) ≡ heading (command.List asking name) ++ records_text records

-- Where its account is known, its data set is there, and the access check grants r, a card shows the data set's records;
-- where one of these is wanting it shows none.
abbrev pub ShowsWhereGranted : Type 0
ShowsWhereGranted = (accounts : List Account) (sets : Sets) (asking name : List ℕ)
    → ((account : Account) (set : DataSet) → Meets accounts sets asking name account set → MayRead account set → Shows accounts sets asking name set.records)
    × ((records : List (List ℕ)) → Shows accounts sets asking name records
    → (account : Account) × (set : DataSet) × Meets accounts sets asking name account set × MayRead account set)

-- what stands below the card's own line
abbrev pub Says : List Account → Sets → List ℕ → List ℕ → List ℕ → Type 0
Says accounts sets asking name text =
    printout accounts sets (command.List asking name) ≡ heading (command.List asking name) ++ (text ++ codes "\n")

-- Where it shows none, it says why: the entry that decided, or what is missing.
pub record SaysWhy (accounts : List Account) (sets : Sets) (asking name : List ℕ) : Type 0 where
  pub denied : (account : Account) (set : DataSet) (decider : Decider) → Meets accounts sets asking name account set
      → decision_on account set to_read ≡ Denied decider
      → Says accounts sets asking name (codes "DENIED " ++ reason_text (reason_of set.acl decider))
  pub no_set : (account : Account) → find_account accounts asking ≡ Some account → find_set name sets ≡ None
      → Says accounts sets asking name (codes "DENIED NO DATA SET")
  pub no_account : find_account accounts asking ≡ None → Says accounts sets asking name (codes "REFUSED M2 NO ACCOUNT")

abbrev pub DenialsSayWhy : Type 0
DenialsSayWhy = (accounts : List Account) (sets : Sets) (asking name : List ℕ) → SaysWhy accounts sets asking name

-- a part of a text
abbrev pub StandsIn : List ℕ → List ℕ → Type 0
StandsIn part text = (front back : List ℕ) × (text ≡ front ++ (part ++ back))

-- What these cards do, behind so many jobs: each over the system and with the marks that those before it left.
abbrev pub done : ℕ → List Asked → Marks → SystemState → Played
done jobs asked m w = played (events_of (suc jobs) asked) m w

-- how many jobs enter
abbrev pub jobs_in : List Asked → ℕ
jobs_in asked = let counts = all_counted asked in counts.jobs

-- what a deck prints whose cards are these, behind so many jobs and over this system, up to its catalogue
abbrev pub rest_of_output : ℕ → Marks → SystemState → List Asked → Ending → List ℕ
rest_of_output jobs m w asked ending = output_of_run_state jobs m (over w (record { asked = asked; ending = ending }))

-- The cards of a deck that is run, in order: those before one of them, that one, and the rest. The output is what they print,
-- one after the other, with nothing between them: what this one prints, it prints over the system that those before it left.
abbrev pub InOrder : Type 0
InOrder = (options : Options) (m : Marks) (bytes : List ℕ) (before after : List Asked) (one : Asked) → options.check ≡ false →
    let run_state = run_state_of options bytes in
    let earlier = done 0 before m run_state.system in
    let here = done (jobs_in before) (one ∷ []) earlier.marks earlier.after in
    run_state.cards.asked ≡ before ++ one ∷ after
    → output_of options m bytes ≡ printouts_text earlier.printouts
    ++ (printouts_text here.printouts ++ rest_of_output (jobs_in (before ++ one ∷ [])) here.marks here.after after run_state.cards.ending)

-- Whatever cards stand before and behind it, the output has what a card prints.
abbrev pub InItsPlace : Type 0
InItsPlace = (options : Options) (m : Marks) (bytes : List ℕ) (before after : List Asked) (one : Asked) → options.check ≡ false →
    let run_state = run_state_of options bytes in
    let earlier = done 0 before m run_state.system in
    let here = done (jobs_in before) (one ∷ []) earlier.marks earlier.after in
    run_state.cards.asked ≡ before ++ one ∷ after → StandsIn (printouts_text here.printouts) (output_of options m bytes)

-- Where no job ends for want of memory, the output is the one that there is where memory never is short.
abbrev pub Unmarked : Type 0
Unmarked = (options : Options) (m : Marks) (bytes : List ℕ)
    → AllByRecursion NotByMemory (played_run_state 0 m (run_state_of options bytes)).printouts → output_of options m bytes ≡ output_of options [] bytes

-- a line of a text, not its first, begins with these words
abbrev pub HasLineWith : List ℕ → List ℕ → Type 0
HasLineWith words text = (before : List ℕ) × (after : List ℕ) × (text ≡ before ++ (codes "\n" ++ (words ++ after)))

-- Who reads an output can tell whether memory ended a job: where no line of it begins so, it is the one that there is where memory
-- never is short.
abbrev pub ShowsItsMarks : Type 0
ShowsItsMarks = (options : Options) (m : Marks) (bytes : List ℕ)
    → ¬ HasLineWith (codes "END MEMORY") (output_of options m bytes) → output_of options m bytes ≡ output_of options [] bytes

-- What a refused deck prints is what a good deck prints that begins with all lines before the refused one. Behind it that one
-- prints what a deck does that ends there: before its end stands the permission list or the job that stood open, if one did; and
-- then all jobs that are left end, and the catalogue is written.
abbrev pub RefusedPrintsAsGood : Type 0
RefusedPrintsAsGood = (options : Options) (m : Marks) (bytes : List ℕ) (n : ℕ) (code : DeckError) → options.check ≡ false → deck_ending bytes ≡ Refused n code
    → (deck : Deck) × (last : List Asked) × BeginsGood n (lines bytes) deck last
    × (let asked = (deck_of (lines bytes)).cards.asked in
    let good = opening options.slots.number deck in
    let before = done 0 asked m good.system in
    output_of_run_state 0 m good ≡ output_of options m bytes ++ rest_of_output (jobs_in asked) before.marks before.after last Stopped)

-- pieces one after the other
abbrev pub joined : List (List ℕ) → List ℕ
joined pieces = flat_map (λ piece. piece) pieces

-- a feed took these pieces, one after the other
abbrev pub TookAll : List ℕ → DeckFeed → List (List ℕ) → List ℕ → DeckFeed → Standing → Standing → Type 0
TookAll before f [] after g a b = Took before f [] after g a b
TookAll before f (piece ∷ pieces) after g a b = (mid : List ℕ) × (h : DeckFeed) × (c : Standing) × Took before f piece mid h a c × TookAll mid h pieces after g c b

-- pieces one after the other are taken as all of them at once
abbrev pub PiecesAreJoined : Type 0
PiecesAreJoined = (before after : List ℕ) (f g : DeckFeed) (pieces : List (List ℕ)) (a b : Standing) → TookAll before f pieces after g a b → Took before f (joined pieces) after g a b

-- what comes of these bytes
abbrev pub comes_of : Options → Marks → List ℕ → Outcome
comes_of options m bytes = outcome_of options.check 0 m (run_state_of options bytes)

-- However the bytes of a deck are cut, the whole is the same: from its start on, what was put out and what is to come are the
-- output of the deck, and how it comes out, of all the bytes, with some marks for the turns so far.
abbrev pub HoweverCut : Type 0
HoweverCut = (start f : DeckFeed) (pieces : List (List ℕ)) (out : List ℕ) (a b : Standing)
    → ((m : Marks) (bytes : List ℕ) → outcome_from m start bytes ≡ comes_of start.options m bytes) → TookAll [] start pieces out f a b
    → (marks : Marks) × ((rest : Marks) (bytes : List ℕ) → told rest out f bytes ≡ comes_of start.options (marks ++ rest) (joined pieces ++ bytes))

-- Data sets that are read back have names that are names, permission lists that are lists, and records that are records.
abbrev pub ReadBackIsStored : Type 0
ReadBackIsStored = (sets : Sets) → ReadsBack sets → IsStored sets

-- a deck of an account table, of a catalogue as a run has written it, and of no card
abbrev pub deck_around : List (List ℕ) → List ℕ → List ℕ
deck_around table written = text_of (codes "$ACCOUNTS" ∷ table) ++ (written ++ codes "$STREAM\n$STOP\n")

-- The catalogue that a run writes behind its printouts is, put behind any good account table, a good deck of the same data
-- sets. That they can be read back is what `run_deck` promises.
abbrev pub CataloguesRunAgain : Type 0
CataloguesRunAgain = (options : Options) (m : Marks) (bytes : List ℕ) (table : List (List ℕ)) (accounts : List Account)
    → options.check ≡ false → deck_ending bytes ≡ Stopped → ReadsBack (catalogue_after options m bytes) → SpellsAccounts table accounts → HaveDifferentNames accounts
    → (let all = played_run_state 0 m (run_state_of options bytes) in
    (written : List ℕ) × (output_of options m bytes ≡ printouts_text all.printouts ++ written)
    × IsDeck (lines (deck_around table written)) (deck_over accounts all.after.scheduler.sets))
