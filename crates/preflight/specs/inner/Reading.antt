-- A text line by line: what each asks for, and the first that is refused. For the code and for proofs.
use Rattle.std.specs.Prelude.{ℕ, ◌+◌, List, [], ◌∷◌, Option, Some, None, option_map, if◌then◌else◌, bytes_eq}
use Rattle.std.specs.Option.{option_or, option_map_or}
use Rattle.deck_lines.specs.Commands.{account_of}
use Rattle.deck_syntax.specs.declared.stream_reader.Event.{Event}
use Rattle.deck_syntax.specs.declared.stream_reader.Event.TheVariants as event
use Rattle.deck_syntax.specs.Events.{refusal_in, event_in, open_after}
use Rattle.deck_syntax.specs.Decks.{Asked, Commands, Enters, Gives, Drains}
use Rattle.deck_syntax.specs.Sections.{Open, Closed, InList, InJob}
use Rattle.preflight.specs.declared.why.Why.{Why}
use Rattle.preflight.specs.declared.why.Why.TheVariants.{Line, Foreign, Stops, Unfinished}
use Rattle.preflight.specs.Examined.{Verdict, Admits, Refuses}

-- what a line asks for, by what it brings
abbrev pub asks_of : Event → List Asked
asks_of (event.Asks command) = Commands command ∷ []
asks_of (event.Enters job) = Enters job ∷ []
asks_of (event.Turns turn) = Gives turn ∷ []
asks_of event.Drains = Drains ∷ []
asks_of _ = []

-- a card of another account is refused, and the deck's end
abbrev pub foreign : List ℕ → List ℕ → Option Why
foreign own account = if bytes_eq account own then None else Some Foreign

abbrev pub refused_to : List ℕ → Event → Option Why
refused_to own (event.Opens account) = foreign own account
refused_to own (event.Asks command) = foreign own (account_of command)
refused_to own (event.Enters job) = foreign own job.account
refused_to own event.Stops = Some Stops
refused_to own _ = None

-- why a line is refused where this is open
abbrev pub why_in : List ℕ → Open → List ℕ → Option Why
why_in own pending line = option_or (option_map Line (refusal_in pending line)) (refused_to own (event_in pending line))

-- this is asked before
abbrev pub and_then : Asked → Verdict → Verdict
and_then one (Admits asked) = Admits (one ∷ asked)
and_then one (Refuses n why) = Refuses n why

abbrev pub all_then : List Asked → Verdict → Verdict
all_then [] v = v
all_then (one ∷ asked) v = and_then one (all_then asked v)

-- behind the last line nothing may be open
abbrev pub at_end : ℕ → Open → Verdict
at_end n Closed = Admits []
at_end n (InList list) = Refuses n Unfinished
at_end n (InJob job) = Refuses n Unfinished

-- the lines from number n on, where this is open
abbrev pub examined : List ℕ → ℕ → Open → List (List ℕ) → Verdict
examined own n pending [] = at_end n pending
examined own n pending (line ∷ lines) =
    option_map_or (Refuses n) (why_in own pending line)
    (all_then (asks_of (event_in pending line)) (examined own (n + 1) (open_after pending line) lines))
