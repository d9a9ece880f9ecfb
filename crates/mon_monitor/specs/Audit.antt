-- THE AUDIT (own): a line for each entry of the history, in its order, and behind that of a CATALOG one for each data set that it shows. What
-- a line has of a request, and of a command, the crate audit says.
use Rattle.std.specs.Prelude.{ℕ, List, ◌++◌, codes}
use Rattle.std.specs.List.{flat_map}
use Rattle.deck_syntax.specs.declared.job_deck.JobDeck.{JobDeck}
use Rattle.scheduler.specs.Marks.{Marks}
use Rattle.mon_command.specs.Printouts.{number}
use Rattle.audit.specs.Words.{job_line}
use Rattle.audit.specs.Requests.{exchange_line}
use Rattle.audit.specs.Ordered.{ordered_lines}
use Rattle.job_end.specs.Printouts.{ending_words, refusal_words}
use Rattle.mon_monitor.specs.SystemStates.{SystemState}
use Rattle.mon_monitor.specs.Events.{Event}
use Rattle.mon_monitor.specs.Played.{loading}
use Rattle.mon_monitor.specs.History.{Entry, Entered, Refused, Asked, Ended, Ordered, load_entry, event_entries, history}

abbrev pub audit_line : Entry → List ℕ
audit_line (Entered deck) = job_line deck.number deck.account (codes " LOADED")
audit_line (Refused deck refusal) = job_line deck.number deck.account (codes " REFUSED " ++ refusal_words refusal)
audit_line (Asked e) = exchange_line e.number e.account e.reach e.request e.answer
audit_line (Ended end) = job_line end.number end.account (codes " ENDED" ++ ending_words end.ending ++ codes " AFTER" ++ number end.statements)
audit_line (Ordered known sets command answer) = ordered_lines known sets command answer

-- what the audit says of these entries
abbrev pub audit : List Entry → List ℕ
audit entries = flat_map audit_line entries

-- of an event
abbrev pub event_lines : Event → Marks → SystemState → List ℕ
event_lines event m w = audit (event_entries event m w)

-- of a job that is loaded, or refused
abbrev pub loading_lines : JobDeck → Marks → SystemState → List ℕ
loading_lines deck m w = audit (load_entry deck (loading deck w).0)

-- of events in order
abbrev pub audit_of : List Event → Marks → SystemState → List ℕ
audit_of events m w = audit (history events m w)
