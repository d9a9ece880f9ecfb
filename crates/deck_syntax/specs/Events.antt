-- What a line of the stream brings, by what is open before it (own), and what is still to come of the stream then.
use Rattle.std.specs.Prelude.{ℕ, List, Option, if◌then◌else◌}
use Rattle.std.specs.Option.{option_or}
use Rattle.deck_lines.specs.declared.deck_error.DeckError.{DeckError}
use Rattle.deck_lines.specs.Refusing.{line_refusal, is_dollar_line}
use Rattle.deck_syntax.specs.declared.request.Request.{Request}
use Rattle.deck_syntax.specs.declared.request.Request.TheVariants as request
use Rattle.deck_syntax.specs.Decks.{Cards, Commands, Enters, Gives, Drains}
use Rattle.deck_syntax.specs.Jobs.{job_line_refusal, ends_job, after_job_line}
use Rattle.deck_syntax.specs.Requests.{stream_refusal, request_on, opened, with_line, set_acl_of, list_line_refusal}
use Rattle.deck_syntax.specs.Sections.{Open, Closed, InList, InJob, asked_then, stopped, stream_section}
use Rattle.deck_syntax.specs.declared.stream_reader.Event.{Event}
use Rattle.deck_syntax.specs.declared.stream_reader.Event.TheVariants as event
use Rattle.deck_syntax.specs.declared.stream_reader.StreamReader.{StreamReader}
use Rattle.deck_syntax.specs.declared.stream_reader.StreamReader.TheVariants as reader

-- what is open where a reader stands
abbrev pub open_in : StreamReader → Open
open_in reader.Cards = Closed
open_in (reader.List list) = InList list
open_in (reader.Job job) = InJob job

-- what a line is refused for, if it is
abbrev pub refusal_in : Open → List ℕ → Option DeckError
refusal_in Closed line = option_or (line_refusal 200 line) (stream_refusal line)
refusal_in (InList list) line = list_line_refusal line
refusal_in (InJob job) line = job_line_refusal job line

-- what a card brings, and what is open behind it
abbrev pub event_of : Request → Event
event_of request.Nothing = event.Nothing
event_of (request.Asks command) = event.Asks command
event_of (request.OpensList account name) = event.Opens account
event_of (request.OpensJob job) = event.Opens job.account
event_of (request.Turns turn) = event.Turns turn
event_of request.Drains = event.Drains
event_of request.Stops = event.Stops

abbrev pub opened_by : Request → Open
opened_by (request.OpensList account name) = InList (opened account name)
opened_by (request.OpensJob job) = InJob job
opened_by _ = Closed

-- what is open is whole
abbrev pub event_at_end : Open → Event
event_at_end Closed = event.Nothing
event_at_end (InList list) = event.Asks (set_acl_of list)
event_at_end (InJob job) = event.Enters job

-- what a good line brings, and what is open behind it
abbrev pub event_in : Open → List ℕ → Event
event_in Closed line = event_of (request_on line)
event_in (InList list) line = if is_dollar_line line then event_at_end (InList list) else event.Nothing
event_in (InJob job) line = if ends_job line then event_at_end (InJob job) else event.Nothing

abbrev pub open_after : Open → List ℕ → Open
open_after Closed line = opened_by (request_on line)
open_after (InList list) line = if is_dollar_line line then Closed else InList (with_line list line)
open_after (InJob job) line = if ends_job line then Closed else InJob (after_job_line job line)

-- the cards that the lines from number n on make
abbrev pub cards_ahead : StreamReader → ℕ → List (List ℕ) → Cards
cards_ahead r n ls = stream_section n (open_in r) ls

-- what an event asks for, and what is asked after it
abbrev pub event_then : Event → Cards → Cards
event_then event.Nothing later = later
event_then (event.Opens account) later = later
event_then (event.Asks command) later = asked_then (Commands command) later
event_then (event.Enters job) later = asked_then (Enters job) later
event_then (event.Turns turn) later = asked_then (Gives turn) later
event_then event.Drains later = asked_then Drains later
event_then event.Stops later = stopped
