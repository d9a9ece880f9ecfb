-- What the history tells (own): a job's own entries are what its program means, each entry is answered as the data sets stand
-- then, and what is granted, denied and printed follows. The law `history_tells` says it of all events. Turns says when
-- turns come.
use Rattle.std.specs.Prelude.{◌≡◌, ◌≢◌, ◌⊎◌, ◌↔◌, ◌==◌, ℕ, suc, List, [], ◌∷◌, ◌++◌, map, Option, Some, None, if◌then◌else◌}
use Rattle.std.specs.List.{AllByRecursion, flat_map}
use Rattle.interaction.specs.Asking.{Exchange}
use Rattle.interaction.specs.Asking as asking
use Rattle.interaction.specs.Counting.{Passed, IsTrace, IsTracePrefix, requests_in, statements_in}
use Rattle.interaction.specs.declared.request.Act.{Act}
use Rattle.interaction.specs.declared.request.Act.TheVariants.{Read, Write, Endfile, Rewind}
use Rattle.interaction.specs.declared.answer.Answer.{Answer}
use Rattle.interaction.specs.declared.answer.Answer.TheVariants.{Done, Got, EndOfFile, Denied, Full}
use Rattle.sno_run.specs.declared.ending.Ending.TheVariants.{Memory}
use Rattle.sno_run.specs.declared.ending.Step.TheVariants as step
use Rattle.sno_run.specs.Jobs.{Job, counted_turns, turns_of, first_job}
use Rattle.sno_cards.specs.Statements.{statements_of}
use Rattle.sno_syntax.specs.Programs.{Program}
use Rattle.mon_access.specs.declared.account.Account.{Account}
use Rattle.mon_access.specs.Accounts.{find_account}
use Rattle.mon_catalogue.specs.Sets.{Sets}
use Rattle.interaction.specs.declared.answer.Reason.{Reason}
use Rattle.mon_guard.specs.Views.{AclPart, NamePart}
use Rattle.mon_guard.specs.Laws.{AreForReading, IsForSeeing}
use Rattle.deck_lines.specs.declared.command.Command.{Command}
use Rattle.deck_lines.specs.declared.command.Command.TheVariants.{Create, Delete, SetAcl, ShowAcl, List as Listing, Catalog}
use Rattle.mon_command.specs.declared.reply.Reply.{Reply}
use Rattle.mon_command.specs.declared.reply.Reply.TheVariants as reply
use Rattle.deck_lines.specs.Commands.{account_of}
use Rattle.mon_command.specs.Commanded as commands
use Rattle.mon_command.specs.Commanded.{Told, Records, Shown, Names, answered}
use Rattle.mon_command.specs.Laws as commanding
use Rattle.mon_command.specs.Laws.{IsKnown}
use Rattle.mon_unit.specs.declared.tie.Target.{Target}
use Rattle.mon_unit.specs.declared.tie.Target.TheVariants.{Untied, Data, Spool, Set}
use Rattle.mon_unit.specs.declared.note.Note.{Note}
use Rattle.mon_unit.specs.declared.note.Why.{Why}
use Rattle.mon_unit.specs.declared.note.Why.TheVariants as why
use Rattle.mon_unit.specs.State.{UnitState}
use Rattle.mon_unit.specs.Serving.{serve, unit_of, note_act, note_target}
use Rattle.mon_unit.specs.Laws as units
use Rattle.mon_unit.specs.Laws.{target_of, ReadsDeck, ReadsSet, WhyDenied}
use Rattle.deck_syntax.specs.declared.job_deck.JobDeck.{JobDeck}
use Rattle.job_end.specs.declared.job_end.JobEnd.{JobEnd}
use Rattle.load_refusal.specs.declared.load_error.LoadError.{LoadError}
use Rattle.scheduler.specs.States.{SlotState, seat_at}
use Rattle.load_refusal.specs.Loads.{job_refusal}
use Rattle.scheduler.specs.Loads.{first_units, with_ties, program_in}
use Rattle.scheduler.specs.Marks.{Marks}
use Rattle.mon_monitor.specs.SystemStates.{SystemState, first_system}
use Rattle.mon_monitor.specs.Events.{Event, Serve, Load, Give, Drain}
use Rattle.mon_monitor.specs.Printouts.{Printout}
use Rattle.mon_monitor.specs.Played.{played}
use Rattle.mon_monitor.specs.Answering.{ReadsPast, LacksRoom, IsDone, AreNamed, IsTold}
use Rattle.scheduler.specs.Exchanged.{Exchanged}
use Rattle.mon_monitor.specs.History.{Entry, Entered, Refused, Asked, Ended, Ordered, history, printouts_in, cards_in, own}

-- A JOB

-- what was asked and answered, as a program sees it
abbrev pub exchange : Exchanged → Exchange
exchange e = record { asked = e.request; reply = e.answer }

-- each of these as a program sees it
abbrev pub exchanges : List Exchanged → List Exchange
exchanges asked = map exchange asked

-- these are of one job, for one account, and each leaves the job's units to the next
abbrev pub Follow : ℕ → Account → UnitState → List Exchanged → UnitState → Type 0
Follow n account units [] after = after ≡ units
Follow n account units (e ∷ asked) after =
    (e.number ≡ n) × (e.account ≡ account) × (e.reach.units ≡ units) × Follow n account (serve e.account e.reach e.request).1.units asked after

-- the line that a request adds to the spool: one that it writes to a unit that is tied to it
abbrev pub spool_line : Act → Target → List (List ℕ)
spool_line (Write u line) Spool = line ∷ []
spool_line (Write u line) Untied = []
spool_line (Write u line) Data = []
spool_line (Write u line) (Set name) = []
spool_line (Read u) target = []
spool_line (Endfile u) target = []
spool_line (Rewind u) target = []

-- the lines that these exchanges add to the spool
abbrev pub spooled : List Exchanged → List (List ℕ)
spooled asked = flat_map (λ e. spool_line e.request.act (target_of e.reach.units e.request)) asked

-- the note of an exchange, of what it asked and why that was not done
abbrev pub note_on : Exchanged → Why → Note
note_on e why = record {
  statement = e.request.statement;
  act = note_act e.request.act;
  target = note_target (unit_of e.request.act) (target_of e.reach.units e.request);
  why = why;
}

-- an exchange is noted where it was denied, or where there was no room
abbrev pub note_by : Answer → Exchanged → List Note
note_by (Denied reason) e = note_on e (why.Denied reason) ∷ []
note_by Full e = note_on e why.Full ∷ []
note_by Done e = []
note_by (Got line) e = []
note_by EndOfFile e = []

-- the notes of these exchanges
abbrev pub noted : List Exchanged → List Note
noted asked = flat_map (λ e. note_by e.answer e) asked

-- What passed of a job: it asked this, as many statements began as it ended with, and it came to its end; or it ended for want
-- of memory (END MEMORY), at a beginning of all that would have passed.
pub record EndsSo (first : Job) (x : List Exchange) (end : JobEnd) : Type 0 where
  pub passed : List Passed
  pub asked : x ≡ requests_in passed
  pub counted : end.statements ≡ statements_in passed
  pub ends : (let all = counted_turns (suc first.limits.statements) first in
      ((job : Job) × IsTrace all passed (step.Ended end.ending, job)) ⊎ ((end.ending ≡ Memory) × IsTracePrefix all passed))

-- a job that was refused: that is all there is of it
pub record WasRefused (accounts : List Account) (deck : JobDeck) (entries : List Entry) : Type 0 where
  -- It was refused for the first thing that is wrong with its cards.
  pub refusal : LoadError
  pub why : job_refusal accounts deck ≡ Some refusal
  -- Its one entry says so.
  pub all : entries ≡ Refused deck refusal ∷ []

-- a job that was loaded: for the account of its card, with the program that its cards spell and the units that they tie; and
-- what it has asked up to now
pub record Course (accounts : List Account) (deck : JobDeck) : Type 0 where
  -- Nothing is wrong with its cards.
  pub good : job_refusal accounts deck ≡ None
  -- Its account is the one that its card names.
  pub account : Account
  pub known : find_account accounts deck.account ≡ Some account
  -- Its program is the one that its cards spell.
  pub program : Program
  pub spelled : program_in (statements_of deck.lines) ≡ Some program
  -- All that it asks is asked for that account, from the units of its cards on, each request by the units as the one before it
  -- left them: its data and its spool are its own.
  pub asked : List Exchanged
  pub units : UnitState
  pub follow : Follow deck.number account (with_ties deck.ties (first_units deck.lines)) asked units

-- the job as its cards say it
abbrev pub job_in_cards : (accounts : List Account) (deck : JobDeck) → Course accounts deck → Job
job_in_cards accounts deck c = first_job c.program deck.limits

-- It goes on, in its slot: so far it has asked all that its program asks in so many turns, and nothing else.
pub record GoesOn (accounts : List Account) (deck : JobDeck) (slots : List (Option SlotState)) (entries : List Entry) : Type 0 where
  pub course : Course accounts deck
  -- Its entries are that it was loaded, and what it asked.
  pub all : entries ≡ Entered deck ∷ map Asked course.asked
  -- It sits in a slot, under its number and its account, with its units.
  pub slot : ℕ
  pub state : SlotState
  pub sits : seat_at slot slots ≡ Some state
  pub number : state.number ≡ deck.number
  pub account : state.account ≡ course.account
  pub units : state.units ≡ course.units
  -- It asked all that its program asks in some number of turns, and goes on from there.
  pub turns : ℕ
  pub asks : asking.IsTrace (turns_of turns (job_in_cards accounts deck course)) (exchanges course.asked) (step.Goes, state.job)

-- It has ended: it has asked all that its program asks up to its end, and nothing else, or where memory broke it off a
-- beginning of that; and what it prints is what these exchanges spooled and noted, and how it ended.
pub record HasEnded (accounts : List Account) (deck : JobDeck) (entries : List Entry) : Type 0 where
  pub course : Course accounts deck
  -- Its entries are that it was loaded, what it asked, and that it ended.
  pub end : JobEnd
  pub all : entries ≡ Entered deck ∷ (map Asked course.asked ++ Ended end ∷ [])
  -- It asked, and ended, as its whole program means.
  pub asks : EndsSo (job_in_cards accounts deck course) (exchanges course.asked) end
  -- It prints under its number and its account's name,
  pub number : end.number ≡ deck.number
  pub account : end.account ≡ course.account.name
  -- the lines that it wrote to its spool,
  pub spool : end.spool ≡ spooled course.asked
  -- and a note of each denial, and of each write for which there was no room.
  pub notes : end.notes ≡ noted course.asked

-- all that there is of the job of some number; of a number that no job has there is nothing
abbrev pub IsJob : List Account → List (Option SlotState) → Option JobDeck → List Entry → Type 0
IsJob accounts slots None entries = entries ≡ []
IsJob accounts slots (Some deck) entries =
    WasRefused accounts deck entries ⊎ (GoesOn accounts deck slots entries ⊎ HasEnded accounts deck entries)

-- the job of a number among events, if there is one
abbrev pub job_of : ℕ → List Event → Option JobDeck
job_of n [] = None
job_of n (Load deck ∷ events) = if deck.number == n then Some deck else job_of n events
job_of n (Serve command ∷ events) = job_of n events
job_of n (Give slot count ∷ events) = job_of n events
job_of n (Drain ∷ events) = job_of n events

-- no two jobs have one number
abbrev pub NumbersDiffer : List Event → Type 0
NumbersDiffer [] = Unit {0}
NumbersDiffer (Load deck ∷ events) = (job_of deck.number events ≡ None) × NumbersDiffer events
NumbersDiffer (Serve command ∷ events) = NumbersDiffer events
NumbersDiffer (Give slot count ∷ events) = NumbersDiffer events
NumbersDiffer (Drain ∷ events) = NumbersDiffer events

-- the cards that are served or loaded among events: all but turns
abbrev pub cards_of : List Event → List Event
cards_of [] = []
cards_of (Load deck ∷ events) = Load deck ∷ cards_of events
cards_of (Serve command ∷ events) = Serve command ∷ cards_of events
cards_of (Give slot count ∷ events) = cards_of events
cards_of (Drain ∷ events) = cards_of events

-- ONE AFTER ANOTHER

-- an entry stands over these data sets, and is answered as they say
abbrev pub StandsOver : List Account → Sets → Entry → Type 0
StandsOver accounts sets (Asked e) = (e.reach.sets ≡ sets) × (e.answer ≡ (serve e.account e.reach e.request).0)
StandsOver accounts sets (Ordered known before command answer) =
    (before ≡ sets) × (answer ≡ (answered accounts before command).answer) × (known ≡ find_account accounts (account_of command))
StandsOver accounts sets (Entered deck) = Unit {0}
StandsOver accounts sets (Refused deck refusal) = Unit {0}
StandsOver accounts sets (Ended end) = Unit {0}

-- the data sets that an entry leaves where it stands over these
abbrev pub sets_after : List Account → Sets → Entry → Sets
sets_after accounts sets (Asked e) = (serve e.account e.reach e.request).1.sets
sets_after accounts sets (Ordered known before command answer) = (answered accounts before command).sets
sets_after accounts sets (Entered deck) = sets
sets_after accounts sets (Refused deck refusal) = sets
sets_after accounts sets (Ended end) = sets

-- entries lead from data sets to data sets: each stands over those that the one before it left
abbrev pub Lead : List Account → Sets → List Entry → Sets → Type 0
Lead accounts before [] after = after ≡ before
Lead accounts before (entry ∷ entries) after =
    StandsOver accounts before entry × Lead accounts (sets_after accounts before entry) entries after

-- WHAT IS GRANTED

-- What an answer means for grants, for the requests of jobs and then for commands. The list that decides is the one that the
-- data set has at that exchange. End of file, FULL, a name that is taken (K1), a catalogue that is full (K4) and a text that
-- spells no list (A) are answers to what was granted, and change nothing (`leaves` and `changed` below). So is MODE, which comes
-- after the grant: it denies, and names itself as the reason.

-- A request of a job: these are the laws `got_where_granted`, `changed_where_granted`, `denials_say_why` and
-- `denials_change_nothing` of mon_unit, at its answer.
pub record IsRightRequest (e : Exchanged) : Type 0 where
  -- It gets a line exactly where it reads and that stands at its unit's position, in the job's own data, or in the data set
  -- that the unit is tied to, if r is granted there.
  pub got : (line : List ℕ) → (e.answer ≡ Got line) ↔ (ReadsDeck e.reach.units e.request line ⊎ ReadsSet e.account e.reach e.request line)
  -- It changes a data set exactly where w is granted and it is fit for the set's mode: it ends a set of mode SEQ, or writes where
  -- there is room.
  pub changed : units.ChangesExactly e.account e.reach e.request
  -- It is denied exactly where the unit is not tied, is the job's data (IN STREAM) or its spool (SPOOL UNIT) and this is none of
  -- their acts, or where the data set is missing or an entry of its list decides so, or where w is granted and it would end a set
  -- of mode APPEND (MODE); and that is the reason that it is told.
  pub denied : (reason : Reason) → (e.answer ≡ Denied reason) ↔ WhyDenied e.account e.reach e.request reason
  -- Denied, or told that there is no room, it adds its note and changes nothing else.
  pub leaves : units.LeavesAll e.account e.reach e.request
  -- It is told the end of file exactly where it reads behind the last line or record, and r is granted; that there is no room
  -- exactly where it writes, w is granted, and the set has its most records; and that it is done exactly where `IsDone` says so.
  pub past : (e.answer ≡ EndOfFile) ↔ ReadsPast e.account e.reach e.request
  pub full : (e.answer ≡ Full) ↔ LacksRoom e.account e.reach e.request
  pub done : (e.answer ≡ Done) ↔ IsDone e.account e.reach e.request

-- a command that shows records, a list or names shows what is lent to the account; any other is told one line
abbrev pub ShowsRightly : Account → Sets → Command → commands.Answer → Type 0
ShowsRightly account sets (Listing _ name) answer = (records : List (List ℕ)) → (answer ≡ Records records) ↔ AreForReading account sets name records
ShowsRightly account sets (ShowAcl _ name) answer = (list : AclPart) → (answer ≡ Shown list) ↔ IsForSeeing account sets name list
ShowsRightly account sets (Catalog _) answer = (names : List NamePart) × (answer ≡ Names names) × AreNamed account sets names
ShowsRightly account sets (Create _ name _) answer = (reply : Reply) × (answer ≡ Told reply)
ShowsRightly account sets (Delete _ name) answer = (reply : Reply) × (answer ≡ Told reply)
ShowsRightly account sets (SetAcl _ name text) answer = (reply : Reply) × (answer ≡ Told reply)

-- A command: these are the laws `changes_where_granted`, `shows_where_granted` and `denials_say_why` of mon_command, and what is told
-- otherwise, at its answer. By a name that is taken, and by denials, everyone is told whether there is such a data set.
pub record IsRightCommand (accounts : List Account) (known : Option Account) (sets : Sets) (command : Command) (answer : commands.Answer) : Type 0 where
  -- Its account is the one that its card names, if there is one.
  pub by : known ≡ find_account accounts (account_of command)
  -- An account that is unknown is told so, and nothing else.
  pub unknown : find_account accounts (account_of command) ≡ None → answer ≡ Told reply.NoAccount
  -- CREATE makes a data set for every account that is known, where its name is free and there is room; DELETE removes one for its
  -- owner, and SETACL gives it the list that its text spells; no other command changes any.
  pub changed : commanding.ChangesExactly accounts sets command
  -- LIST shows records exactly where r is granted; SHOWACL a list to the owner and where x is granted; and CATALOG, where x is
  -- granted, a name, and with it owner, group and number of records.
  pub shown : (account : Account) → IsKnown accounts command account → ShowsRightly account sets command answer
  -- It is told one line exactly where `IsTold` says so, by the first of what is wrong with it: it is denied exactly where the data set
  -- is missing, is another's (NOT OWNER), or an entry of its list decides so; and that is the reason that it is told.
  pub told : (account : Account) → IsKnown accounts command account → (reply : Reply) → (answer ≡ Told reply) ↔ IsTold account sets command reply

-- an entry got, changed and showed what was granted, and its denial says why
abbrev pub IsRight : List Account → Entry → Type 0
IsRight accounts (Asked e) = IsRightRequest e
IsRight accounts (Ordered known sets command answer) = IsRightCommand accounts known sets command answer
IsRight accounts (Entered deck) = Unit {0}
IsRight accounts (Refused deck refusal) = Unit {0}
IsRight accounts (Ended end) = Unit {0}

-- ALL OF IT

-- These entries are the history of these events: all that they have brought about in this system, which printed these printouts and
-- left that system.
pub record IsHistory (events : List Event) (w : SystemState) (entries : List Entry) (printouts : List Printout) (after : SystemState) : Type 0 where
  -- Each command and each job stands in it, in the order in which they are asked, and no other.
  pub cards : cards_in entries ≡ cards_of events
  -- Of each job there is what its program means, and nothing else.
  pub jobs : (n : ℕ) → IsJob w.accounts after.scheduler.slots (job_of n events) (own n entries)
  -- Each entry is answered over the data sets that the one before it left, and nothing else changes them.
  pub lead : Lead w.accounts w.scheduler.sets entries after.scheduler.sets
  -- What is got, changed or shown is what is granted, and each denial says why.
  pub granted : AllByRecursion (IsRight w.accounts) entries
  -- What is printed is what the entries print, in their order.
  pub printed : printouts ≡ printouts_in entries

-- From empty slots on, whatever is asked and wherever memory breaks turns off.
abbrev pub HistoryTells : Type 0
HistoryTells = (slots : ℕ) (accounts : List Account) (sets : Sets) (events : List Event) (m : Marks) → slots ≢ 0 → NumbersDiffer events
    → (let w = first_system slots accounts sets in
    let p = played events m w in
    IsHistory events w (history events m w) p.printouts p.after)
