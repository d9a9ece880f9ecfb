-- HOW AN AUDIT IS READ (own): its lines, their words, and what these tell. It reads what is printed; of other texts it says anything.
use Rattle.std.specs.Prelude.{ℕ, ◌==◌, List, [], ◌∷◌, drop, map, get_or, Option, None, Some, Ok, Err, if◌then◌else◌}
use Rattle.std.specs.List.{slice_split, onto_first}
use Rattle.mon_text.specs.Characters.{is_blank, is_line_feed}
use Rattle.mon_text.specs.Names.{is_name_character}
use Rattle.mon_text.specs.Counts.{value_of}
use Rattle.mon_acl.specs.declared.entries.Tag.{Tag}
use Rattle.mon_acl.specs.declared.entries.Tag.TheVariants.{UserObj, User, GroupObj, Group, Mask, Other}
use Rattle.mon_acl.specs.declared.entries.Entry.{Entry}
use Rattle.mon_acl.specs.declared.refusals.AclError.{AclError}
use Rattle.mon_acl.specs.declared.refusals.AclError.TheVariants.{BadTag, BadQualifier, BadPerms, Missing, Twice, NoMask, TooMany}
use Rattle.acl_text.specs.Reading.{read_short}
use Rattle.interaction.specs.declared.answer.Reason.{Reason}
use Rattle.interaction.specs.declared.answer.Reason.TheVariants.{By, NoSet, NotOwner, NoUnit, InStream, SpoolUnit, Mode as WrongMode}
use Rattle.interaction.specs.declared.answer.Answer.{Answer}
use Rattle.interaction.specs.declared.answer.Answer.TheVariants as answer
use Rattle.mon_catalogue.specs.declared.mode.Mode.{Mode}
use Rattle.mon_catalogue.specs.declared.mode.Mode.TheVariants.{Seq, Append}
use Rattle.deck_lines.specs.declared.unit_error.UnitError.TheVariants.{UnitRange, UnitTwice}
use Rattle.sno_cards.specs.declared.refusal.SyntaxCode.{SyntaxCode}
use Rattle.sno_cards.specs.declared.refusal.SyntaxCode.TheVariants.{NoEndLine, NothingToContinue, UnknownControlCard, BadConstant, BlankMissing}
use Rattle.sno_cards.specs.declared.refusal.SyntaxCode.TheVariants.{Unexpected, LabelTaken, VariableNeeded, StatementTooLarge, BadEnd}
use Rattle.sno_text.specs.declared.fault.Fault.{Fault}
use Rattle.sno_text.specs.declared.fault.Fault.TheVariants as fault
use Rattle.mon_command.specs.declared.reply.Reply.{Reply}
use Rattle.mon_command.specs.declared.said.Said.{Said}
use Rattle.mon_unit.specs.declared.note.NoteAct.{NoteAct}
use Rattle.mon_unit.specs.declared.tie.Target.{Target}
use Rattle.sno_run.specs.declared.ending.Ending.{Ending}
use Rattle.load_refusal.specs.declared.load_error.LoadError.{LoadError}
use Rattle.audit.specs.declared.grants.Grant.{Grant}
use Rattle.audit.specs.declared.grants.Grant.TheVariants.{AsOwner, ByEntry}
use Rattle.mon_command.specs.declared.reply.Reply.TheVariants as reply
use Rattle.mon_command.specs.declared.said.Said.TheVariants.{Told as ToldReply, Records, Entries, Names}
use Rattle.sno_run.specs.declared.ending.Ending.TheVariants.{MatchLimit, Fault as Faults, Normal, StatementLimit, Memory}
use Rattle.load_refusal.specs.declared.load_error.LoadError.TheVariants.{NoSlot, NoAccount as LacksAccount, Cards, Syntax}
use Rattle.mon_unit.specs.declared.note.NoteAct.TheVariants.{Read, Write, Endfile, Rewind}
use Rattle.mon_unit.specs.declared.tie.Target.TheVariants.{Untied, Data, Spool, Set}
use Rattle.audit_laws.specs.Telling.{Order, Creates, Deletes, SetsList, ShowsList, Lists, ShowsNames, Told, Loads, Refuses, Asks, Ends, Orders, Shows}

-- LINES AND WORDS

-- the lines, each ended by LF
abbrev pub lines_in : List ℕ → List (List ℕ)
lines_in [] = []
lines_in (c ∷ cs) = if is_line_feed c then [] ∷ lines_in cs else onto_first c (lines_in cs)

-- the word at an index, its letter at another, and the number that it is
abbrev pub word_at : List (List ℕ) → ℕ → List ℕ
word_at ws i = get_or ws i []

abbrev pub letter : List (List ℕ) → ℕ → ℕ → ℕ
letter ws i k = get_or (get_or ws i []) k 0

abbrev pub number_at : List (List ℕ) → ℕ → ℕ
number_at ws i = value_of (get_or ws i [])

-- WHY, AND BY WHAT

-- the characters of a name in front
abbrev pub name_in : List ℕ → List ℕ
name_in [] = []
name_in (c ∷ cs) = if is_name_character c then c ∷ name_in cs else []

-- an entry by what stands behind its type's colon: of this type where no name stands there, else of that one
abbrev pub named_in : Tag → Tag → List ℕ → Reason
named_in plain qualified w = if get_or w 0 0 == 58 then By plain None else By qualified (Some (name_in w))

abbrev pub entry_in : List ℕ → Reason
entry_in w =
    if get_or w 0 0 == 117 then named_in UserObj User (drop 5 w)
    else if get_or w 0 0 == 103 then named_in GroupObj Group (drop 6 w)
    else if get_or w 0 0 == 109 then By Mask None
    else By Other None

abbrev pub reason_in : List (List ℕ) → Reason
reason_in ws =
    if letter ws 0 0 == 66 then entry_in (word_at ws 1)
    else if letter ws 0 0 == 73 then InStream
    else if letter ws 0 0 == 83 then SpoolUnit
    else if letter ws 0 0 == 77 then WrongMode
    else if letter ws 0 2 == 84 then NotOwner
    else if letter ws 1 0 == 68 then NoSet
    else NoUnit

abbrev pub reason_if : List (List ℕ) → Option Reason
reason_if [] = None
reason_if (w ∷ ws) = Some (reason_in (w ∷ ws))

-- REQUESTS

abbrev pub act_in : List ℕ → NoteAct
act_in w = if get_or w 2 0 == 65 then Read else if get_or w 2 0 == 73 then Write else if get_or w 2 0 == 68 then Endfile else Rewind

abbrev pub target_in : List ℕ → Target
target_in w =
    if get_or w 0 0 == 46 then (if get_or w 1 0 == 78 then Untied else if get_or w 1 0 == 68 then Data else Spool) else Set w

abbrev pub answer_in : List ℕ → Option Reason → Answer
answer_in w told =
    if get_or w 0 0 == 71 then answer.Got []
    else if get_or w 0 0 == 69 then answer.EndOfFile
    else if get_or w 0 0 == 70 then answer.Full
    else if get_or w 1 0 == 79 then answer.Done
    else elim told [ Some reason ↦ answer.Denied reason | None ↦ answer.Done ]

abbrev pub asked_in : List (List ℕ) → Option Reason → Told
asked_in ws told = Asks (record {
  number = number_at ws 1;
  account = word_at ws 2;
  statement = number_at ws 4;
  act = act_in (word_at ws 5);
  unit = number_at ws 6;
  target = target_in (word_at ws 7);
  place = number_at ws 8;
  grant = if letter ws 9 1 == 69 then None else told;
}) (answer_in (word_at ws 9) told)

-- JOBS

abbrev pub code_in : List ℕ → SyntaxCode
code_in w =
    if get_or w 0 0 == 83 then (if get_or w 1 0 == 49 then NoEndLine else if get_or w 1 0 == 50 then NothingToContinue else UnknownControlCard)
    else if get_or w 1 0 == 49 then BadConstant
    else if get_or w 1 0 == 50 then BlankMissing
    else if get_or w 1 0 == 51 then Unexpected
    else if get_or w 1 0 == 52 then LabelTaken
    else if get_or w 1 0 == 53 then VariableNeeded
    else if get_or w 1 0 == 54 then StatementTooLarge
    else BadEnd

abbrev pub refusal_in : List (List ℕ) → LoadError
refusal_in ws =
    if letter ws 0 0 == 78 then NoSlot
    else if letter ws 0 0 == 77 then LacksAccount
    else if letter ws 0 0 == 85 then Cards (if letter ws 0 1 == 50 then UnitRange (number_at ws 2) else UnitTwice (number_at ws 2))
    else Syntax (record { code = code_in (word_at ws 0); place = record { card = number_at ws 2; column = number_at ws 4 } })

abbrev pub fault_in : List ℕ → Fault
fault_in w =
    if get_or w 0 0 == 84 then fault.WrongType
    else if get_or w 0 0 == 65 then fault.Arithmetic
    else if get_or w 0 0 == 78 then (if get_or w 1 0 == 85 then fault.Null else fault.Negative)
    else if get_or w 0 0 == 70 then (if get_or w 1 0 == 85 then fault.Function else fault.Format)
    else if get_or w 0 0 == 80 then fault.Prototype
    else if get_or w 0 0 == 75 then fault.Keyword
    else if get_or w 0 0 == 69 then fault.Entry
    else if get_or w 0 0 == 76 then (if get_or w 2 0 == 78 then fault.Length else if get_or w 2 0 == 86 then fault.Level else fault.Label)
    else if get_or w 0 0 == 71 then fault.Goto
    else if get_or w 0 0 == 68 then fault.Depth
    else fault.BadUnit

abbrev pub ends_in : List (List ℕ) → (Ending → ℕ → Told) → Told
ends_in ws ends =
    if letter ws 0 0 == 78 then ends Normal (number_at ws 2)
    else if letter ws 0 0 == 83 then ends StatementLimit (number_at ws 3)
    else if letter ws 0 0 == 70 then ends (Faults (fault_in (word_at ws 1)) (number_at ws 3)) (number_at ws 5)
    else if letter ws 0 1 == 65 then ends (MatchLimit (number_at ws 3)) (number_at ws 5)
    else ends Memory (number_at ws 2)

abbrev pub job_in : List (List ℕ) → Told
job_in ws =
    if letter ws 3 0 == 76 then Loads (number_at ws 1) (word_at ws 2)
    else if letter ws 3 0 == 82 then Refuses (number_at ws 1) (word_at ws 2) (refusal_in (drop 4 ws))
    else if letter ws 3 0 == 69 then ends_in (drop 4 ws) (Ends (number_at ws 1) (word_at ws 2))
    else asked_in ws (reason_if (drop 10 ws))

-- COMMANDS

abbrev pub tag_in : List ℕ → Tag
tag_in w = if get_or w 0 0 == 117 then UserObj else if get_or w 0 0 == 103 then GroupObj else if get_or w 0 0 == 109 then Mask else Other

-- why a list is refused
abbrev pub error_in : List (List ℕ) → AclError
error_in ws =
    if letter ws 0 1 == 49 then BadTag (number_at ws 4)
    else if letter ws 0 1 == 50 then BadQualifier (number_at ws 4)
    else if letter ws 0 1 == 51 then BadPerms (number_at ws 4)
    else if letter ws 0 1 == 52 then Missing (tag_in (word_at ws 2))
    else if letter ws 0 1 == 53 then Twice (number_at ws 3)
    else if letter ws 0 1 == 54 then NoMask
    else TooMany (number_at ws 4)

abbrev pub refused_in : List (List ℕ) → Reply
refused_in ws =
    if letter ws 0 0 == 77 then reply.NoAccount
    else if letter ws 0 0 == 75 then (if letter ws 0 1 == 49 then reply.NameTaken else reply.CatalogueFull)
    else reply.BadList (error_in ws)

abbrev pub said_in : List (List ℕ) → Said
said_in ws =
    if letter ws 0 0 == 68 then (if letter ws 0 1 == 79 then ToldReply reply.Done else ToldReply (reply.Denied (reason_in (drop 1 ws))))
    else if letter ws 0 0 == 69 then Entries (number_at ws 1)
    else if letter ws 0 0 == 78 then Names (number_at ws 1)
    else if letter ws 0 2 == 67 then Records (number_at ws 1)
    else ToldReply (refused_in (drop 1 ws))

abbrev pub grant_in : List (List ℕ) → Option Grant
grant_in [] = None
grant_in (w ∷ ws) = Some (if letter ws 0 1 == 119 then AsOwner else ByEntry (reason_in (w ∷ ws)))

abbrev pub mode_in : List (List ℕ) → Option Mode
mode_in [] = None
mode_in (w ∷ ws) = Some (if get_or w 0 0 == 83 then Seq else Append)

abbrev pub list_in : List ℕ → Option (List Entry)
list_in w = elim (read_short w) [ Ok list ↦ Some list | Err refusal ↦ None ]

-- what stands behind what was answered
abbrev pub behind : List (List ℕ) → List (List ℕ)
behind ws =
    if letter ws 0 0 == 68 then (if letter ws 0 1 == 79 then drop 1 ws else [])
    else if letter ws 0 0 == 69 then drop 2 ws
    else if letter ws 0 0 == 78 then drop 2 ws
    else if letter ws 0 2 == 67 then drop 2 ws
    else []

abbrev pub ordering : List ℕ → Order → Said → Option Mode → Option (List Entry) → Option Grant → Told
ordering account order said mode list grant =
    Orders (record { account = account; order = order; said = said; mode = mode; list = list; grant = grant })

-- the list that was set, where one was; and then by what
abbrev pub list_set : (Option (List Entry) → Option Grant → Told) → List (List ℕ) → Told
list_set told [] = told None None
list_set told (w ∷ []) = told (list_in w) None
list_set told (w ∷ v ∷ []) = told None (grant_in (w ∷ v ∷ []))
list_set told (w ∷ v ∷ ws) = told (list_in w) (grant_in (v ∷ ws))

abbrev pub command_in : List (List ℕ) → Told
command_in ws =
    if letter ws 3 1 == 82 then ordering (word_at ws 2) (Creates (word_at ws 4)) (said_in (drop 5 ws)) (mode_in (behind (drop 5 ws))) None None
    else if letter ws 3 1 == 69 then
    (if letter ws 3 0 == 68 then ordering (word_at ws 2) (Deletes (word_at ws 4)) (said_in (drop 5 ws)) None None (grant_in (behind (drop 5 ws)))
    else list_set (ordering (word_at ws 2) (SetsList (word_at ws 4)) (said_in (drop 5 ws)) None) (behind (drop 5 ws)))
    else if letter ws 3 1 == 72 then ordering (word_at ws 2) (ShowsList (word_at ws 4)) (said_in (drop 5 ws)) None None (grant_in (behind (drop 5 ws)))
    else if letter ws 3 1 == 73 then ordering (word_at ws 2) (Lists (word_at ws 4)) (said_in (drop 5 ws)) None None (grant_in (behind (drop 5 ws)))
    else if letter ws 4 0 == 83 then Shows (word_at ws 2) (word_at ws 5) (grant_in (drop 6 ws))
    else ordering (word_at ws 2) ShowsNames (said_in (drop 4 ws)) None None (grant_in (behind (drop 4 ws)))

-- A LINE, AND ALL OF THEM

abbrev pub told_in : List (List ℕ) → Told
told_in ws = if letter ws 0 0 == 67 then command_in ws else job_in ws

-- what the lines of an audit tell
abbrev pub audit_tells : List ℕ → List Told
audit_tells text = map (λ line. told_in (slice_split is_blank line)) (lines_in text)
