-- What a job prints (own): its own line, and then what it spooled, its notes and how it ended; or why it is not loaded.
use Rattle.std.specs.Prelude.{ℕ, List, [], ◌++◌, codes}
use Rattle.std.specs.List.{flat_map}
use Rattle.sno_text.specs.Faults.{fault_name}
use Rattle.sno_cards.specs.Codes.{code_symbol}
use Rattle.sno_cards.specs.declared.refusal.SyntaxError.{SyntaxError}
use Rattle.sno_run.specs.declared.ending.Ending.{Ending}
use Rattle.sno_run.specs.declared.ending.Ending.TheVariants as ending
use Rattle.mon_command.specs.Printouts.{word, number, stored_line}
use Rattle.mon_command.specs.Replies.{reason_text}
use Rattle.mon_unit.specs.declared.note.Note.{Note}
use Rattle.mon_unit.specs.declared.note.NoteTarget.{NoteTarget}
use Rattle.mon_unit.specs.declared.note.NoteTarget.TheVariants.{Set, Unit as UnitOf}
use Rattle.mon_unit.specs.declared.note.Why.{Why}
use Rattle.mon_unit.specs.declared.note.Why.TheVariants.{Denied, Full}
use Rattle.audit.specs.Words.{job_line}
use Rattle.audit.specs.Requests.{act_word}
use Rattle.deck_lines.specs.declared.unit_error.UnitError.{UnitError}
use Rattle.deck_lines.specs.declared.unit_error.UnitError.TheVariants.{UnitRange, UnitTwice}
use Rattle.job_end.specs.declared.job_end.JobEnd.{JobEnd}
use Rattle.load_refusal.specs.declared.load_error.LoadError.{LoadError}
use Rattle.load_refusal.specs.declared.load_error.LoadError.TheVariants.{NoSlot, NoAccount, Cards, Syntax}

-- what was asked of: the data set, or the unit where there is none
abbrev pub target_words : NoteTarget → List ℕ
target_words target = elim target [ Set name ↦ word name | UnitOf unit ↦ codes " UNIT" ++ number unit ]

-- the statement at which something was asked for, what, and of what
abbrev pub exchange_words : Note → List ℕ
exchange_words note = codes " STATEMENT" ++ number note.statement ++ word (act_word note.act) ++ target_words note.target

-- it was denied, and why; or there was no room for the record
abbrev pub note_words : Why → List ℕ → List ℕ
note_words note exchange = elim note [ Denied reason ↦ codes "DENIED" ++ exchange ++ word (reason_text reason) | Full ↦ codes "FULL" ++ exchange ]

abbrev pub note_line : Note → List ℕ
note_line note = note_words note.why (exchange_words note) ++ codes "\n"

-- how a job ended, and at which statement
abbrev pub ending_words : Ending → List ℕ
ending_words ending.Normal = codes " NORMAL"
ending_words ending.StatementLimit = codes " STATEMENT LIMIT"
ending_words (ending.MatchLimit n) = codes " MATCH LIMIT" ++ (codes " AT" ++ number n)
ending_words (ending.Fault fault n) = codes " FAULT" ++ word (fault_name fault) ++ (codes " AT" ++ number n)
ending_words ending.Memory = codes " MEMORY"

-- What a job that has ended prints: a line with its number and its account, and no more words; what it spooled, its notes, how it ended, and
-- after how many statements.
abbrev pub printout : JobEnd → List ℕ
printout end =
    job_line end.number end.account [] ++ flat_map stored_line end.spool ++ flat_map note_line end.notes
    ++ (codes "END" ++ ending_words end.ending ++ codes " AFTER" ++ number end.statements ++ codes "\n")

-- a unit card that ties a unit that there is not, or once more
abbrev pub unit_refusal : UnitError → List ℕ
unit_refusal refusal = elim refusal [ UnitRange unit ↦ codes "U2 UNIT" ++ number unit | UnitTwice unit ↦ codes "U1 UNIT" ++ number unit ]

-- where the program is refused: the card counted from the job's first, and its column
abbrev pub syntax_words : SyntaxError → List ℕ
syntax_words error = code_symbol error.code ++ codes " CARD" ++ number error.place.card ++ codes " COLUMN" ++ number error.place.column

-- why a job is not loaded; for want of a slot none is refused
abbrev pub refusal_words : LoadError → List ℕ
refusal_words NoSlot = codes "NO SLOT"
refusal_words NoAccount = codes "M2 NO ACCOUNT"
refusal_words (Cards error) = unit_refusal error
refusal_words (Syntax error) = syntax_words error

-- what a job that is not loaded prints; one for which there was no slot prints nothing
abbrev pub refusal_text : ℕ → List ℕ → LoadError → List ℕ
refusal_text n account NoSlot = []
refusal_text n account refusal = job_line n account [] ++ (codes "REFUSED " ++ refusal_words refusal ++ codes "\n")
