-- The words of a request's line, in the pieces in which they are kept.
use Rattle.std.specs.Prelude.{ℕ, List, ◌++◌, codes, decimal}
use Rattle.interaction.specs.declared.answer.Answer.{Answer}
use Rattle.interaction.specs.declared.answer.Answer.TheVariants.{Denied}
use Rattle.mon_unit.specs.declared.note.NoteAct.{NoteAct}
use Rattle.mon_unit.specs.declared.note.NoteAct.TheVariants.{Read, Write, Endfile, Rewind}
use Rattle.mon_unit.specs.declared.tie.Target.{Target}
use Rattle.mon_command.specs.Printouts.{word, number}
use Rattle.mon_command.specs.Replies.{reason_text}
use Rattle.audit.specs.declared.words.Words.{Words}
use Rattle.audit.specs.Words.{target_word, outcome_word}
use Rattle.audit.specs.Requests.{act_word}

abbrev pub text_of : Words → List ℕ
text_of words = words.text.items

-- what stands before the statement's number
abbrev pub head_words : ℕ → List ℕ → List ℕ
head_words n account = codes "JOB" ++ number n ++ word account ++ codes " ASKED" ++ codes " "

-- between that and the place
abbrev pub target_words : NoteAct → ℕ → Target → List ℕ
target_words act unit target = word (act_word act) ++ number unit ++ word (target_word target) ++ codes " "

-- and behind the place
abbrev pub outcome_words : List ℕ → Answer → List ℕ
outcome_words grant (Denied reason) = codes " DENIED" ++ word (reason_text reason)
outcome_words grant answer = word (outcome_word answer) ++ grant

-- what most requests of an act come to
abbrev pub usual_words : NoteAct → List ℕ
usual_words Read = codes " GOT"
usual_words Write = codes " DONE"
usual_words Endfile = codes " DONE"
usual_words Rewind = codes " DONE"

-- the line of these words
abbrev pub again_line : List ℕ → ℕ → List ℕ → ℕ → List ℕ → Answer → List ℕ
again_line head statement target place grant answer = (head ++ decimal statement ++ target) ++ decimal place ++ (outcome_words grant answer ++ codes "\n")
