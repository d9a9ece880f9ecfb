-- What the audit says of a job's request (own): who asks, at which statement, to do what, by which unit, of what, at which place; what came
-- of it; and which entry of the data set's list granted it, or why it is denied.
use Rattle.std.specs.Prelude.{ℕ, List, [], ◌++◌, length, codes, Option, None, Some}
use Rattle.std.specs.Option.{option_and_then, option_map_or}
use Rattle.mon_acl.specs.declared.entries.Perms.{Perms}
use Rattle.mon_acl.specs.Permissions.{to_read, to_write}
use Rattle.mon_access.specs.declared.account.Account.{Account}
use Rattle.mon_catalogue.specs.declared.mode.Mode.{Mode}
use Rattle.mon_catalogue.specs.declared.mode.Mode.TheVariants.{Append}
use Rattle.mon_catalogue.specs.declared.data_set.DataSet.{DataSet}
use Rattle.mon_catalogue.specs.Sets.{Sets, find_set}
use Rattle.interaction.specs.declared.answer.Reason.{Reason}
use Rattle.interaction.specs.declared.answer.Answer.{Answer}
use Rattle.interaction.specs.declared.answer.Answer.TheVariants.{Denied}
use Rattle.interaction.specs.declared.request.Request.{Request}
use Rattle.mon_unit.specs.declared.note.NoteAct.{NoteAct}
use Rattle.mon_unit.specs.declared.note.NoteAct.TheVariants.{Read, Write, Endfile, Rewind}
use Rattle.mon_unit.specs.declared.tie.Tie.{Tie}
use Rattle.mon_unit.specs.Tying.{tie_at}
use Rattle.mon_unit.specs.Serving.{Reach, unit_of, note_act, set_at, set_of}
use Rattle.mon_command.specs.Printouts.{word, number}
use Rattle.mon_command.specs.Replies.{reason_text}
use Rattle.audit.specs.declared.request.AuditedRequest.{AuditedRequest}
use Rattle.audit.specs.Words.{job_line, target_word, outcome_word}
use Rattle.audit.specs.Grants.{granting_entry}

-- THE WORDS

abbrev pub act_word : NoteAct → List ℕ
act_word act = elim act [ Read ↦ codes "READ" | Write ↦ codes "WRITE" | Endfile ↦ codes "ENDFILE" | Rewind ↦ codes "REWIND" ]

-- why it is denied, or else the entry that granted it, if it was one that did
abbrev pub by_words : Option Reason → Answer → List ℕ
by_words grant (Denied reason) = word (reason_text reason)
by_words grant answer = option_map_or (λ reason. word (reason_text reason)) grant []

-- WHAT IS ASKED

-- what is asked of a data set's list; to go back to its first record the set isn't looked at
abbrev pub permission : NoteAct → Option Perms
permission act = elim act [ Read ↦ Some to_read | Rewind ↦ None | _ ↦ Some to_write ]

-- the entry of the set's list that grants an act, if one does
abbrev pub grant : Account → NoteAct → DataSet → Option Reason
grant account act set = option_and_then (granting_entry account set) (permission act)

-- how many records stand before the place: what is written to a set of mode APPEND is put behind all of them
abbrev pub place_in : NoteAct → Mode → ℕ → ℕ → ℕ
place_in Write Append records position = records
place_in act mode records position = position

-- THE LINE

-- what the audit says of a request of the job of this number, for this account, as its units and the data sets then stand
abbrev pub exchange_line : ℕ → Account → Reach → Request → Answer → List ℕ
exchange_line n account reach q answer =
    let act = note_act q.act in
    let tie = tie_at reach.units (unit_of q.act) in
    let set = option_and_then (λ name. find_set name reach.sets) (set_of reach.units q) in
    let place = option_map_or (λ s. place_in act s.mode (length s.records) tie.position) set tie.position in
    let words = number q.statement ++ word (act_word act) ++ number (unit_of q.act) ++ word (target_word tie.target) ++ number place in
    job_line n account.name (codes " ASKED" ++ words ++ word (outcome_word answer) ++ by_words (option_and_then (grant account act) set) answer)

-- FOR THE CODE AND FOR LAWS: the same as a record of what is asked, and the line of that

-- what a job asks at a unit that is tied so, as the data sets then stand
abbrev pub asked_at : ℕ → Account → Sets → Request → Tie → AuditedRequest
asked_at n account sets q tie =
    let act = note_act q.act in
    let set = option_and_then (λ name. find_set name sets) (set_at q.act tie.target) in
    record {
      number = n;
      account = account.name;
      statement = q.statement;
      act = act;
      unit = unit_of q.act;
      target = tie.target;
      place = option_map_or (λ s. place_in act s.mode (length s.records) tie.position) set tie.position;
      grant = option_and_then (grant account act) set;
    }

-- what a job asks, as its units and the data sets then stand
abbrev pub asked_of : ℕ → Account → Reach → Request → AuditedRequest
asked_of n account reach q = asked_at n account reach.sets q (tie_at reach.units (unit_of q.act))

-- at which statement, to do what, by which unit, of what, and how many records stand before the place
abbrev pub place_words : AuditedRequest → List ℕ
place_words asked =
    number asked.statement ++ word (act_word asked.act) ++ number asked.unit ++ word (target_word asked.target) ++ number asked.place

abbrev pub request_line : AuditedRequest → Answer → List ℕ
request_line asked answer =
    job_line asked.number asked.account (codes " ASKED" ++ place_words asked ++ word (outcome_word answer) ++ by_words asked.grant answer)
