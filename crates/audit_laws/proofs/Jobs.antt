-- Lines of jobs: their words, and what is read of them.
use Rattle.std.proofs.Common.{◌≡◌, ℕ, Bool, List, [], ◌∷◌, ◌++◌, get_or, refl, ap, ◌∙◌, append_assoc, Option, Some, None}
use Rattle.std.specs.Prelude.{codes, decimal, ◌==◌, if◌then◌else◌, IfSome, option_map}
use Rattle.mon_text.specs.Names.{IsName}
use Rattle.interaction.specs.declared.answer.{Reason.{Reason}, Answer.{Answer}, Answer.TheVariants.{Done, Got, EndOfFile, Denied, Full}}
use Rattle.deck_lines.specs.declared.unit_error.UnitError.TheVariants.{UnitRange, UnitTwice}
use Rattle.sno_cards.specs.{declared.refusal.SyntaxCode.{SyntaxCode}, Codes.{code_symbol}}
use Rattle.sno_cards.specs.declared.refusal.SyntaxCode.TheVariants.{NoEndLine, NothingToContinue, UnknownControlCard, BadConstant, BlankMissing, Unexpected, LabelTaken, VariableNeeded, StatementTooLarge, BadEnd}
use Rattle.sno_text.specs.{declared.fault.Fault.{Fault}, Faults.{fault_name}}
use Rattle.sno_text.specs.declared.fault.Fault.TheVariants as fault
use Rattle.mon_command.specs.Printouts.{word, number}
use Rattle.mon_unit.specs.declared.{note.NoteAct.{NoteAct}, tie.Target.{Target}, note.NoteAct.TheVariants.{Read, Write, Endfile, Rewind}}
use Rattle.mon_unit.specs.declared.tie.Target.TheVariants.{Untied, Data, Spool, Set}
use Rattle.audit.specs.{declared.request.AuditedRequest.{AuditedRequest}, Requests.{act_word, by_words, place_words, request_line}, Laws.{IsNamed}}
use Rattle.audit.specs.Words.{target_word, outcome_word, job_line}
use Rattle.sno_run.specs.declared.ending.Ending.{Ending, TheVariants.{MatchLimit, Fault as Faults, Normal, StatementLimit, Memory}}
use Rattle.load_refusal.specs.declared.load_error.LoadError.{LoadError, TheVariants.{NoSlot, NoAccount as LacksAccount, Cards, Syntax}}
use Rattle.job_end.specs.{Printouts.{ending_words, refusal_words}, AuditLines.{loaded_line, refused_line}}
use Rattle.audit_laws.specs.{Sound.{IsEntryNamed, IsReasonNamed}, Reading.{act_in, target_in, answer_in, reason_if, refusal_in, fault_in, told_in}}
use Rattle.audit_laws.specs.Telling.{Told, Loads, Refuses, Asks, Ends, told_number, told_reason, told_answer, told_request, told_refusal, told_ending}
use Rattle.audit_laws.proofs.Words.{IsWord, Reads, no_words, one_word, joined, ended, same_words, name_word, number_word, IsLineOf, line_of}
use Rattle.audit_laws.proofs.Reasons.{reason_list, reason_reads, if_back, begins_other}

-- A JOB'S LINE

abbrev pub job_words : ℕ → List ℕ → List (List ℕ) → List (List ℕ)
job_words n account ws = codes "JOB" ∷ decimal n ∷ account ∷ ws

pub job_reads : (n : ℕ) (account what : List ℕ) (ws : List (List ℕ)) → IsName account → Reads what ws → IsLineOf (job_line n account what) (job_words n account ws)
job_reads n account what ws named reads =
    line_of (job_line n account what) (codes "JOB") (decimal n ∷ account ∷ ws)
    (ended (codes " JOB" ++ number n ++ word account ++ what) (job_words n account ws)
    (joined (codes " JOB" ++ number n ++ word account) what (codes "JOB" ∷ decimal n ∷ account ∷ []) ws
    (joined (codes " JOB" ++ number n) (word account) (codes "JOB" ∷ decimal n ∷ []) (account ∷ [])
    (joined (codes " JOB") (number n) (codes "JOB" ∷ []) (decimal n ∷ []) (refl, refl) (one_word (decimal n) (number_word n)))
    (one_word account (name_word account named))) reads))

pub loaded_reads : (n : ℕ) (account : List ℕ) → IsName account → IsLineOf (loaded_line n account) (job_words n account (codes "LOADED" ∷ []))
loaded_reads n account named = job_reads n account (codes " LOADED") (codes "LOADED" ∷ []) named (refl, refl)

pub loaded_back : (n : ℕ) (account : List ℕ) → told_in (job_words n account (codes "LOADED" ∷ [])) ≡ Loads (told_number n) account
loaded_back n account = refl

-- WHY IT IS NOT LOADED

abbrev pub refusal_list : LoadError → List (List ℕ)
refusal_list NoSlot = codes "NO" ∷ codes "SLOT" ∷ []
refusal_list LacksAccount = codes "M2" ∷ codes "NO" ∷ codes "ACCOUNT" ∷ []
refusal_list (Cards (UnitRange unit)) = codes "U2" ∷ codes "UNIT" ∷ decimal unit ∷ []
refusal_list (Cards (UnitTwice unit)) = codes "U1" ∷ codes "UNIT" ∷ decimal unit ∷ []
refusal_list (Syntax error) = code_symbol error.code ∷ codes "CARD" ∷ decimal error.place.card ∷ codes "COLUMN" ∷ decimal error.place.column ∷ []

number_reads : (n : ℕ) → Reads (number n) (decimal n ∷ [])
number_reads n = one_word (decimal n) (number_word n)

symbol_word : (code : SyntaxCode) → IsWord (code_symbol code)
symbol_word NoEndLine = refl
symbol_word NothingToContinue = refl
symbol_word UnknownControlCard = refl
symbol_word BadConstant = refl
symbol_word BlankMissing = refl
symbol_word Unexpected = refl
symbol_word LabelTaken = refl
symbol_word VariableNeeded = refl
symbol_word StatementTooLarge = refl
symbol_word BadEnd = refl

pub refusal_reads : (refusal : LoadError) → Reads (codes " " ++ refusal_words refusal) (refusal_list refusal)
refusal_reads NoSlot = (refl, refl)
refusal_reads LacksAccount = (refl, refl)
refusal_reads (Cards (UnitRange unit)) = joined (codes " U2 UNIT") (number unit) (codes "U2" ∷ codes "UNIT" ∷ []) (decimal unit ∷ []) (refl, refl) (number_reads unit)
refusal_reads (Cards (UnitTwice unit)) = joined (codes " U1 UNIT") (number unit) (codes "U1" ∷ codes "UNIT" ∷ []) (decimal unit ∷ []) (refl, refl) (number_reads unit)
refusal_reads (Syntax error) =
    let sym = code_symbol error.code in
    let front = word sym ++ codes " CARD" in
    joined (front ++ number error.place.card ++ codes " COLUMN") (number error.place.column) (sym ∷ codes "CARD" ∷ decimal error.place.card ∷ codes "COLUMN" ∷ []) (decimal error.place.column ∷ [])
    (joined (front ++ number error.place.card) (codes " COLUMN") (sym ∷ codes "CARD" ∷ decimal error.place.card ∷ []) (codes "COLUMN" ∷ [])
    (joined front (number error.place.card) (sym ∷ codes "CARD" ∷ []) (decimal error.place.card ∷ [])
    (joined (word sym) (codes " CARD") (sym ∷ []) (codes "CARD" ∷ []) (one_word sym (symbol_word error.code)) (refl, refl))
    (number_reads error.place.card)) (refl, refl)) (number_reads error.place.column)

pub refused_reads : (n : ℕ) (account : List ℕ) (refusal : LoadError) → IsName account
    → IsLineOf (refused_line n account refusal) (job_words n account (codes "REFUSED" ∷ refusal_list refusal))
refused_reads n account refusal named =
    job_reads n account (codes " REFUSED " ++ refusal_words refusal) (codes "REFUSED" ∷ refusal_list refusal) named
    (joined (codes " REFUSED") (codes " " ++ refusal_words refusal) (codes "REFUSED" ∷ []) (refusal_list refusal) (refl, refl) (refusal_reads refusal))

symbol_back : (card column : ℕ) (code : SyntaxCode)
    → refusal_in (refusal_list (Syntax (record { code = code; place = record { card = card; column = column } })))
    ≡ told_refusal (Syntax (record { code = code; place = record { card = card; column = column } }))
symbol_back card column NoEndLine = refl
symbol_back card column NothingToContinue = refl
symbol_back card column UnknownControlCard = refl
symbol_back card column BadConstant = refl
symbol_back card column BlankMissing = refl
symbol_back card column Unexpected = refl
symbol_back card column LabelTaken = refl
symbol_back card column VariableNeeded = refl
symbol_back card column StatementTooLarge = refl
symbol_back card column BadEnd = refl

refusal_back : (refusal : LoadError) → refusal_in (refusal_list refusal) ≡ told_refusal refusal
refusal_back NoSlot = refl
refusal_back LacksAccount = refl
refusal_back (Cards (UnitRange unit)) = refl
refusal_back (Cards (UnitTwice unit)) = refl
refusal_back (Syntax error) = symbol_back error.place.card error.place.column error.code

pub refused_back : (n : ℕ) (account : List ℕ) (refusal : LoadError)
    → told_in (job_words n account (codes "REFUSED" ∷ refusal_list refusal)) ≡ Refuses (told_number n) account (told_refusal refusal)
refused_back n account refusal = ap (Refuses (told_number n) account) (refusal_back refusal)

-- HOW IT ENDS

abbrev pub ending_list : Ending → List (List ℕ)
ending_list Normal = codes "NORMAL" ∷ []
ending_list StatementLimit = codes "STATEMENT" ∷ codes "LIMIT" ∷ []
ending_list (MatchLimit n) = codes "MATCH" ∷ codes "LIMIT" ∷ codes "AT" ∷ decimal n ∷ []
ending_list (Faults fault n) = codes "FAULT" ∷ fault_name fault ∷ codes "AT" ∷ decimal n ∷ []
ending_list Memory = codes "MEMORY" ∷ []

fault_word : (f : Fault) → IsWord (fault_name f)
fault_word fault.WrongType = refl
fault_word fault.Arithmetic = refl
fault_word fault.Null = refl
fault_word fault.Function = refl
fault_word fault.Prototype = refl
fault_word fault.Keyword = refl
fault_word fault.Entry = refl
fault_word fault.Negative = refl
fault_word fault.Length = refl
fault_word fault.Level = refl
fault_word fault.Goto = refl
fault_word fault.Label = refl
fault_word fault.Depth = refl
fault_word fault.Format = refl
fault_word fault.BadUnit = refl

ending_reads : (e : Ending) → Reads (ending_words e) (ending_list e)
ending_reads Normal = (refl, refl)
ending_reads StatementLimit = (refl, refl)
ending_reads (MatchLimit n) = joined (codes " MATCH LIMIT AT") (number n) (codes "MATCH" ∷ codes "LIMIT" ∷ codes "AT" ∷ []) (decimal n ∷ []) (refl, refl) (number_reads n)
ending_reads (Faults fault n) =
    joined (codes " FAULT" ++ word (fault_name fault)) (codes " AT" ++ number n) (codes "FAULT" ∷ fault_name fault ∷ []) (codes "AT" ∷ decimal n ∷ [])
    (joined (codes " FAULT") (word (fault_name fault)) (codes "FAULT" ∷ []) (fault_name fault ∷ []) (refl, refl) (one_word (fault_name fault) (fault_word fault)))
    (joined (codes " AT") (number n) (codes "AT" ∷ []) (decimal n ∷ []) (refl, refl) (number_reads n))
ending_reads Memory = (refl, refl)

abbrev pub ended_list : Ending → ℕ → List (List ℕ)
ended_list e count = codes "ENDED" ∷ ending_list e ++ codes "AFTER" ∷ decimal count ∷ []

abbrev pub ended_text : ℕ → List ℕ → Ending → ℕ → List ℕ
ended_text n account e count = job_line n account (codes " ENDED" ++ ending_words e ++ codes " AFTER" ++ number count)

abbrev ended_nested : Ending → ℕ → List (List ℕ)
ended_nested e count = ((codes "ENDED" ∷ ending_list e) ++ codes "AFTER" ∷ []) ++ decimal count ∷ []

pub ended_reads : (n : ℕ) (account : List ℕ) (e : Ending) (count : ℕ) → IsName account
    → IsLineOf (ended_text n account e count) (job_words n account (ended_list e count))
ended_reads n account e count named =
    let front = codes " ENDED" ++ ending_words e in
    job_reads n account (front ++ codes " AFTER" ++ number count) (ended_list e count) named
    (same_words (front ++ codes " AFTER" ++ number count) (ended_nested e count) (ended_list e count) (append_assoc (codes "ENDED" ∷ ending_list e) (codes "AFTER" ∷ []) (decimal count ∷ []))
    (joined (front ++ codes " AFTER") (number count) ((codes "ENDED" ∷ ending_list e) ++ codes "AFTER" ∷ []) (decimal count ∷ [])
    (joined front (codes " AFTER") (codes "ENDED" ∷ ending_list e) (codes "AFTER" ∷ [])
    (joined (codes " ENDED") (ending_words e) (codes "ENDED" ∷ []) (ending_list e) (refl, refl) (ending_reads e)) (refl, refl))
    (number_reads count)))

fault_back : (f : Fault) → fault_in (fault_name f) ≡ f
fault_back fault.WrongType = refl
fault_back fault.Arithmetic = refl
fault_back fault.Null = refl
fault_back fault.Function = refl
fault_back fault.Prototype = refl
fault_back fault.Keyword = refl
fault_back fault.Entry = refl
fault_back fault.Negative = refl
fault_back fault.Length = refl
fault_back fault.Level = refl
fault_back fault.Goto = refl
fault_back fault.Label = refl
fault_back fault.Depth = refl
fault_back fault.Format = refl
fault_back fault.BadUnit = refl

pub ended_back : (n : ℕ) (account : List ℕ) (e : Ending) (count : ℕ)
    → told_in (job_words n account (ended_list e count)) ≡ Ends (told_number n) account (told_ending e) (told_number count)
ended_back n account Normal count = refl
ended_back n account StatementLimit count = refl
ended_back n account (MatchLimit at) count = refl
ended_back n account (Faults fault at) count =
    ap (λ (f : Fault). Ends (told_number n) account (Faults f (told_number at)) (told_number count)) (fault_back fault)
ended_back n account Memory count = refl

-- WHAT IT ASKS

abbrev pub by_list : Option Reason → Answer → List (List ℕ)
by_list grant (Denied reason) = reason_list reason
by_list None Done = []
by_list None (Got line) = []
by_list None EndOfFile = []
by_list None Full = []
by_list (Some reason) Done = reason_list reason
by_list (Some reason) (Got line) = reason_list reason
by_list (Some reason) EndOfFile = reason_list reason
by_list (Some reason) Full = reason_list reason

by_reads : (grant : Option Reason) (answer : Answer) → IfSome grant IsEntryNamed → IsReasonNamed answer → Reads (by_words grant answer) (by_list grant answer)
by_reads grant (Denied reason) h named = reason_reads reason named
by_reads None Done h named = no_words
by_reads None (Got line) h named = no_words
by_reads None EndOfFile h named = no_words
by_reads None Full h named = no_words
by_reads (Some reason) Done h named = reason_reads reason h
by_reads (Some reason) (Got line) h named = reason_reads reason h
by_reads (Some reason) EndOfFile h named = reason_reads reason h
by_reads (Some reason) Full h named = reason_reads reason h

act_is : (act : NoteAct) → IsWord (act_word act)
act_is Read = refl
act_is Write = refl
act_is Endfile = refl
act_is Rewind = refl

outcome_is : (answer : Answer) → IsWord (outcome_word answer)
outcome_is Done = refl
outcome_is (Got line) = refl
outcome_is EndOfFile = refl
outcome_is (Denied reason) = refl
outcome_is Full = refl

target_is : (target : Target) → IsNamed target → IsWord (target_word target)
target_is Untied h = refl
target_is Data h = refl
target_is Spool h = refl
target_is (Set name) h = name_word name h

abbrev pub asked_list : AuditedRequest → Answer → List (List ℕ)
asked_list asked answer =
    codes "ASKED" ∷ decimal asked.statement ∷ act_word asked.act ∷ decimal asked.unit ∷ target_word asked.target ∷ decimal asked.place
    ∷ outcome_word answer ∷ by_list asked.grant answer

-- what stands in a line of a request has the form that names and entries have
pub record IsSoundRequest (asked : AuditedRequest) (answer : Answer) : Type 0 where
  pub account : IsName asked.account
  pub target : IsNamed asked.target
  pub grant : IfSome asked.grant IsEntryNamed
  pub reason : IsReasonNamed answer

place_reads : (asked : AuditedRequest) → IsNamed asked.target
    → Reads (place_words asked) (decimal asked.statement ∷ act_word asked.act ∷ decimal asked.unit ∷ target_word asked.target ∷ decimal asked.place ∷ [])
place_reads asked named =
    let s = number asked.statement in
    let a = word (act_word asked.act) in
    let u = number asked.unit in
    let t = word (target_word asked.target) in
    joined (s ++ a ++ u ++ t) (number asked.place) (decimal asked.statement ∷ act_word asked.act ∷ decimal asked.unit ∷ target_word asked.target ∷ []) (decimal asked.place ∷ [])
    (joined (s ++ a ++ u) t (decimal asked.statement ∷ act_word asked.act ∷ decimal asked.unit ∷ []) (target_word asked.target ∷ [])
    (joined (s ++ a) u (decimal asked.statement ∷ act_word asked.act ∷ []) (decimal asked.unit ∷ [])
    (joined s a (decimal asked.statement ∷ []) (act_word asked.act ∷ []) (number_reads asked.statement) (one_word (act_word asked.act) (act_is asked.act)))
    (number_reads asked.unit)) (one_word (target_word asked.target) (target_is asked.target named))) (number_reads asked.place)

pub asked_reads : (asked : AuditedRequest) (answer : Answer) → IsSoundRequest asked answer
    → IsLineOf (request_line asked answer) (job_words asked.number asked.account (asked_list asked answer))
asked_reads asked answer sound =
    let places = decimal asked.statement ∷ act_word asked.act ∷ decimal asked.unit ∷ target_word asked.target ∷ decimal asked.place ∷ [] in
    job_reads asked.number asked.account (codes " ASKED" ++ place_words asked ++ word (outcome_word answer) ++ by_words asked.grant answer) (asked_list asked answer) sound.account
    (joined (codes " ASKED" ++ place_words asked ++ word (outcome_word answer)) (by_words asked.grant answer) (codes "ASKED" ∷ (places ++ outcome_word answer ∷ [])) (by_list asked.grant answer)
    (joined (codes " ASKED" ++ place_words asked) (word (outcome_word answer)) (codes "ASKED" ∷ places) (outcome_word answer ∷ [])
    (joined (codes " ASKED") (place_words asked) (codes "ASKED" ∷ []) places (refl, refl) (place_reads asked sound.target))
    (one_word (outcome_word answer) (outcome_is answer))) (by_reads asked.grant answer sound.grant sound.reason))

act_back : (act : NoteAct) → act_in (act_word act) ≡ act
act_back Read = refl
act_back Write = refl
act_back Endfile = refl
act_back Rewind = refl

target_back : (target : Target) → IsNamed target → target_in (target_word target) ≡ target
target_back Untied h = refl
target_back Data h = refl
target_back Spool h = refl
target_back (Set name) h =
    ap (λ (b : Bool). if b then (if get_or name 1 0 == 78 then Untied else if get_or name 1 0 == 68 then Data else Spool) else Set name) (begins_other 46 refl name h)

-- why it is denied, or else the entry that granted it
abbrev pub told_last : Option Reason → Answer → Option Reason
told_last grant (Denied reason) = Some (told_reason reason)
told_last grant Done = option_map told_reason grant
told_last grant (Got line) = option_map told_reason grant
told_last grant EndOfFile = option_map told_reason grant
told_last grant Full = option_map told_reason grant

by_back : (grant : Option Reason) (answer : Answer) → IfSome grant IsEntryNamed → IsReasonNamed answer → reason_if (by_list grant answer) ≡ told_last grant answer
by_back grant (Denied reason) h named = if_back reason named
by_back None Done h named = refl
by_back None (Got line) h named = refl
by_back None EndOfFile h named = refl
by_back None Full h named = refl
by_back (Some reason) Done h named = if_back reason h
by_back (Some reason) (Got line) h named = if_back reason h
by_back (Some reason) EndOfFile h named = if_back reason h
by_back (Some reason) Full h named = if_back reason h

-- what is read of a request's words, where so much is read of the last of them
abbrev pub told_of : AuditedRequest → Answer → Target → NoteAct → Option Reason → Told
told_of asked answer target act told = Asks (record {
  number = told_number asked.number;
  account = asked.account;
  statement = told_number asked.statement;
  act = act;
  unit = told_number asked.unit;
  target = target;
  place = told_number asked.place;
  grant = if get_or (outcome_word answer) 1 0 == 69 then None else told;
}) (answer_in (outcome_word answer) told)

outcome_back : (asked : AuditedRequest) (answer : Answer)
    → told_of asked answer asked.target asked.act (told_last asked.grant answer) ≡ Asks (told_request asked answer) (told_answer answer)
outcome_back asked Done = refl
outcome_back asked (Got line) = refl
outcome_back asked EndOfFile = refl
outcome_back asked (Denied reason) = refl
outcome_back asked Full = refl

pub asked_back : (asked : AuditedRequest) (answer : Answer) → IsSoundRequest asked answer
    → told_in (job_words asked.number asked.account (asked_list asked answer)) ≡ Asks (told_request asked answer) (told_answer answer)
asked_back asked answer sound =
    ap (told_of asked answer (target_in (target_word asked.target)) (act_in (act_word asked.act))) (by_back asked.grant answer sound.grant sound.reason)
    ∙ ap (λ (t : Target). told_of asked answer t (act_in (act_word asked.act)) (told_last asked.grant answer)) (target_back asked.target sound.target)
    ∙ ap (λ (a : NoteAct). told_of asked answer asked.target a (told_last asked.grant answer)) (act_back asked.act)
    ∙ outcome_back asked answer
