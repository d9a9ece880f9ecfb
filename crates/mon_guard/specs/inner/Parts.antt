-- What acts, decisions and lists come to, case by case: for the code and for proofs.
use Rattle.std.specs.Prelude.{ℕ, List, length, Option, None, Some, Result, Ok, Err}
use Rattle.std.specs.Option.{option_map_or}
use Rattle.mon_acl.specs.declared.entries.Entry.{Entry}
use Rattle.mon_acl.specs.declared.refusals.AclError.{AclError}
use Rattle.acl_text.specs.declared.text.AclText.{AclText}
use Rattle.acl_text.specs.Forms.{list_of_text}
use Rattle.mon_access.specs.declared.access.Decision.{Decision}
use Rattle.mon_access.specs.declared.access.Decision.TheVariants as decision
use Rattle.mon_catalogue.specs.Sets.{Sets}
use Rattle.mon_catalogue.specs.Changes.{with_acl}
use Rattle.mon_catalogue.specs.declared.mode.Mode.{Mode}
use Rattle.mon_catalogue.specs.declared.mode.Mode.TheVariants.{Seq, Append}
use Rattle.mon_catalogue.specs.Writing.{Change, Cut, Add, records_after}
use Rattle.interaction.specs.declared.answer.Reason.{Reason}
use Rattle.interaction.specs.declared.answer.Reason.TheVariants as reason
use Rattle.interaction.specs.declared.answer.Answer.TheVariants.{Denied}
use Rattle.mon_guard.specs.declared.answer.AclAnswer.{AclAnswer}
use Rattle.mon_guard.specs.declared.answer.AclAnswer.TheVariants as acl
use Rattle.mon_guard.specs.Reasons.{reason_of}
use Rattle.mon_guard.specs.Acting.{Acted, only_answered, changing}

abbrev pub by_decision : {A : Type 0} → List Entry → Decision → A → Result A Reason
by_decision entries decided granted = elim decided [ decision.Granted ↦ Ok granted | decision.Denied decider ↦ Err (reason_of entries decider) ]

abbrev pub or_denied : Result Acted Reason → Acted
or_denied (Ok acted) = acted
or_denied (Err why) = only_answered (Denied why)

-- where the position moves to
abbrev pub position_after : Change → List (List ℕ) → Option ℕ
position_after change records = elim change [ Add line ↦ None | put ↦ Some (length (records_after put records)) ]

-- the end of a set
abbrev pub ended : Mode → ℕ → List (List ℕ) → Acted
ended mode position records = elim mode [ Seq ↦ changing (Cut position) records | Append ↦ only_answered (Denied reason.Mode) ]

-- a list is given to the set only where the text spells one, and there is no reason against it
abbrev pub given : Result (List Entry) AclError → Sets → List ℕ → AclAnswer × Sets
given read sets name = elim read [ Ok list ↦ (acl.Done, with_acl name list sets) | Err error ↦ (acl.BadList error, sets) ]

abbrev pub acl_set_unless : Option Reason → Sets → List ℕ → AclText → AclAnswer × Sets
acl_set_unless denied sets name text = option_map_or (λ why. (acl.Denied why, sets)) denied (given (list_of_text text) sets name)
