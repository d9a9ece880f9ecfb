-- How the calls are answered that all answer alike, by an `Answer` (own).
use Rattle.std.specs.Prelude.{Result, Ok, Err}
use Rattle.mon_acl.specs.declared.refusals.AclError.{AclError}
use Rattle.interaction.specs.declared.answer.Reason.{Reason}
use Rattle.interaction.specs.declared.answer.Answer.{Answer}
use Rattle.interaction.specs.declared.answer.Answer.TheVariants.{Done, Denied}
use Rattle.mon_guard.specs.declared.answer.AclAnswer.{AclAnswer}
use Rattle.mon_guard.specs.declared.answer.AclAnswer.TheVariants as acl

-- it is done, or denied
abbrev pub guard_answer : {A : Type 0} → Result A Reason → Answer
guard_answer (Ok _) = Done
guard_answer (Err reason) = Denied reason

-- a text that is no permission list is no answer, but an error
abbrev pub acl_answer : AclAnswer → Result Answer AclError
acl_answer acl.Done = Ok Done
acl_answer (acl.Denied reason) = Ok (Denied reason)
acl_answer (acl.BadList error) = Err error
