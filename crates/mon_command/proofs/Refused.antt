-- Where a list is not set the reply says so.
use Rattle.std.proofs.Common.{◌≡◌, Result, Ok, Err, IfOk, ap, ◌∙◌}
use Rattle.mon_catalogue.specs.Sets.{Sets}
use Rattle.mon_guard.specs.declared.answer.AclAnswer.{AclAnswer}
use Rattle.deck_lines.specs.declared.command.Command.{Command}
use Rattle.mon_command.specs.{declared.printout.Answered.{Answered}, Commanded.{Told, told_by, acl_reply, printed}, Saying.{said_of}}
use Rattle.mon_command.specs.inner.Serving.{Answers, Serves}

pub refused : {E : Type 0} (command : Command) (result : Result Answered E) (old new : Sets) (answer : AclAnswer) (s : AclAnswer × Sets) → answer ≡ s.0 → s.1 ≡ old → new ≡ s.1 → IfOk result (λ answered. Answers command answered (Told (acl_reply answer))) → Serves command result old new (told_by acl_reply s)
refused command (Ok answered) old new answer s is stay left tells = (
  (tells.0 ∙ ap (λ (a : AclAnswer). printed command (Told (acl_reply a))) is, tells.1 ∙ ap (λ (a : AclAnswer). said_of (Told (acl_reply a))) is),
  left,
)
refused command (Err e) old new answer s is stay left tells = left ∙ stay
