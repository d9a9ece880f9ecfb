-- What a call that serves a command promises.
use Rattle.std.specs.Prelude.{◌≡◌, Result, Ok, Err}
use Rattle.mon_catalogue.specs.Sets.{Sets}
use Rattle.deck_lines.specs.declared.command.Command.{Command}
use Rattle.mon_command.specs.declared.printout.Answered.{Answered}
use Rattle.mon_command.specs.Commanded.{Answer, Served, printed}
use Rattle.mon_command.specs.Saying.{said_of}

-- a printout shows this answer to a command, and what it says is told
abbrev pub Answers : Command → Answered → Answer → Type 0
Answers command answered answer = (answered.printout ≡ printed command answer) × (answered.said ≡ said_of answer)

-- it answers the printout, and leaves the data sets after the command; where memory was short, the data sets stay
abbrev pub Serves : {E : Type 0} → Command → Result Answered E → Sets → Sets → Served → Type 0
Serves command (Ok answered) old new s = Answers command answered s.answer × (new ≡ s.sets)
Serves command (Err e) old new s = new ≡ old
