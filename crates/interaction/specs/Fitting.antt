-- Which answers a request may have (own).
use Rattle.std.specs.Prelude.{Bool, true, false, ℕ, List, ◌≤◌, length, IsTrue}
use Rattle.interaction.specs.declared.request.Act.{Act}
use Rattle.interaction.specs.declared.request.Act.TheVariants.{Read, Write, Endfile, Rewind}
use Rattle.interaction.specs.declared.request.Request.{Request}
use Rattle.interaction.specs.declared.answer.Answer.{Answer}
use Rattle.interaction.specs.declared.answer.Answer.TheVariants.{Done, Got, EndOfFile, Denied, Full}

abbrev pub fits : Act → Answer → Bool
fits (Read u) (Got line) = true
fits (Read u) EndOfFile = true
fits (Read u) (Denied reason) = true
fits (Read u) Done = false
fits (Read u) Full = false
fits (Write u line) Done = true
fits (Write u line) Full = true
fits (Write u line) (Denied reason) = true
fits (Write u line) (Got other) = false
fits (Write u line) EndOfFile = false
fits (Endfile u) Done = true
fits (Endfile u) (Denied reason) = true
fits (Endfile u) (Got line) = false
fits (Endfile u) EndOfFile = false
fits (Endfile u) Full = false
fits (Rewind u) Done = true
fits (Rewind u) (Denied reason) = true
fits (Rewind u) (Got line) = false
fits (Rewind u) EndOfFile = false
fits (Rewind u) Full = false

abbrev pub Fits : Request → Answer → Type 0
Fits request answer = IsTrue (fits request.act answer)

-- a line that is to be written has at most 1,024 characters
abbrev pub IsShort : Act → Type 0
IsShort (Write u line) = length line ≤ 1024
IsShort (Read u) = Unit {0}
IsShort (Endfile u) = Unit {0}
IsShort (Rewind u) = Unit {0}

-- what asks that a line be written
abbrev pub writing : ℕ → ℕ → List ℕ → Request
writing statement unit line = record { statement = statement; act = Write unit line }
