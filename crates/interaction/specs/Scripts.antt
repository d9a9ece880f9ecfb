-- A service that gives the answers of a list (own).
use Rattle.std.specs.Prelude.{List, [], ◌∷◌, ◌++◌, if◌then◌else◌}
use Rattle.interaction.specs.declared.request.Act.{Act}
use Rattle.interaction.specs.declared.request.Act.TheVariants.{Read, Write, Endfile, Rewind}
use Rattle.interaction.specs.declared.request.Request.{Request}
use Rattle.interaction.specs.declared.answer.Answer.{Answer}
use Rattle.interaction.specs.declared.answer.Answer.TheVariants.{Done, EndOfFile}
use Rattle.interaction.specs.Fitting.{fits}

-- the answers that are left, and what was asked, in order
pub record Scripted : Type 0 where
  pub left : List Answer
  pub asked : List Request

-- where the list has no answer for it
abbrev pub unscripted : Act → Answer
unscripted (Read u) = EndOfFile
unscripted (Write u line) = Done
unscripted (Endfile u) = Done
unscripted (Rewind u) = Done

-- the next answer if it fits, and else none of the list, with those that are left
abbrev pub next_answer : Act → List Answer → Answer × List Answer
next_answer act [] = (unscripted act, [])
next_answer act (a ∷ answers) = if fits act a then (a, answers) else (unscripted act, a ∷ answers)

abbrev pub scripted : Scripted → Request → Answer × Scripted
scripted s q =
    let next = next_answer q.act s.left in
    (next.0, record { left = next.1; asked = s.asked ++ q ∷ [] })
