use Rattle.interaction.proofs.InteractionRuns.{alike_first}
use Rattle.sno_pattern.specs.{Looks.{Fits}, Steps.{match_of}}
use Rattle.sno_pattern.proofs.laws.matches_alike.Goals as goal

pub returns : goal.returns
returns c = λ text p anchored limit x y more others a b h k same. alike_first Fits (match_of text p anchored limit) x y more others a b h k same
