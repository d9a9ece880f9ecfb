use Rattle.interaction.proofs.Broken.{broken_goes_on}
use Rattle.sno_pattern.{specs.Looks.{Fits}, specs.Steps.{match_of}, proofs.Firsts.{may_fail}}
use Rattle.sno_pattern.proofs.laws.matches_go_on.Goals as goal

pub returns : goal.returns
returns g c = λ text p anchored limit s s1 h. broken_goes_on g.H.MatchHost.tells Fits g.H.MatchHost.broken may_fail (match_of text p anchored limit) s s1 h
