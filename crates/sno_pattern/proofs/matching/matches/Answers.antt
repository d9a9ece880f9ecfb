use Rattle.std.proofs.Common.{length}
use Rattle.sno_text.specs.Nodes.{pattern_of}
use Rattle.sno_pattern.{specs.Looks.{Fits}, specs.Steps.{match_of}, specs.Places.{MatchesWithin}, proofs.Within.{matches_within, held_ends}}
use Rattle.sno_pattern.proofs.matching.matches.Goals as goal

pub returns-in-Ok-clause-within : goal.returns-in-Ok-clause-within
returns-in-Ok-clause-within g c =
    let text = c.as_bytes-text.result.now in
    let p = pattern_of c.node-node.result.now.value in
    rw c.as_bytes-text.ensures.value at (held_ends g.H.MatchHost.tells Fits (MatchesWithin (length text))
    (match_of text p c.args.anchored c.args.limit) c.args.host.now c.in-Ok.end c.matches_in.new.host
    (matches_within text p c.args.anchored c.args.limit) c.in-Ok.ensures.held)
