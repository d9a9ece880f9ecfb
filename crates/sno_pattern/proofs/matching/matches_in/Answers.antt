use Rattle.std.proofs.Common.{◌≡◌, ◌+◌, length, refl, sym, ◌∙◌, subst}
use Rattle.std.specs.Prelude.{if◌then◌else◌}
use Rattle.interaction.{specs.Interactions.{Interaction}, specs.Holding.{RunsTo}, proofs.Held.{cut_here}}
use Rattle.sno_pattern.specs.{Steps.{match_of}, declared.ending.MatchEnd.{MatchEnd}, declared.ending.MatchEnd.TheVariants.{NoMatch}, Looks.{Look, Told, Fits}}
use Rattle.sno_pattern.proofs.{Run.{match_is, no_start}, matching.matches_in.Goals.{then-anchored, else-anchored}}
use Rattle.sno_text.specs.Nodes.{pattern_of}
use Rattle.sno_pattern.proofs.matching.matches_in.Goals as goal

pub returns-then-first-starts-clause-held : goal.returns-then-first-starts-clause-held
returns-then-first-starts-clause-held g c =
    let text = c.args.text.now in
    let p = pattern_of c.args.pattern.now.value in
    let all : (if c.args.anchored then 1 else (length text + 1)) ≡ c.if-anchored.starts =
    elim c.if-anchored.branch [ then-anchored w ↦ rw w.if-anchored.true (sym w.starts-is) | else-anchored w ↦ rw w.if-anchored.false (sym w.starts-is) ] in
    let whole = match_is text p c.args.anchored c.args.limit c.if-anchored.starts c.skip_starts-first.result c.skip_starts-first.new.left all
    (rw c.deref-node.ensures at c.skip_starts-first.ensures.same) in
    let none = no_start text p c.if-anchored.starts c.skip_starts-first.result c.skip_starts-first.new.left c.if-first-starts.true in
    subst (λ (z : Interaction Look Told MatchEnd). RunsTo g.H.MatchHost.tells Fits z c.args.host.now NoMatch c.args.host.now) (sym (whole ∙ none)) (refl, refl)

pub returns-in-Err-clause-cut : goal.returns-in-Err-clause-cut
returns-in-Err-clause-cut g c =
    cut_here g.H.MatchHost.tells Fits g.H.MatchHost.broken (match_of c.args.text.now
    (pattern_of c.args.pattern.now.value) c.args.anchored c.args.limit) c.args.host.now
