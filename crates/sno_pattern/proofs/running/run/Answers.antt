use Rattle.std.proofs.Common.{[], ◌∷◌}
use Rattle.interaction.proofs.Held.{cut_here}
use Rattle.sno_text.specs.Nodes.{pattern_of}
use Rattle.sno_pattern.{specs.Looks.{Fits}, specs.Steps.{Meet, outcome}, proofs.Run.{on_cut, on_success, err_holds}}
use Rattle.sno_pattern.proofs.running.run.Goals as goal

pub returns-in_err-clone-clause-cut : goal.returns-in_err-clone-clause-cut
returns-in_err-clone-clause-cut g c =
    err_holds _ (cut_here g.H.MatchHost.tells Fits g.H.MatchHost.broken
    (outcome c.args.text.now (Meet (pattern_of c.args.pattern.now.value) ∷ []) c.args.start [] c.args.limit) c.args.host.now)

pub returns-in_err-next-in-Go-clause-cut : goal.returns-in_err-next-in-Go-clause-cut
returns-in_err-next-in-Go-clause-cut g c =
    let k = c.loop-left in
    err_holds _ (on_cut g.H.MatchHost.tells g.H.MatchHost.broken c.args.text.now c.args.host.now (outcome c.args.text.now (Meet (pattern_of c.args.pattern.now.value) ∷ []) c.args.start [] c.args.limit) c.args.limit
    k.host k.turn k.trail k.left k.invariant.on)

pub returns-in-None-clause-held : goal.returns-in-None-clause-held
returns-in-None-clause-held g c =
    let k = c.loop-left in
    let e = rw c.in-None.is at c.in_ok-next-in-Go.ensures in
    rw e.1 (on_success g.H.MatchHost.tells g.H.MatchHost.broken c.args.text.now c.args.host.now (outcome c.args.text.now (Meet (pattern_of c.args.pattern.now.value) ∷ []) c.args.start [] c.args.limit) c.args.limit
    k.host c.in-Go.at k.trail k.left e.0 (rw c.in-Go.is at k.invariant.on))

pub returns-then-is_late-clause-cut : goal.returns-then-is_late-clause-cut
returns-then-is_late-clause-cut g c =
    let k = c.loop-left in
    on_cut g.H.MatchHost.tells g.H.MatchHost.broken c.args.text.now c.args.host.now (outcome c.args.text.now (Meet (pattern_of c.args.pattern.now.value) ∷ []) c.args.start [] c.args.limit) c.args.limit
    k.host k.turn k.trail k.left k.invariant.on
