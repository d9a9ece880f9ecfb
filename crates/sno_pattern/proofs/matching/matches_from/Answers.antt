use Rattle.std.proofs.Common.{rules, ◌≡◌, suc, ◌+◌, ◌-◌, refl, arith}
use Rattle.sno_pattern.specs.{inner.Running.{finishing}, Steps.{Success, WholeFails, OutOfSteps, Fault}, inner.Stack.{waiting_of}}
use Rattle.sno_pattern.specs.declared.ending.MatchEnd.TheVariants.{Matched, NoMatch, Limit, Fault as Faulted}
use Rattle.sno_pattern.proofs.Run.{came_stops, came_as, came_start, came_next, came_end, came_settles, came_breaks, err_holds}
use Rattle.sno_text.specs.Nodes.{pattern_of}
use Rattle.sno_pattern.specs.Looks.{Fits}
use Rattle.interaction.proofs.Held.{cut_here}
use Rattle.sno_pattern.proofs.matching.matches_from.Goals as goal

pub loop-from-init : goal.loop-from-init
loop-from-init g c =
    record {
      came = came_start g.H.MatchHost.tells g.H.MatchHost.broken c.args.text.now (pattern_of c.args.pattern.now.value) c.args.host.now
          (finishing c.args.text.now (pattern_of c.args.pattern.now.value) (c.args.starts - c.args.first) c.args.first c.args.limit)
          (c.args.starts - c.args.first) c.args.first c.args.limit refl;
      ready = c.requires.ready;
    }

pub returns-in_err-fits-clause-cut : goal.returns-in_err-fits-clause-cut
returns-in_err-fits-clause-cut g c =
    err_holds _ (cut_here g.H.MatchHost.tells Fits g.H.MatchHost.broken
    (finishing c.args.text.now (pattern_of c.args.pattern.now.value) (c.args.starts - c.args.first) c.args.first c.args.limit) c.args.host.now)

pub loop-from-preserved : goal.loop-from-preserved
loop-from-preserved g c =
    let more : c.args.starts - c.loop-from.from ≡ suc (c.args.starts - (c.loop-from.from + 1)) = omega arith in
    record {
      came = came_as g.H.MatchHost.tells g.H.MatchHost.broken c.args.text.now (pattern_of c.args.pattern.now.value) c.args.host.now
          (finishing c.args.text.now (pattern_of c.args.pattern.now.value) (c.args.starts - c.args.first) c.args.first c.args.limit) _
          (c.args.starts - (c.loop-from.from + 1)) (c.loop-from.from + 1) c.in_ok-attempt.attempt.left
          (c.args.starts - c.skip_starts-later.result) c.skip_starts-later.result c.skip_starts-later.new.left
          (rw c.deref-node.ensures at c.skip_starts-later.ensures.same)
          (came_next g.H.MatchHost.tells g.H.MatchHost.broken c.args.text.now (pattern_of c.args.pattern.now.value) c.args.host.now
          (finishing c.args.text.now (pattern_of c.args.pattern.now.value)
          (c.args.starts - c.args.first) c.args.first c.args.limit) c.loop-from.host (c.args.starts - c.loop-from.from)
          (c.args.starts - (c.loop-from.from + 1)) c.loop-from.from c.loop-from.left more c.loop-from.invariant.came
          (rw (c.in-Err.is, c.in-Failure.is) at c.in_ok-attempt.ensures.held));
      ready = search rules;
    }

pub returns-in_err-pending-in-Ok-clause-cut : goal.returns-in_err-pending-in-Ok-clause-cut
returns-in_err-pending-in-Ok-clause-cut g c =
    let more : c.args.starts - c.loop-from.from ≡ suc (c.args.starts - (c.loop-from.from + 1)) = omega arith in
    err_holds _ (came_stops g.H.MatchHost.tells g.H.MatchHost.broken c.args.text.now (pattern_of c.args.pattern.now.value) c.args.host.now
    (finishing c.args.text.now (pattern_of c.args.pattern.now.value) (c.args.starts - c.args.first) c.args.first c.args.limit) c.loop-from.host
    (c.args.starts - c.loop-from.from) (c.args.starts - (c.loop-from.from
    + 1)) c.loop-from.from c.loop-from.left more c.loop-from.invariant.came _ _ c.in_ok-attempt.ensures.held)

pub returns-in-WholeFails-clause-held : goal.returns-in-WholeFails-clause-held
returns-in-WholeFails-clause-held g c =
    let more : c.args.starts - c.loop-from.from ≡ suc (c.args.starts - (c.loop-from.from + 1)) = omega arith in
    came_settles g.H.MatchHost.tells g.H.MatchHost.broken c.args.text.now (pattern_of c.args.pattern.now.value) c.args.host.now
    (finishing c.args.text.now (pattern_of c.args.pattern.now.value) (c.args.starts - c.args.first) c.args.first c.args.limit) c.loop-from.host
    (c.args.starts - c.loop-from.from) (c.args.starts - (c.loop-from.from
    + 1)) c.loop-from.from c.loop-from.left more c.loop-from.invariant.came _ WholeFails _ NoMatch (λ next. refl)
    (rw (c.in-Err.is, c.in-WholeFails.is) at c.in_ok-attempt.ensures.held)

pub returns-in-OutOfSteps-clause-held : goal.returns-in-OutOfSteps-clause-held
returns-in-OutOfSteps-clause-held g c =
    let more : c.args.starts - c.loop-from.from ≡ suc (c.args.starts - (c.loop-from.from + 1)) = omega arith in
    came_settles g.H.MatchHost.tells g.H.MatchHost.broken c.args.text.now (pattern_of c.args.pattern.now.value) c.args.host.now
    (finishing c.args.text.now (pattern_of c.args.pattern.now.value) (c.args.starts - c.args.first) c.args.first c.args.limit) c.loop-from.host
    (c.args.starts - c.loop-from.from) (c.args.starts - (c.loop-from.from
    + 1)) c.loop-from.from c.loop-from.left more c.loop-from.invariant.came _ OutOfSteps _ Limit (λ next. refl)
    (rw (c.in-Err.is, c.in-OutOfSteps.is) at c.in_ok-attempt.ensures.held)

pub returns-in-Fault-clause-held : goal.returns-in-Fault-clause-held
returns-in-Fault-clause-held g c =
    let more : c.args.starts - c.loop-from.from ≡ suc (c.args.starts - (c.loop-from.from + 1)) = omega arith in
    came_settles g.H.MatchHost.tells g.H.MatchHost.broken c.args.text.now (pattern_of c.args.pattern.now.value) c.args.host.now
    (finishing c.args.text.now (pattern_of c.args.pattern.now.value) (c.args.starts - c.args.first) c.args.first c.args.limit) c.loop-from.host
    (c.args.starts - c.loop-from.from) (c.args.starts - (c.loop-from.from
    + 1)) c.loop-from.from c.loop-from.left more c.loop-from.invariant.came _ (Fault c.in-Fault.fault) _ (Faulted c.in-Fault.fault)
    (λ next. refl) (rw (c.in-Err.is, c.in-Fault.is) at c.in_ok-attempt.ensures.held)

pub returns-in_err-attempt-clause-cut : goal.returns-in_err-attempt-clause-cut
returns-in_err-attempt-clause-cut g c =
    let more : c.args.starts - c.loop-from.from ≡ suc (c.args.starts - (c.loop-from.from + 1)) = omega arith in
    err_holds _ (came_breaks g.H.MatchHost.tells g.H.MatchHost.broken c.args.text.now (pattern_of c.args.pattern.now.value) c.args.host.now
    (finishing c.args.text.now (pattern_of c.args.pattern.now.value) (c.args.starts - c.args.first) c.args.first c.args.limit) c.loop-from.host
    (c.args.starts - c.loop-from.from) (c.args.starts - (c.loop-from.from
    + 1)) c.loop-from.from c.loop-from.left more c.loop-from.invariant.came _ c.in_err-attempt.ensures.cut)

pub returns-clause-held : goal.returns-clause-held
returns-clause-held g c =
    let none : c.args.starts - c.loop-from.from ≡ 0 = omega arith in
    came_end g.H.MatchHost.tells g.H.MatchHost.broken c.args.text.now (pattern_of c.args.pattern.now.value) c.args.host.now
    (finishing c.args.text.now (pattern_of c.args.pattern.now.value) (c.args.starts - c.args.first) c.args.first c.args.limit)
    (c.args.starts - c.loop-from.from) c.loop-from.from c.loop-from.left c.loop-from.host none c.loop-from.invariant.came

pub returns-in-Ok-clause-held : goal.returns-in-Ok-clause-held
returns-in-Ok-clause-held g c =
    let more : c.args.starts - c.loop-from.from ≡ suc (c.args.starts - (c.loop-from.from + 1)) = omega arith in
    let w : c.in_ok-pending-in-Ok.pending ≡ waiting_of c.args.text.now c.run.new.trail.waits = rw c.waits.ensures at c.in_ok-pending-in-Ok.ensures in
    rw w (came_settles g.H.MatchHost.tells g.H.MatchHost.broken c.args.text.now (pattern_of c.args.pattern.now.value) c.args.host.now
    (finishing c.args.text.now (pattern_of c.args.pattern.now.value) (c.args.starts - c.args.first) c.args.first c.args.limit) c.loop-from.host
    (c.args.starts - c.loop-from.from) (c.args.starts - (c.loop-from.from
    + 1)) c.loop-from.from c.loop-from.left more c.loop-from.invariant.came _
    (Success c.in-Ok.to (waiting_of c.args.text.now c.run.new.trail.waits)) _
    (Matched c.loop-from.from c.in-Ok.to (waiting_of c.args.text.now c.run.new.trail.waits)) (λ next. refl) (rw c.in-Ok.is at c.in_ok-attempt.ensures.held))
