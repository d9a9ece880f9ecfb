use Rattle.std.proofs.Common.{◌∷◌, refl, ap, arith}
use Rattle.sno_text.specs.Nodes.{pattern_of}
use Rattle.sno_pattern.specs.declared.{host.Taken.TheVariants.{Cursor}, choice_points.Turn.TheVariants.{Meet as MeetNow}}
use Rattle.sno_pattern.specs.{Steps.{Meet, row, outcome}, inner.Meeting.{pattern_met}, inner.Stack.{waiting_of, assigning, looking}}
use Rattle.sno_pattern.proofs.Pushing.{rank_most, hands_on, quietly, defer_asks, cursor_asks}
use Rattle.sno_pattern.proofs.Run.{err_holds, since_turn, since_cut, since_part, since_breaks}
use Rattle.sno_pattern.proofs.meeting.meet.Goals as goal

pub loop-node-init : goal.loop-node-init
loop-node-init g c =
    let text = c.args.text.now in
    let a = c.args.trail.now in
    let n = c.args.left.now in
    let whole = outcome text (Meet (pattern_of c.args.pattern.value) ∷ a.goals) c.args.start (waiting_of text a.waits) n in
    record {
      on = quietly g.H.MatchHost.tells g.H.MatchHost.broken text c.args.host.now a.opens whole n
          (hands_on text a.opens whole n a.goals c.args.pattern c.args.start a.waits n refl (omega arith) c.requires.all c.requires.cursor);
      ready = c.requires.ready;
    }

pub returns-in_err-part-clause-cut : goal.returns-in_err-part-clause-cut
returns-in_err-part-clause-cut g c =
    let text = c.args.text.now in
    let a = c.args.trail.now in
    let n = c.args.left.now in
    let whole = outcome text (Meet (pattern_of c.args.pattern.value) ∷ a.goals) c.args.start (waiting_of text a.waits) n in
    let k = c.loop-node in
    err_holds _ (since_cut g.H.MatchHost.tells g.H.MatchHost.broken text c.args.host.now a.opens whole n k.host (MeetNow k.node k.from) k.trail k.left
    k.invariant.on)

pub returns-in_err-turn-in-Defer-clause-cut : goal.returns-in_err-turn-in-Defer-clause-cut
returns-in_err-turn-in-Defer-clause-cut g c =
    let text = c.args.text.now in
    let a = c.args.trail.now in
    let n = c.args.left.now in
    let whole = outcome text (Meet (pattern_of c.args.pattern.value) ∷ a.goals) c.args.start (waiting_of text a.waits) n in
    let k = c.loop-node in
    let now = c.descend.new.trail in
    let m = c.descend.new.left in
    let w = waiting_of text now.waits in
    let p = pattern_met c.in-Some.part in
    let i = (rw c.in-Some.is at c.in_ok-part.ensures).0 in
    err_holds _ (since_breaks g.H.MatchHost.tells g.H.MatchHost.broken text c.args.host.now a.opens whole n k.host (MeetNow k.node k.from) k.trail k.left
    k.invariant.on i (looking text c.in-Defer.variable.now now.goals c.in-Some.at w m)
    (defer_asks text p c.in-Defer.variable.now now.goals c.in-Some.at w m (ap pattern_met c.in-Defer.is))
    c.looked.new.host c.in_err-turn-in-Defer.ensures.cut)

pub loop-node-smaller : goal.loop-node-smaller
loop-node-smaller g c =
    let k = c.loop-node in
    let f = c.in_ok-turn-in-Defer.ensures.moved.fewer in
    let e = (rw c.in-Some.is at c.in_ok-part.ensures).0.fewer in
    omega arith

pub loop-node-preserved : goal.loop-node-preserved
loop-node-preserved g c =
    let text = c.args.text.now in
    let a = c.args.trail.now in
    let n = c.args.left.now in
    let whole = outcome text (Meet (pattern_of c.args.pattern.value) ∷ a.goals) c.args.start (waiting_of text a.waits) n in
    let k = c.loop-node in
    let now = c.descend.new.trail in
    let m = c.descend.new.left in
    let w = waiting_of text now.waits in
    let p = pattern_met c.in-Some.part in
    let i = (rw c.in-Some.is at c.in_ok-part.ensures).0 in
    record {
      on = since_part g.H.MatchHost.tells g.H.MatchHost.broken text c.args.host.now a.opens whole n k.host (MeetNow k.node k.from) k.trail k.left
          k.invariant.on i (looking text c.in-Defer.variable.now now.goals c.in-Some.at w m)
          (defer_asks text p c.in-Defer.variable.now now.goals c.in-Some.at w m (ap pattern_met c.in-Defer.is))
          (rw c.in-Meet.is at c.in_ok-turn-in-Defer.ensures.moved);
      ready = c.looked.ensures.ready;
    }

pub returns-in_default-2 : goal.returns-in_default-2
returns-in_default-2 g c =
    let text = c.args.text.now in
    let a = c.args.trail.now in
    let n = c.args.left.now in
    let whole = outcome text (Meet (pattern_of c.args.pattern.value) ∷ a.goals) c.args.start (waiting_of text a.waits) n in
    let k = c.loop-node in
    let now = c.descend.new.trail in
    let m = c.descend.new.left in
    let w = waiting_of text now.waits in
    let p = pattern_met c.in-Some.part in
    let i = (rw c.in-Some.is at c.in_ok-part.ensures).0 in
    record {
      moved = since_part g.H.MatchHost.tells g.H.MatchHost.broken text c.args.host.now a.opens whole n k.host (MeetNow k.node k.from) k.trail k.left
          k.invariant.on i (looking text c.in-Defer.variable.now now.goals c.in-Some.at w m)
          (defer_asks text p c.in-Defer.variable.now now.goals c.in-Some.at w m (ap pattern_met c.in-Defer.is))
          c.in_ok-turn-in-Defer.ensures.moved;
      falls = (let f = c.in_ok-turn-in-Defer.ensures.moved.fewer in let e = i.fewer in let l = k.invariant.on.fewer in let r = rank_most c.in_ok-turn-in-Defer.turn c.looked.new.left in
          omega arith);
      cut = tt;
      ready = c.looked.ensures.ready;
    }

pub returns-in_err-assign_cursor-in-Cursor-clause-cut : goal.returns-in_err-assign_cursor-in-Cursor-clause-cut
returns-in_err-assign_cursor-in-Cursor-clause-cut g c =
    let text = c.args.text.now in
    let a = c.args.trail.now in
    let n = c.args.left.now in
    let whole = outcome text (Meet (pattern_of c.args.pattern.value) ∷ a.goals) c.args.start (waiting_of text a.waits) n in
    let k = c.loop-node in
    let now = c.descend.new.trail in
    let m = c.descend.new.left in
    let w = waiting_of text now.waits in
    let p = pattern_met c.in-Some.part in
    let i = (rw c.in-Some.is at c.in_ok-part.ensures).0 in
    err_holds _ (since_breaks g.H.MatchHost.tells g.H.MatchHost.broken text c.args.host.now a.opens whole n k.host (MeetNow k.node k.from) k.trail k.left
    k.invariant.on i (assigning text c.in-Cursor.variable.now (Cursor c.in-Some.at) now.goals c.in-Some.at w m)
    (cursor_asks text p c.in-Cursor.variable.now now.goals c.in-Some.at w m (ap pattern_met c.in-Cursor.is))
    c.assign_cursor.new.host c.in_err-assign_cursor-in-Cursor.ensures.cut)

pub returns-in-Cursor-clause-moved : goal.returns-in-Cursor-clause-moved
returns-in-Cursor-clause-moved g c =
    let text = c.args.text.now in
    let a = c.args.trail.now in
    let n = c.args.left.now in
    let whole = outcome text (Meet (pattern_of c.args.pattern.value) ∷ a.goals) c.args.start (waiting_of text a.waits) n in
    let k = c.loop-node in
    let now = c.descend.new.trail in
    let m = c.descend.new.left in
    let w = waiting_of text now.waits in
    let p = pattern_met c.in-Some.part in
    let i = (rw c.in-Some.is at c.in_ok-part.ensures).0 in
    since_part g.H.MatchHost.tells g.H.MatchHost.broken text c.args.host.now a.opens whole n k.host (MeetNow k.node k.from) k.trail k.left
    k.invariant.on i (assigning text c.in-Cursor.variable.now (Cursor c.in-Some.at) now.goals c.in-Some.at w m)
    (cursor_asks text p c.in-Cursor.variable.now now.goals c.in-Some.at w m (ap pattern_met c.in-Cursor.is))
    c.in_ok-assign_cursor-in-Cursor.ensures.moved

pub returns-in-Cursor-clause-falls : goal.returns-in-Cursor-clause-falls
returns-in-Cursor-clause-falls g c =
    let k = c.loop-node in
    let f = c.in_ok-assign_cursor-in-Cursor.ensures.moved.fewer in
    let e = (rw c.in-Some.is at c.in_ok-part.ensures).0.fewer in
    let l = k.invariant.on.fewer in
    let r = rank_most c.in_ok-assign_cursor-in-Cursor.field-0 c.assign_cursor.new.left in
    omega arith

pub returns-in_err-plain-in-Plain-clause-cut : goal.returns-in_err-plain-in-Plain-clause-cut
returns-in_err-plain-in-Plain-clause-cut g c =
    let text = c.args.text.now in
    let a = c.args.trail.now in
    let n = c.args.left.now in
    let whole = outcome text (Meet (pattern_of c.args.pattern.value) ∷ a.goals) c.args.start (waiting_of text a.waits) n in
    let k = c.loop-node in
    err_holds _ (since_cut g.H.MatchHost.tells g.H.MatchHost.broken text c.args.host.now a.opens whole n k.host (MeetNow k.node k.from) k.trail k.left
    k.invariant.on)

pub returns-in-Plain-clause-moved : goal.returns-in-Plain-clause-moved
returns-in-Plain-clause-moved g c =
    let text = c.args.text.now in
    let a = c.args.trail.now in
    let n = c.args.left.now in
    let whole = outcome text (Meet (pattern_of c.args.pattern.value) ∷ a.goals) c.args.start (waiting_of text a.waits) n in
    let k = c.loop-node in
    let now = c.descend.new.trail in
    let m = c.descend.new.left in
    let w = waiting_of text now.waits in
    let p = pattern_met c.in-Some.part in
    let i = (rw c.in-Some.is at c.in_ok-part.ensures).0 in
    since_part g.H.MatchHost.tells g.H.MatchHost.broken text c.args.host.now a.opens whole n k.host (MeetNow k.node k.from) k.trail k.left
    k.invariant.on i (row text (outcome text) (Meet (pattern_of c.in-Plain.node.now.value)) now.goals c.in-Some.at w m)
    (ap (λ q. row text (outcome text) (Meet q) now.goals c.in-Some.at w m) (ap pattern_met c.in-Plain.is))
    (quietly g.H.MatchHost.tells g.H.MatchHost.broken text k.host now.opens _ m c.in_ok-plain-in-Plain.ensures)

pub returns-in-Plain-clause-falls : goal.returns-in-Plain-clause-falls
returns-in-Plain-clause-falls g c =
    let k = c.loop-node in
    let f = c.in_ok-plain-in-Plain.ensures.fewer in
    let e = (rw c.in-Some.is at c.in_ok-part.ensures).0.fewer in
    let l = k.invariant.on.fewer in
    let r = rank_most c.in_ok-plain-in-Plain.field-0 c.plain.new.left in
    omega arith

pub returns-clause-moved : goal.returns-clause-moved
returns-clause-moved g c =
    let text = c.args.text.now in
    let a = c.args.trail.now in
    let n = c.args.left.now in
    let whole = outcome text (Meet (pattern_of c.args.pattern.value) ∷ a.goals) c.args.start (waiting_of text a.waits) n in
    let k = c.loop-node in
    since_turn g.H.MatchHost.tells g.H.MatchHost.broken text c.args.host.now a.opens whole n k.host (MeetNow k.node k.from) k.trail k.left
    k.invariant.on
    (quietly g.H.MatchHost.tells g.H.MatchHost.broken text k.host k.trail.opens _ k.left (rw c.in_default.is at c.in_ok-part.ensures))

pub returns-clause-falls : goal.returns-clause-falls
returns-clause-falls g c =
    let k = c.loop-node in
    let f = (rw c.in_default.is at c.in_ok-part.ensures).fewer in
    let l = k.invariant.on.fewer in
    omega arith
