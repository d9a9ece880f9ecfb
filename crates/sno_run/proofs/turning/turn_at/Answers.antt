use Rattle.std.proofs.Common.{sym}
use Rattle.interaction.specs.Counting.{StopsIn}
use Rattle.sno_bytecode.specs.inner.Seen.{point_seen, next_seen}
use Rattle.sno_run.specs.inner.Turning.{turned_of, HasLine, turn_coded}
use Rattle.sno_run.proofs.{Stepping.{at_err}, Standing.{has_line, turn_held, turn_cut, behind_held}}
use Rattle.sno_state.specs.inner.Counting.{beside}
use Rattle.sno_run.proofs.turning.turn_at.Goals as goal

pub returns-in_err-next-in-Some-clause-cut : goal.returns-in_err-next-in-Some-clause-cut
returns-in_err-next-in-Some-clause-cut g c =
    at_err _ (StopsIn g.S.Service.answers (turn_coded c.args.program.now (point_seen c.args.point) c.args.state.now) (beside c.args.service.now c.args.state.now) (beside c.run_line.new.service c.run_line.new.state)) (rw c.in-At.is (turn_cut c.args.program.now g.S.Service.answers c.in-At.index c.in-Some.line.now c.args.state.now (sym c.in-Some.ensures.line) (beside c.args.service.now c.args.state.now) (beside c.run_line.new.service c.run_line.new.state) c.in_err-next-in-Some.ensures.runs))

pub returns-in_ok-next-in-Some-clause-held : goal.returns-in_ok-next-in-Some-clause-held
returns-in_ok-next-in-Some-clause-held g c =
    rw c.in-At.is
    (turn_held c.args.program.now g.S.Service.answers c.in-At.index c.in-Some.line.now c.args.state.now (sym c.in-Some.ensures.line) (next_seen c.in_ok-next-in-Some.next) c.run_line.new.state (beside c.args.service.now c.args.state.now) (beside c.run_line.new.service c.run_line.new.state)
    (turned_of c.settled.result) c.in_ok-next-in-Some.ensures.runs c.settled.ensures)

pub returns-in-None-clause-held : goal.returns-in-None-clause-held
returns-in-None-clause-held g c =
    rw c.in-At.is (behind_held c.args.program.now g.S.Service.answers c.in-At.index c.args.state.now (beside c.args.service.now c.args.state.now) (sym c.in-None.ensures.line))

pub returns-in_err-next-in-Some-clause-line : goal.returns-in_err-next-in-Some-clause-line
returns-in_err-next-in-Some-clause-line g c =
    at_err _ (HasLine c.args.program.now (point_seen c.args.point)) (rw c.in-At.is (has_line c.args.program.now c.in-At.index c.in-Some.line.now (sym c.in-Some.ensures.line)))
