use Rattle.std.proofs.Common.{◌-◌, ◌≤◌, length, drop}
use Rattle.interaction.specs.Asking.{RunsTo, StopsIn}
use Rattle.sno_semantics.specs.declared.got.Evaluated.{Evaluated}
use Rattle.sno_declarations.specs.Formats.{records}
use Rattle.sno_state.specs.Using.{write_all}
use Rattle.sno_state.proofs.using.write_records.Given as goal

-- whatever follows for the records that are left follows for all
abbrev pub invariant-loop-from : goal.invariant-loop-from
invariant-loop-from g l =
    let answers = g.S.Service.answers in
    record {
      within : l.from ≤ length l.text;
      held : (got : Evaluated) (t : g.row.S.Denot) → RunsTo answers (write_all l.output.unit (records l.output.format (drop l.from l.text)) l.state) l.service (got, l.state) t
          → RunsTo answers (write_all l.output.unit (records l.output.format l.text) l.state) l.fn.service (got, l.state) t;
      cut : (t : g.row.S.Denot) → StopsIn answers (write_all l.output.unit (records l.output.format (drop l.from l.text)) l.state) l.service t
          → StopsIn answers (write_all l.output.unit (records l.output.format l.text) l.state) l.fn.service t;
      ready : g.S.Service.ready l.service;
    }

abbrev pub decreases-loop-from : goal.decreases-loop-from
decreases-loop-from g l = length l.text - l.from
