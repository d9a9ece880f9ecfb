use Rattle.std.proofs.Common.{subst}
use Rattle.interaction.{specs.Interactions.{Returns}, proofs.Held.{cut_first}, specs.Asking.{StopsIn}, specs.Fitting.{Fits}}
use Rattle.sno_value.specs.declared.value.Value.{Value}
use Rattle.sno_pattern.specs.Looks.{Given}
use Rattle.sno_state.specs.{Using.{assigned}, Matching.{value_taken, told_by}}
use Rattle.sno_state.proofs.host.assign.Goals as goal

pub returns-clause-told : goal.returns-clause-told
returns-clause-told g c =
    let name = c.args.variable.now in
    let cut = subst (λ (v : Value). StopsIn g.S.Service.answers (assigned name v c.args.state.now) c.args.service.now c.assign_variable.new.service)
    c.value_taken.ensures c.in-Err.ensures.runs in
    cut_first g.S.Service.answers Fits (λ _ _ _. ⊥) (assigned name (value_taken c.args.taken) c.args.state.now)
    (λ got. Returns (told_by (λ _. Given) got.0, got.1)) c.args.service.now c.assign_variable.new.service cut
