use Rattle.interaction.{proofs.Held.{cut_here}, specs.Fitting.{Fits}, proofs.Runs.{broken}}
use Rattle.sno_state.specs.Using.{assigned}
use Rattle.sno_state.proofs.host.assign_variable.Goals as goal

pub returns-in_err-copy-clause-runs : goal.returns-in_err-copy-clause-runs
returns-in_err-copy-clause-runs g c =
    let t = assigned c.args.variable.now c.args.value c.args.state.now in
    broken g.S.Service.answers t c.args.service.now c.from_residual.result _ c.args.service.now c.from_residual.ensures.0
    (cut_here g.S.Service.answers Fits (λ _ _ _. ⊥) t c.args.service.now)
