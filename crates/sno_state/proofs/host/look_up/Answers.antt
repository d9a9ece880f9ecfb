use Rattle.sno_pattern.specs.Looks.{LookUp}
use Rattle.sno_state.{specs.Matching.{looked_at}, proofs.Looking.{value_is, found_at_once}}
use Rattle.sno_state.proofs.host.look_up.Goals as goal

pub returns-in-Plain-clause-told : goal.returns-in-Plain-clause-told
returns-in-Plain-clause-told g c =
    let v = c.args.name.now in
    let s = c.args.state.now in
    found_at_once g.S.Service.answers s c.args.service.now (LookUp v) (looked_at c.in-Plain.value.now)
    (value_is v s c.in-Plain.value.now c.in-Plain.ensures) c.looked_at.result c.looked_at.ensures
