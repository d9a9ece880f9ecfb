use Rattle.std.proofs.Common.{rules}
use Rattle.sno_pattern.specs.Steps.{match_of}
use Rattle.sno_state.proofs.Loans.{held_loans, cut_loans, held_service, cut_service}
use Rattle.sno_state.proofs.matching.match_in.Goals as goal

pub returns-in-Ok-clause-runs : goal.returns-in-Ok-clause-runs
returns-in-Ok-clause-runs g c =
    let m = match_of c.args.text.now c.args.pattern.now c.args.anchored c.args.steps in
    let same = held_loans g.S.Service.answers m _ _ _ c.in-Ok.ensures.held in
    let whole = held_service g.S.Service.answers m _ _ _ c.in-Ok.ensures.held in
    search rules

pub returns-in-Ok-clause-ready : goal.returns-in-Ok-clause-ready
returns-in-Ok-clause-ready g c =
    let m = match_of c.args.text.now c.args.pattern.now c.args.anchored c.args.steps in
    let same = held_loans g.S.Service.answers m _ _ _ c.in-Ok.ensures.held in
    search rules

pub returns-in-Err-clause-runs : goal.returns-in-Err-clause-runs
returns-in-Err-clause-runs g c =
    let m = match_of c.args.text.now c.args.pattern.now c.args.anchored c.args.steps in
    let same = cut_loans g.S.Service.answers m _ _ c.in-Err.ensures.cut in
    let whole = cut_service g.S.Service.answers m _ _ c.in-Err.ensures.cut in
    search rules

pub returns-in-Err-clause-ready : goal.returns-in-Err-clause-ready
returns-in-Err-clause-ready g c =
    let m = match_of c.args.text.now c.args.pattern.now c.args.anchored c.args.steps in
    let same = cut_loans g.S.Service.answers m _ _ c.in-Err.ensures.cut in
    search rules

pub returns-in-Ok-clause-counted : goal.returns-in-Ok-clause-counted
returns-in-Ok-clause-counted g c =
    let m = match_of c.args.text.now c.args.pattern.now c.args.anchored c.args.steps in
    let same = held_loans g.S.Service.answers m _ _ _ c.in-Ok.ensures.held in
    let counted = same.counted in
    search rules

pub returns-in-Err-clause-counted : goal.returns-in-Err-clause-counted
returns-in-Err-clause-counted g c =
    let m = match_of c.args.text.now c.args.pattern.now c.args.anchored c.args.steps in
    let same = cut_loans g.S.Service.answers m _ _ c.in-Err.ensures.cut in
    let counted = same.counted in
    search rules
