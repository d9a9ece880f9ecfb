use Rattle.ledger_boxes.{specs.Admission.{seen_decision}, proofs.Deciding.{each_ok, its_text, by_submission, by_refusal}}
use Rattle.ledger_boxes.proofs.admission.decide_text.Goals as goal

pub decide_submission-requires : goal.decide_submission-requires
decide_submission-requires c =
    let fine = c.in-Ok.ensures.admitted in
    its_text c.args.owner.now c.args.name.now c.args.bytes.now c.in-Ok.submission fine.0 fine.1 c.in-Ok.ensures.account c.in-Ok.ensures.lines

pub returns-in-Ok : goal.returns-in-Ok
returns-in-Ok c =
    let fine = c.in-Ok.ensures.admitted in
    each_ok c.decide_submission.result (λ made is.
    by_submission c.args.owner.now c.args.name.now c.args.bytes.now c.in-Ok.submission fine.0 fine.1 c.in-Ok.ensures.account c.in-Ok.ensures.lines (seen_decision made) is)
    c.decide_submission.ensures

pub returns-in-Err-Refused : goal.returns-in-Err-Refused
returns-in-Err-Refused c =
    each_ok c.refused.result (λ made is.
    by_refusal c.args.owner.now c.args.name.now c.args.bytes.now c.in-Err-Refused.refusal (seen_decision made)
    (rw c.in-Err-Refused.field-0-is at c.in-Err-Refused.ensures.refused) is)
    c.refused.ensures
