use Rattle.audit.proofs.Keeping.{kept_after, kept_new}
use Rattle.audit.proofs.audited_service.ask_heeded.Goals as goal

pub returns-in-Some-clause-kept : goal.returns-in-Some-clause-kept
returns-in-Some-clause-kept g c =
    kept_after c.args.kept.now.number c.args.service.now c.ask.new.self c.args.request.now c.in_ok-answer.answer c.args.kept.now c.in_ok-answer.ensures.answered c.requires.kept

pub returns-clause-kept : goal.returns-clause-kept
returns-clause-kept g c =
    kept_new c.args.kept.now.number c.keep.new.self.number c.args.service.now c.ask-2.new.self c.args.request.now c.in_ok-answer-2.answer c.asked_by-asked.result c.args.kept.now c.keep.new.self
    c.in_ok-answer-2.ensures.answered c.requires.kept c.asked_by-asked.ensures c.keep.ensures.kept c.keep.ensures.number
