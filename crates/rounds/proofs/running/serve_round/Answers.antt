use Rattle.std.proofs.Common.{◌∙◌, inl, inr, arith}
use Rattle.rounds.proofs.Standing.{head_within, refused_in_head, told_refused, told_memory}
use Rattle.rounds.proofs.running.serve_round.Goals as goal

pub begin-requires : goal.begin-requires
begin-requires g c = omega (arith, c.requires, head_within c.args.head.items c.args.texts.now)

pub serve_rest-requires : goal.serve_rest-requires
serve_rest-requires g c = (c.args.options, c.args.head.items, g.A.Sink.standing c.args.audit.now, c.in-Ok.ensures.stands, c.requires)

pub returns-in-Ok-clause-ended : goal.returns-in-Ok-clause-ended
returns-in-Ok-clause-ended g c = c.serve_rest.ensures.ended c.args.options c.args.head.items (g.A.Sink.standing c.args.audit.now) c.in-Ok.ensures.stands

pub returns-in-Ok-clause-refused : goal.returns-in-Ok-clause-refused
returns-in-Ok-clause-refused g c = c.serve_rest.ensures.refused c.args.options c.args.head.items (g.A.Sink.standing c.args.audit.now) c.in-Ok.ensures.stands

pub returns-in-Err-clause-refused : goal.returns-in-Err-clause-refused
returns-in-Err-clause-refused g c = λ n code same.
    refused_in_head c.args.head.items c.args.texts.now n code
    (c.begin.ensures.refused n code (c.in-Err.is ∙ told_refused c.in-Err.error c.told_of.result n code c.told_of.ensures.refused same))

pub returns-in-Err-clause-memory : goal.returns-in-Err-clause-memory
returns-in-Err-clause-memory g c = λ k same. inl (told_memory c.told_of.result k 0 c.told_of.ensures.memory same, c.begin.ensures.begun)

pub returns-in-Ok-clause-memory : goal.returns-in-Ok-clause-memory
returns-in-Ok-clause-memory g c = λ k same. inr (c.serve_rest.ensures.memory c.args.options c.args.head.items (g.A.Sink.standing c.args.audit.now) c.in-Ok.ensures.stands k same)
