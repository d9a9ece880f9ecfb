use Rattle.std.proofs.Common.{◌≡◌, ◌∙◌, sym}
use Rattle.deck_syntax.specs.Decks.{Ending, Stopped, Refused}
use Rattle.rounds.proofs.{GoingOn.{good_ends}, Standing.{is_served}}
use Rattle.rounds.proofs.running.run_round.Goals as goal

pub returns-in-Ok-clause-served : goal.returns-in-Ok-clause-served
returns-in-Ok-clause-served g c =
    let ended = c.in-Ok.ensures.ended in (
      ended.0,
      is_served c.each_its_part.ensures c.args.options ended.0 c.args.head.items c.args.texts.now c.in-Ok.round (g.A.Sink.standing c.args.audit.now)
          (g.A.Sink.standing c.serve_round.new.audit) (g.A.Sink.standing c.tell_end.new.audit) ended.1 c.tell_end.ensures,
    )

pub returns-in-Err-clause-refused : goal.returns-in-Err-clause-refused
returns-in-Err-clause-refused g c = λ n code same. c.serve_round.ensures.refused n code (c.in-Err.is ∙ same)

pub returns-in-Err-clause-never : goal.returns-in-Err-clause-never
returns-in-Err-clause-never g c = λ table accounts sets handed good n code same.
    let good_one = good_ends c.never_refused.ensures c.args.head.items c.args.texts.now table accounts sets handed good in
    let wrong : ◌≡◌ {A = Ending} Stopped (Refused n code) = sym good_one ∙ c.serve_round.ensures.refused n code (c.in-Err.is ∙ same) in cc

pub returns-in-Err-clause-memory : goal.returns-in-Err-clause-memory
returns-in-Err-clause-memory g c = λ k same. c.serve_round.ensures.memory k (c.in-Err.is ∙ same)
