use Rattle.std.proofs.Common.{sym, ◌∙◌}
use Rattle.scheduler.proofs.{Common.{statements_of}, Carding.{stops_at, none_stops}, Shorthand.{data_of}}
use Rattle.scheduler.proofs.loading.ties_refused.Goals as goal

pub returns-in-Some : goal.returns-in-Some
returns-in-Some c lines =
    let some = sym c.tie_refused.ensures.refusal ∙ c.in-Some.is in
    stops_at c.args.cards.now (data_of lines (statements_of lines)) c.loop-card.card-index c.card-item.result c.loop-card.tied c.in-Some.refusal c.loop-card.invariant.refusal
    c.loop-card-test.true (sym c.card-item.is) some

pub returns : goal.returns
returns c lines = none_stops c.args.cards.now (data_of lines (statements_of lines)) c.loop-card.card-index c.loop-card.tied c.loop-card.invariant.refusal c.loop-card-test.false
