use Rattle.std.proofs.Common.{◌≡◌, ◌++◌, ℕ, List, [], subst, arith}
use Rattle.std.proofs.lemmas.Result.{err_from_is_err_and}
use Rattle.deck_syntax.specs.Decks.{Refused}
use Rattle.deck_run.specs.Runs.{deck_ending}
use Rattle.rounds.{specs.Serving.{Stands, StopsWithin}, proofs.Stopping.{stops_within, stops_at_once}, proofs.Standing.{head_stands, refused_there, passed_up}}
use Rattle.rounds.proofs.running.begin.Goals as goal

pub serve-requires : goal.serve-requires
serve-requires g c = record {
  few = (let same = c.deref.ensures.value in let short = c.requires in rw same (omega (arith, (c.in_ok-running.ensures (g.A.Sink.standing c.args.audit.now)).fed, short)));
  empty = (c.in_ok-running.ensures (g.A.Sink.standing c.args.audit.now)).empty;
}

pub returns-in_err-serve-clause-refused : goal.returns-in_err-serve-clause-refused
returns-in_err-serve-clause-refused g c = λ n code same bytes.
    let answer = err_from_is_err_and c.from_residual-in_err-serve.result c.from_residual-in_err-serve.ensures.1 in
    subst (λ (head : List ℕ). deck_ending (head ++ bytes) ≡ Refused n code) c.deref.ensures.value
    (refused_there c.args.options [] [] c.in_ok-running.running c.deref.result.now bytes n code _ _ (c.in_ok-running.ensures (g.A.Sink.standing c.args.audit.now))
    (c.in_err-serve.ensures.refused n code (passed_up c.from_residual-in_err-serve.result _ answer.0 _ answer.1 answer.2 same)))

pub returns-clause-stands : goal.returns-clause-stands
returns-clause-stands g c =
    let a = g.A.Sink.standing c.args.audit.now in
    let b = g.A.Sink.standing c.serve.new.audit in
    let before = c.in_ok-running.ensures a in
    subst (λ (head : List ℕ). Stands c.args.options head [] c.serve.new.running a b) c.deref.ensures.value
    (head_stands c.args.options c.deref.result.now c.in_ok-running.running c.serve.new.running a a b before c.in_ok-serve.ensures.told c.serve.ensures.ends
    c.in_ok-serve.ensures.empty c.in_ok-serve.ensures.fed c.serve.ensures.options (c.in_ok-serve.ensures.reads_back before.back) c.in_ok-serve.ensures.settled)

pub returns-in_err-running-clause-begun : goal.returns-in_err-running-clause-begun
returns-in_err-running-clause-begun g c = stops_at_once c.args.options c.args.head.items _

pub returns-in_err-serve-clause-begun : goal.returns-in_err-serve-clause-begun
returns-in_err-serve-clause-begun g c =
    let a = g.A.Sink.standing c.args.audit.now in
    let b = g.A.Sink.standing c.serve.new.audit in
    subst (λ (head : List ℕ). StopsWithin c.args.options [] head a b) c.deref.ensures.value
    (stops_within c.args.options [] [] c.in_ok-running.running a a (c.in_ok-running.ensures a) b c.deref.result.now c.serve.ensures.begun)

pub returns-clause-begun : goal.returns-clause-begun
returns-clause-begun g c =
    let a = g.A.Sink.standing c.args.audit.now in
    let b = g.A.Sink.standing c.serve.new.audit in
    subst (λ (head : List ℕ). StopsWithin c.args.options [] head a b) c.deref.ensures.value
    (stops_within c.args.options [] [] c.in_ok-running.running a a (c.in_ok-running.ensures a) b c.deref.result.now c.serve.ensures.begun)
