use Rattle.std.proofs.Common.{◌++◌, [], ◌∷◌, List, ℕ, Err, length, refl, sym, ap, subst, ap₂, ◌∙◌, arith, length-append}
use Rattle.std.{specs.Prelude.{codes}, proofs.lemmas.Result.{err_from_is_err_and}}
use Rattle.deck_driver.specs.Abstraction.{Took}
use Rattle.rounds.specs.{Compositions.{fence}, Serving.{IsBad, BeginsTelling}}
use Rattle.rounds.proofs.{Served.{took_both, bad_first, bad_then}, Standing.{goes_further}, Stopping.{telling_first, telling_then}}
use Rattle.rounds.proofs.running.serve_text.Goals as goal

pub returns-in_err-serve-clause-refused : goal.returns-in_err-serve-clause-refused
returns-in_err-serve-clause-refused g c = λ n code same.
    let answer = err_from_is_err_and c.from_residual.result c.from_residual.ensures.1 in
    let bad = c.in_err-serve.ensures.refused n code (sym (answer.1 ∙ ap Err answer.2) ∙ same) in
    subst (λ (piece : List ℕ). IsBad n code c.args.running.now.output.items c.args.running.now.feed (piece ++ fence)) c.deref.ensures.value
    (bad_first c.args.running.now.output.items c.args.running.now.feed c.deref.result.now fence n code bad)

pub returns-in_err-serve-2-clause-refused : goal.returns-in_err-serve-2-clause-refused
returns-in_err-serve-2-clause-refused g c = λ n code same.
    let answer = err_from_is_err_and c.from_residual-in_err-serve-2.result c.from_residual-in_err-serve-2.ensures.1 in
    let bad = c.in_err-serve-2.ensures.refused n code (sym (answer.1 ∙ ap Err answer.2) ∙ same) in
    subst (λ (piece : List ℕ). IsBad n code c.args.running.now.output.items c.args.running.now.feed (piece ++ fence)) c.deref.ensures.value
    (bad_then c.args.running.now.output.items c.serve.new.running.output.items c.args.running.now.feed c.serve.new.running.feed c.deref.result.now fence n code _ _ c.in_ok-serve.ensures.told bad)

pub returns-in-Ok-clause-stands : goal.returns-in-Ok-clause-stands
returns-in-Ok-clause-stands g c = λ options head done a s.
    let first = c.serve.new.running in
    let second = c.serve-2.new.running in
    let b = g.A.Sink.standing c.args.audit.now in
    let d = g.A.Sink.standing c.serve-2.new.audit in
    let both =
    took_both c.args.running.now.output.items first.output.items second.output.items c.args.running.now.feed first.feed second.feed c.deref.result.now fence b
    (g.A.Sink.standing c.serve.new.audit) d c.in_ok-serve.ensures.told c.in_ok-serve-2.ensures.told in
    let took = subst (λ (piece : List ℕ). Took c.args.running.now.output.items c.args.running.now.feed (piece ++ fence) second.output.items second.feed b d) c.deref.ensures.value both in
    goes_further options head done c.args.text.now c.args.running.now _ a b d s took (c.in_ok-serve-2.ensures.settled (codes "$DRAIN", refl))
    (c.in-Ok.ensures.items
    ∙ ap₂ (λ (ends : List ℕ) (long : ℕ). ends ++ long ∷ []) (c.serve-2.ensures.ends ∙ c.serve.ensures.ends) (c.len.ensures ∙ second.output.ok.0))
    c.in_ok-serve-2.ensures.empty
    (omega (arith, c.in_ok-serve.ensures.fed, c.in_ok-serve-2.ensures.fed, ap length c.deref.ensures.value, length-append c.args.text.now.text.items fence))
    (c.serve-2.ensures.options ∙ c.serve.ensures.options)
    (c.in_ok-serve-2.ensures.reads_back (c.in_ok-serve.ensures.reads_back s.back))

pub returns-in_err-serve-clause-begun : goal.returns-in_err-serve-clause-begun
returns-in_err-serve-clause-begun g c =
    let f = c.args.running.now.feed in
    let a = g.A.Sink.standing c.args.audit.now in
    let b = g.A.Sink.standing c.serve.new.audit in
    subst (λ (piece : List ℕ). BeginsTelling f (piece ++ fence) a b) c.deref.ensures.value (telling_first f c.deref.result.now fence a b c.serve.ensures.begun)

pub returns-in_err-serve-2-clause-begun : goal.returns-in_err-serve-2-clause-begun
returns-in_err-serve-2-clause-begun g c =
    let f = c.args.running.now.feed in
    let a = g.A.Sink.standing c.args.audit.now in
    let d = g.A.Sink.standing c.serve-2.new.audit in
    subst (λ (piece : List ℕ). BeginsTelling f (piece ++ fence) a d) c.deref.ensures.value
    (telling_then _ _ f c.serve.new.running.feed c.deref.result.now fence a _ d c.in_ok-serve.ensures.told c.serve-2.ensures.begun)

pub returns-in-Ok-clause-begun : goal.returns-in-Ok-clause-begun
returns-in-Ok-clause-begun g c =
    let f = c.args.running.now.feed in
    let a = g.A.Sink.standing c.args.audit.now in
    let d = g.A.Sink.standing c.serve-2.new.audit in
    subst (λ (piece : List ℕ). BeginsTelling f (piece ++ fence) a d) c.deref.ensures.value
    (telling_then _ _ f c.serve.new.running.feed c.deref.result.now fence a _ d c.in_ok-serve.ensures.told c.serve-2.ensures.begun)

pub returns-in-Err-clause-begun : goal.returns-in-Err-clause-begun
returns-in-Err-clause-begun g c =
    let f = c.args.running.now.feed in
    let a = g.A.Sink.standing c.args.audit.now in
    let d = g.A.Sink.standing c.serve-2.new.audit in
    subst (λ (piece : List ℕ). BeginsTelling f (piece ++ fence) a d) c.deref.ensures.value
    (telling_then _ _ f c.serve.new.running.feed c.deref.result.now fence a _ d c.in_ok-serve.ensures.told c.serve-2.ensures.begun)
