use Rattle.std.proofs.Common.{ℕ, List, [], ◌++◌, sym, subst}
use Rattle.deck_driver.specs.Abstraction.{Took}
use Rattle.rounds.proofs.{Served.{took_behind, took_flushed}, Stopping.{telling_of, telling_flushed}}
use Rattle.rounds.proofs.running.serve.Goals as goal

pub returns-in-Ok-clause-told : goal.returns-in-Ok-clause-told
returns-in-Ok-clause-told g c =
    let r = c.args.running.now in
    let piece = c.args.piece.now in
    let out = c.feed.new.out in
    let a = g.A.Sink.standing c.args.audit.now in
    let b = g.A.Sink.standing c.feed.new.audit in
    let took : Took [] r.feed piece out c.feed.new.self a b = subst (λ (t : List ℕ). Took t r.feed piece out c.feed.new.self a b) c.requires.empty c.in_ok-feed.ensures.told in
    subst (λ (t : List ℕ). Took r.output.items r.feed piece t c.feed.new.self a (g.A.Sink.standing c.flush.new.self)) (sym c.in_ok-move_out.ensures.moved)
    (took_flushed r.output.items (r.output.items ++ out) r.feed c.feed.new.self piece a b _ (took_behind r.output.items out r.feed c.feed.new.self piece a b took) c.flush.ensures.puts)

pub returns-in_err-feed-clause-begun : goal.returns-in_err-feed-clause-begun
returns-in_err-feed-clause-begun g c = telling_of _ _ c.args.running.now.feed c.args.piece.now _ _ c.feed.ensures.begun

pub returns-in_err-move_out-clause-begun : goal.returns-in_err-move_out-clause-begun
returns-in_err-move_out-clause-begun g c = telling_of _ _ c.args.running.now.feed c.args.piece.now _ _ c.feed.ensures.begun

pub returns-in-Ok-clause-begun : goal.returns-in-Ok-clause-begun
returns-in-Ok-clause-begun g c = telling_flushed c.args.running.now.feed c.args.piece.now _ _ _ (telling_of _ _ c.args.running.now.feed c.args.piece.now _ _ c.feed.ensures.begun) c.flush.ensures.puts

pub returns-in-Err-clause-begun : goal.returns-in-Err-clause-begun
returns-in-Err-clause-begun g c = telling_flushed c.args.running.now.feed c.args.piece.now _ _ _ (telling_of _ _ c.args.running.now.feed c.args.piece.now _ _ c.feed.ensures.begun) c.flush.ensures.puts
