use Rattle.std.proofs.Common.{arith, [], inl, append-nil, refl, true≢false, sym, ap, subst, ◌∙◌, ◌+◌, ◌≡◌, ◌≤◌, ◌<◌, Err, List, ℕ, length, drop}
use Rattle.std.proofs.lemmas.{List.{take_rest, length-drop}, Result.{err_from_is_err_and}}
use Rattle.mon_text.proofs.Cutting.{nothing_kept}
use Rattle.deck_driver.specs.{Feeds.{is_reading}, inner.Pieces.{LeavesNothing}}
use Rattle.deck_driver.proofs.{Beginnings.{begins_further}, LineEnds.{line_taken, none_left}}
use Rattle.deck_driver.proofs.Pieces.{took_none, took_more, took_all, begun_so_far, begun_more, took_answer, took_stopped}
use Rattle.deck_driver.proofs.feed.DeckFeed.feed.Goals as goal

pub returns-in-Stopped-clause-told : goal.returns-in-Stopped-clause-told
returns-in-Stopped-clause-told g c = took_stopped c.args.out.now c.args.self.now _ c.args.piece.now c.in-Stopped.field-0 _ c.in-Stopped.is refl refl

pub returns-in_err-used-clause-appends : goal.returns-in_err-used-clause-appends
returns-in_err-used-clause-appends g c = begins_further c.args.out.now c.lines.out c.feed_line.new.out c.lines.invariant.appends c.feed_line.ensures.appends

pub returns-in_err-used-clause-begun : goal.returns-in_err-used-clause-begun
returns-in_err-used-clause-begun g c =
    begun_more c.args.out.now c.args.self.now c.args.piece.now c.lines.out c.lines.self c.lines.rest.now _ _ c.lines.invariant.told c.feed_line.new.out _ c.feed_line.ensures.begun

pub returns-in_err-used-clause-told : goal.returns-in_err-used-clause-told
returns-in_err-used-clause-told g c =
    let answer = err_from_is_err_and c.from_residual.result c.from_residual.ensures.1 in
    took_answer c.args.out.now c.args.self.now c.args.piece.now c.lines.out c.lines.self c.lines.rest.now _ _ c.lines.invariant.told c.feed_line.new.out c.feed_line.new.self _
    c.from_residual.result c.in_err-used.field-0.0 (answer.1 ∙ ap Err answer.2) c.in_err-used.ensures.refused c.in_err-used.ensures.silent

pub returns-clause-told : goal.returns-clause-told
returns-clause-told g c =
    took_all c.args.out.now c.args.self.now c.args.piece.now c.lines.out c.lines.self c.lines.rest.now _ _ c.lines.invariant.told (nothing_kept c.lines.rest.now (sym c.is_empty.ensures ∙ c.lines-test.false))

pub returns-clause-ended : goal.returns-clause-ended
returns-clause-ended g c = λ ends. none_left c.lines.rest.now c.lines.self (nothing_kept c.lines.rest.now (sym c.is_empty.ensures ∙ c.lines-test.false)) (c.lines.invariant.ended ends)

pub returns-in-Stopped-clause-ended : goal.returns-in-Stopped-clause-ended
returns-in-Stopped-clause-ended g c = λ ends reading. absurd (true≢false (sym reading ∙ ap is_reading c.in-Stopped.is))

pub returns-clause-begun : goal.returns-clause-begun
returns-clause-begun g c = begun_so_far c.args.out.now c.args.self.now c.args.piece.now c.lines.out c.lines.self c.lines.rest.now _ _ c.lines.invariant.told

pub lines-preserved : goal.lines-preserved
lines-preserved g c =
    let rest = c.lines.rest.now in
    let used = c.in_ok-used.used in
    let feed = c.feed_line.new.self in
    let there : feed.fed + length (drop used rest) ≡ c.args.self.now.fed + length c.args.piece.now =
    omega (arith, c.in_ok-used.ensures.used.1, c.in_ok-used.ensures.used.2, length-drop used rest, c.lines.invariant.fed) in
    let some : 0 < length rest = omega (arith, c.in_ok-used.ensures.used.0, c.in_ok-used.ensures.used.1) in
    let less : length (drop used rest) ≤ length c.args.piece.now = omega (arith, length-drop used rest, c.lines.invariant.within) in
    record {
      told =
          rw (c.let_go.ensures)
          (took_more c.args.out.now c.args.self.now c.args.piece.now c.lines.out c.lines.self rest _ _ c.lines.invariant.told
          c.feed_line.new.out feed used _ _ (take_rest rest used) c.in_ok-used.ensures.told);
      appends = rw (c.let_go.ensures) (begins_further c.args.out.now c.lines.out c.feed_line.new.out c.lines.invariant.appends c.feed_line.ensures.appends);
      fed = ap (λ (v : List ℕ). feed.fed + length v) (take_rest rest used) ∙ there;
      within = rw (take_rest rest used) less;
      reads_back = λ back. c.in_ok-used.ensures.reads_back (c.lines.invariant.reads_back back);
      options = c.feed_line.ensures.options ∙ c.lines.invariant.options;
      ended = λ ends.
          subst (λ (v : List ℕ). LeavesNothing v feed) (sym (take_rest rest used))
          (line_taken rest used c.lines.self feed some c.in_ok-used.ensures.kept (c.lines.invariant.ended ends));
    }

pub lines-init : goal.lines-init
lines-init g c =
    let within : length c.args.piece.now ≤ length c.args.piece.now = omega arith in
    record {
      told = took_none c.args.out.now c.args.self.now c.args.piece.now _;
      appends = ([], sym (append-nil c.args.out.now));
      fed = refl;
      within = within;
      reads_back = λ h. h;
      options = refl;
      ended = λ h. inl h;
    }
