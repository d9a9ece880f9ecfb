use Rattle.std.proofs.Common.{rules, inl, [], Result, Err, List, ℕ, ◌+◌, ◌≡◌, ◌∙◌, length, take, drop, ap, sym, subst, refl, arith}
use Rattle.std.proofs.lemmas.List.{take_rest, length-drop}
use Rattle.mon_text.proofs.Cutting.{nothing_kept}
use Rattle.deck_driver.specs.{declared.fault.RunError.{RunError}, declared.fault.RunError.TheVariants.{DeckRefused, Memory}, inner.Counting.{lines_ended}}
use Rattle.deck_run.proofs.Holdings.{Far, not_grown, grown_further, all_told, far_at_start, starts_far, refuses_far, further, all_taken, breaks_off, stands_flushed}
use Rattle.deck_run.{proofs.Ahead.{ahead_far, gathered_ahead}, specs.inner.Ending.{ended_by}, proofs.Counted.{one_at_most, due_further, due_behind}}
use Rattle.deck_run.proofs.run.serve.Goals as goal

pub returns-in_err-used-clause-begun : goal.returns-in_err-used-clause-begun
returns-in_err-used-clause-begun g c =
    starts_far _ (g.D.DeckDevices.written c.lines.devices) c.lines.out.printed _ c.lines.feed _ c.lines.rest.now _ _ c.lines.invariant.far
    (g.D.DeckDevices.written c.serve_line.new.devices) _ c.lines.invariant.grown c.serve_line.ensures.begun

pub returns-in_err-used-clause-ahead : goal.returns-in_err-used-clause-ahead
returns-in_err-used-clause-ahead g c = λ heeded.
    ahead_far _ (g.D.DeckDevices.written c.lines.devices) (g.D.DeckDevices.written c.serve_line.new.devices) c.lines.out.printed _ c.lines.feed _ c.lines.rest.now _ _ _ _ c.lines.invariant.far
    c.lines.invariant.grown c.serve_line.ensures.begun.audited (c.lines.invariant.ahead heeded) (c.serve_line.ensures.ahead heeded)

pub returns-in_err-used-clause-refused : goal.returns-in_err-used-clause-refused
returns-in_err-used-clause-refused g c = λ n code same.
    let so : ◌≡◌ {A = Result ℕ RunError} c.serve_line.result (Err (DeckRefused n code)) = search (rules, same) in
    refuses_far _ (g.D.DeckDevices.written c.lines.devices) c.lines.out.printed _ c.lines.feed _ c.lines.rest.now _ _ c.lines.invariant.far _ n code _ (c.serve_line.ensures.refused n code so)

pub returns-in_err-used-clause-short : goal.returns-in_err-used-clause-short
returns-in_err-used-clause-short g c = λ short.
    let so : ◌≡◌ {A = Result ℕ RunError} c.serve_line.result (Err Memory) = search (rules, short) in
    let at = c.serve_line.ensures.short so in
    breaks_off _ (g.D.DeckDevices.written c.lines.devices) c.lines.out.printed _ c.lines.feed _ c.lines.rest.now _ _ c.lines.invariant.far _
    c.args.shortage.now.line c.lines.shortage.line _ at.2 at.0 at.1 c.lines.invariant.due at.3

pub returns-in-Ok-clause-begun : goal.returns-in-Ok-clause-begun
returns-in-Ok-clause-begun g c =
    starts_far _ (g.D.DeckDevices.written c.lines.devices) c.lines.out.printed _ c.lines.feed _ c.lines.rest.now _ _ c.lines.invariant.far
    (g.D.DeckDevices.written c.flush.new.devices) _ c.lines.invariant.grown (all_told _ _ c.lines.out.printed c.lines.feed c.lines.rest.now _ _ c.flush.ensures.begun c.flush.ensures.puts)

pub returns-in-Err-Audit-clause-begun : goal.returns-in-Err-Audit-clause-begun
returns-in-Err-Audit-clause-begun g c =
    starts_far _ (g.D.DeckDevices.written c.lines.devices) c.lines.out.printed _ c.lines.feed _ c.lines.rest.now _ _ c.lines.invariant.far
    (g.D.DeckDevices.written c.flush.new.devices) _ c.lines.invariant.grown (all_told _ _ c.lines.out.printed c.lines.feed c.lines.rest.now _ _ c.flush.ensures.begun c.flush.ensures.puts)

pub returns-in-Err-Output-clause-begun : goal.returns-in-Err-Output-clause-begun
returns-in-Err-Output-clause-begun g c =
    starts_far _ (g.D.DeckDevices.written c.lines.devices) c.lines.out.printed _ c.lines.feed _ c.lines.rest.now _ _ c.lines.invariant.far
    (g.D.DeckDevices.written c.flush.new.devices) _ c.lines.invariant.grown (all_told _ _ c.lines.out.printed c.lines.feed c.lines.rest.now _ _ c.flush.ensures.begun c.flush.ensures.puts)

pub returns-in-Ok-clause-ahead : goal.returns-in-Ok-clause-ahead
returns-in-Ok-clause-ahead g c = λ heeded.
    ahead_far _ (g.D.DeckDevices.written c.lines.devices) (g.D.DeckDevices.written c.flush.new.devices) c.lines.out.printed _ c.lines.feed _ c.lines.rest.now _ _ _ _ c.lines.invariant.far
    c.lines.invariant.grown c.flush.ensures.puts (c.lines.invariant.ahead heeded)
    (gathered_ahead _ _ c.lines.out.printed c.lines.feed c.lines.rest.now _ _ [] c.flush.ensures.begun c.flush.ensures.puts (c.flush.ensures.ahead heeded))

pub returns-in-Err-Audit-clause-ahead : goal.returns-in-Err-Audit-clause-ahead
returns-in-Err-Audit-clause-ahead g c = λ heeded.
    ahead_far _ (g.D.DeckDevices.written c.lines.devices) (g.D.DeckDevices.written c.flush.new.devices) c.lines.out.printed _ c.lines.feed _ c.lines.rest.now _ _ _ _ c.lines.invariant.far
    c.lines.invariant.grown c.flush.ensures.puts (c.lines.invariant.ahead heeded)
    (gathered_ahead _ _ c.lines.out.printed c.lines.feed c.lines.rest.now _ _ [] c.flush.ensures.begun c.flush.ensures.puts (c.flush.ensures.ahead heeded))

pub returns-in-Err-Output-clause-ahead : goal.returns-in-Err-Output-clause-ahead
returns-in-Err-Output-clause-ahead g c = λ heeded.
    ahead_far _ (g.D.DeckDevices.written c.lines.devices) (g.D.DeckDevices.written c.flush.new.devices) c.lines.out.printed _ c.lines.feed _ c.lines.rest.now _ _ _ _ c.lines.invariant.far
    c.lines.invariant.grown c.flush.ensures.puts (c.lines.invariant.ahead heeded)
    (gathered_ahead _ _ c.lines.out.printed c.lines.feed c.lines.rest.now _ _ [] c.flush.ensures.begun c.flush.ensures.puts (c.flush.ensures.ahead heeded))

pub returns-in-Ok-clause-served : goal.returns-in-Ok-clause-served
returns-in-Ok-clause-served g c =
    stands_flushed _ _ [] _ _ _ _ _ _
    (all_taken _ (g.D.DeckDevices.written c.lines.devices) c.lines.out.printed _ _ _ c.lines.rest.now _ _ c.lines.invariant.far _ c.flush.new.out.printed
    (nothing_kept c.lines.rest.now (sym c.is_empty.ensures ∙ c.lines-test.false)) c.in-Ok.ensures.put c.in-Ok.ensures.empty)
    c.flush.ensures.puts

pub returns-in-Ok-clause-due : goal.returns-in-Ok-clause-due
returns-in-Ok-clause-due g c = λ reading.
    due_behind c.lines.rest.now c.args.shortage.now.line c.lines.shortage.line (lines_ended c.args.piece.now)
    (nothing_kept c.lines.rest.now (sym c.is_empty.ensures ∙ c.lines-test.false)) (c.lines.invariant.due reading)

pub lines-init : goal.lines-init
lines-init g c = record {
  far = far_at_start _ _ _ _ _ c.requires.empty c.requires.reading;
  grown = not_grown (g.D.DeckDevices.written c.args.devices.now);
  ahead = λ heeded. inl refl;
  due = λ reading. refl;
  lines = c.requires.lines;
  fed = refl;
  reads_back = λ back. back;
  options = refl;
  remaining = refl;
  reads = refl;
  read = search rules;
  write = search rules;
}

pub lines-preserved : goal.lines-preserved
lines-preserved g c =
    let rest = c.lines.rest.now in
    let used = c.in_ok-used.used in
    let feed = c.serve_line.new.feed in
    let held = g.D.DeckDevices.written c.args.devices.now in
    let now = g.D.DeckDevices.written c.serve_line.new.devices in
    let there : feed.fed + length (drop used rest) ≡ c.args.feed.now.fed + length c.args.piece.now =
    omega (arith, c.in_ok-used.ensures.used.1, c.in_ok-used.ensures.used.2, length-drop used rest, c.lines.invariant.fed) in
    let line : c.pass.new.self.line ≡ c.lines.shortage.line + ended_by (take used rest) = c.pass.ensures.line ∙ ap (λ (n : ℕ). n + ended_by (take used rest)) c.look.ensures.line in
    record {
      far = subst (λ (v : List ℕ). Far held now c.serve_line.new.out.printed c.args.feed.now feed c.args.piece.now v (g.A.Sink.standing c.args.audit.now) (g.A.Sink.standing c.serve_line.new.audit)) (sym (take_rest rest used))
          (further held (g.D.DeckDevices.written c.lines.devices) c.lines.out.printed c.args.feed.now c.lines.feed c.args.piece.now rest _ _ c.lines.invariant.far
          now c.serve_line.new.out.printed feed used _ c.in_ok-used.ensures.served c.in_ok-used.ensures.counted c.in_ok-used.ensures.reading);
      grown = grown_further _ _ _ c.lines.invariant.grown c.serve_line.ensures.grown;
      ahead = λ heeded.
          ahead_far _ (g.D.DeckDevices.written c.lines.devices) now c.lines.out.printed _ c.lines.feed _ rest _ _ _ _ c.lines.invariant.far c.lines.invariant.grown
          c.serve_line.ensures.begun.audited (c.lines.invariant.ahead heeded) (c.serve_line.ensures.ahead heeded);
      due = λ reading.
          subst (λ (v : List ℕ). c.pass.new.self.line + lines_ended v ≡ c.args.shortage.now.line + lines_ended c.args.piece.now) (sym (take_rest rest used))
          (ap (λ (n : ℕ). n + lines_ended (drop used rest)) line
          ∙ due_further c.lines.feed.state rest used c.args.shortage.now.line c.lines.shortage.line (lines_ended c.args.piece.now) c.in_ok-used.ensures.line
          (c.in_ok-used.ensures.counted reading).0 (c.lines.invariant.due (c.in_ok-used.ensures.counted reading).0));
      lines = omega (arith, line, c.lines.invariant.lines, c.in_ok-used.ensures.used.0, c.in_ok-used.ensures.used.2, one_at_most (take used rest));
      fed = ap (λ (v : List ℕ). feed.fed + length v) (take_rest rest used) ∙ there;
      reads_back = λ back. c.in_ok-used.ensures.reads_back (c.lines.invariant.reads_back back);
      options = c.serve_line.ensures.options ∙ c.lines.invariant.options;
      remaining = c.serve_line.ensures.apart.0 ∙ c.lines.invariant.remaining;
      reads = c.serve_line.ensures.apart.1 ∙ c.lines.invariant.reads;
      read = c.serve_line.ensures.apart.2;
      write = c.in_ok-used.ensures.sound;
    }
