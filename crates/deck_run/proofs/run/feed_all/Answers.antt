use Rattle.std.proofs.Common.{rules, refl, inl, [], arith, ◌≡◌, ◌≤◌, ◌++◌, List, ℕ, length, take, ap, subst, ◌∙◌, length-take}
use Rattle.std.proofs.lemmas.List.{take_at}
use Rattle.mon_device.proofs.Putting.{puts_nothing}
use Rattle.deck_run.{specs.inner.Writing.{Refuses, Starts, Stands, IsDue, BrokeOffAt}, specs.inner.Ahead.{IsAhead}, proofs.Ahead.{later_ahead, piece_ahead}}
use Rattle.deck_run.proofs.Running.{on_err, gives_nothing, gives_more, begins, begun_at_start, broke_at_start, goes_on, begun_further, due_further, broke_within, midway, none_given, none_read, at_read, given_same, memory_so}
use Rattle.deck_driver.proofs.Telling.{refused_so}
use Rattle.deck_run.proofs.run.feed_all.Goals as goal

pub loop-read-preserved : goal.loop-read-preserved
loop-read-preserved g c =
    let so = c.loop-read.invariant.runs in
    let now = g.D.DeckDevices.written c.read.new.self in
    let after = g.D.DeckDevices.written c.serve.new.devices in
    let runs = at_read _ _ _ _ now _ _ _ _ _ c.read.ensures.apart.0 so.1 in
    let same : c.deref.result.now ≡ c.read.new.buffer = c.deref.ensures.value ∙ take_at _ _ _ (c.read.auto.buffer ∙ c.deref_mut.ensures.len) in
    let size : length c.read.new.buffer ≡ 65536 = c.read.auto.buffer ∙ c.deref_mut.ensures.len ∙ c.loop-read.invariant.buffer in
    let within : c.in-Ok.count ≤ 65536 = omega (arith, c.in-Ok.ensures.within, size) in
    record {
      buffer = search rules;
      empty = search rules;
      runs = (
        so.0 ++ take c.in-Ok.count c.read.new.buffer,
        goes_on _ _ _ _ _ _ _ _ _ runs (take c.in-Ok.count c.read.new.buffer) _ after _ _ (given_same _ _ _ _ c.serve.ensures.apart.0 c.in-Ok.ensures.given)
            (subst (λ (b : List ℕ). Stands now after [] c.loop-read.feed c.serve.new.feed (take c.in-Ok.count b) (g.A.Sink.standing c.loop-read.audit) (g.A.Sink.standing c.serve.new.audit)) same c.in-Ok-serve.ensures.served)
            (subst (λ (b : List ℕ). Starts now after [] c.loop-read.feed (take c.in-Ok.count b) (g.A.Sink.standing c.loop-read.audit) (g.A.Sink.standing c.serve.new.audit)) same c.serve.ensures.begun),
        due_further _ _ _ _ _ _ _ _ _ runs (take c.in-Ok.count c.read.new.buffer) c.serve.new.feed 1 c.loop-read.shortage.line c.serve.new.shortage.line so.2
            (subst (λ (b : List ℕ). IsDue c.loop-read.shortage.line c.serve.new.shortage.line c.serve.new.feed (take c.in-Ok.count b)) same c.in-Ok-serve.ensures.due)
            (λ reading. (c.in-Ok-serve.ensures.served.counted reading).0),
        λ heeded.
            piece_ahead _ _ _ now after _ _ so.0 (take c.in-Ok.count c.read.new.buffer) _ _ _ _ runs c.serve.ensures.begun.audited
            (later_ahead _ _ _ [] _ so.0 _ _ _ [] c.read.ensures.apart.0 (puts_nothing _) (so.3 heeded))
            (subst (λ (b : List ℕ). IsAhead now after [] c.loop-read.feed (take c.in-Ok.count b) (g.A.Sink.standing c.loop-read.audit) (g.A.Sink.standing c.serve.new.audit)) same (c.serve.ensures.ahead heeded)),
      );
      lines = c.in-Ok-serve.ensures.lines;
      reads = search rules;
      few = omega (arith, c.loop-read.invariant.few, c.in-Ok-serve.ensures.fed, length-take c.in-Ok.count c.deref.result.now, within);
      reads_back = search rules;
      options = search rules;
      read = search rules;
      write = search rules;
    }

pub returns-in-Err-serve-clause-refused : goal.returns-in-Err-serve-clause-refused
returns-in-Err-serve-clause-refused g c = λ n code refused.
    let so = c.loop-read.invariant.runs in
    let now = g.D.DeckDevices.written c.read.new.self in
    let after = g.D.DeckDevices.written c.serve.new.devices in
    let runs = at_read _ _ _ _ now _ _ _ _ _ c.read.ensures.apart.0 so.1 in
    let same : c.deref.result.now ≡ c.read.new.buffer = c.deref.ensures.value ∙ take_at _ _ _ (c.read.auto.buffer ∙ c.deref_mut.ensures.len) in
    midway _ _ _ _ _ _ _ _ _ runs (take c.in-Ok.count c.read.new.buffer) _ after n code _ c.in-Ok.ensures.given
    (subst (λ (b : List ℕ). Refuses now after [] c.loop-read.feed (take c.in-Ok.count b) n code (g.A.Sink.standing c.loop-read.audit) (g.A.Sink.standing c.serve.new.audit)) same
    (c.serve.ensures.refused n code (c.in-Err-serve.is ∙ refused_so c.in-Err-serve.error n code refused)))

pub returns-in-Err-serve-clause-begun : goal.returns-in-Err-serve-clause-begun
returns-in-Err-serve-clause-begun g c =
    let so = c.loop-read.invariant.runs in
    let now = g.D.DeckDevices.written c.read.new.self in
    let after = g.D.DeckDevices.written c.serve.new.devices in
    let runs = at_read _ _ _ _ now _ _ _ _ _ c.read.ensures.apart.0 so.1 in
    let same : c.deref.result.now ≡ c.read.new.buffer = c.deref.ensures.value ∙ take_at _ _ _ (c.read.auto.buffer ∙ c.deref_mut.ensures.len) in (
      so.0 ++ take c.in-Ok.count c.read.new.buffer,
      begun_further _ _ _ _ _ _ _ _ _ runs (take c.in-Ok.count c.read.new.buffer) _ after _ (given_same _ _ _ _ c.serve.ensures.apart.0 c.in-Ok.ensures.given)
          (subst (λ (b : List ℕ). Starts now after [] c.loop-read.feed (take c.in-Ok.count b) (g.A.Sink.standing c.loop-read.audit) (g.A.Sink.standing c.serve.new.audit)) same c.serve.ensures.begun),
    )

pub returns-in-Err-serve-clause-ahead : goal.returns-in-Err-serve-clause-ahead
returns-in-Err-serve-clause-ahead g c = λ heeded.
    let so = c.loop-read.invariant.runs in
    let now = g.D.DeckDevices.written c.read.new.self in
    let after = g.D.DeckDevices.written c.serve.new.devices in
    let runs = at_read _ _ _ _ now _ _ _ _ _ c.read.ensures.apart.0 so.1 in
    let same : c.deref.result.now ≡ c.read.new.buffer = c.deref.ensures.value ∙ take_at _ _ _ (c.read.auto.buffer ∙ c.deref_mut.ensures.len) in (
      so.0 ++ take c.in-Ok.count c.read.new.buffer,
      gives_more _ _ _ so.0 (take c.in-Ok.count c.read.new.buffer) runs.so_far.gives (given_same _ _ _ _ c.serve.ensures.apart.0 c.in-Ok.ensures.given),
      piece_ahead _ _ _ now after _ _ so.0 (take c.in-Ok.count c.read.new.buffer) _ _ _ _ runs c.serve.ensures.begun.audited
          (later_ahead _ _ _ [] _ so.0 _ _ _ [] c.read.ensures.apart.0 (puts_nothing _) (so.3 heeded))
          (subst (λ (b : List ℕ). IsAhead now after [] c.loop-read.feed (take c.in-Ok.count b) (g.A.Sink.standing c.loop-read.audit) (g.A.Sink.standing c.serve.new.audit)) same (c.serve.ensures.ahead heeded)),
    )

pub returns-in-Err-serve-clause-short : goal.returns-in-Err-serve-clause-short
returns-in-Err-serve-clause-short g c = λ short.
    let so = c.loop-read.invariant.runs in
    let now = g.D.DeckDevices.written c.read.new.self in
    let after = g.D.DeckDevices.written c.serve.new.devices in
    let runs = at_read _ _ _ _ now _ _ _ _ _ c.read.ensures.apart.0 so.1 in
    let same : c.deref.result.now ≡ c.read.new.buffer = c.deref.ensures.value ∙ take_at _ _ _ (c.read.auto.buffer ∙ c.deref_mut.ensures.len) in
    let size : length c.read.new.buffer ≡ 65536 = c.read.auto.buffer ∙ c.deref_mut.ensures.len ∙ c.loop-read.invariant.buffer in
    let within : length (take c.in-Ok.count c.read.new.buffer) ≤ 65536 = omega (arith, c.in-Ok.ensures.within, size, length-take c.in-Ok.count c.read.new.buffer) in
    broke_within _ _ _ _ _ _ _ _ _ runs (take c.in-Ok.count c.read.new.buffer) _ after 1 c.loop-read.shortage.line c.serve.new.shortage.line _ within
    (given_same _ _ _ _ c.serve.ensures.apart.0 c.in-Ok.ensures.given) so.2
    (subst (λ (b : List ℕ). BrokeOffAt now after c.loop-read.feed (take c.in-Ok.count b) c.loop-read.shortage.line c.serve.new.shortage.line (g.A.Sink.standing c.loop-read.audit) (g.A.Sink.standing c.serve.new.audit)) same (c.serve.ensures.short (c.in-Err-serve.is ∙ memory_so c.in-Err-serve.error short)))

pub returns-in_err-buffer-clause-begun : goal.returns-in_err-buffer-clause-begun
returns-in_err-buffer-clause-begun g c = on_err c.from_residual.result ([], begun_at_start _ _ _ _)

pub returns-in_err-buffer-clause-ahead : goal.returns-in_err-buffer-clause-ahead
returns-in_err-buffer-clause-ahead g c = λ heeded. on_err c.from_residual.result ([], gives_nothing _, inl refl)

pub returns-in_err-buffer-clause-short : goal.returns-in_err-buffer-clause-short
returns-in_err-buffer-clause-short g c = λ short. broke_at_start _ _ _ _ _ c.requires.first c.requires.reading

pub loop-read-init : goal.loop-read-init
loop-read-init g c = record {
  buffer = search rules;
  empty = search rules;
  runs = ([], begins _ _ _ _ c.requires.reading, λ reading. c.requires.first, λ heeded. inl refl);
  lines = omega (arith, c.requires.first);
  reads = none_read _;
  few = omega (arith, c.requires.start);
  reads_back = λ back. back;
  options = refl;
  read = search rules;
  write = search rules;
}

pub returns-in-Ok-eq0-clause-runs : goal.returns-in-Ok-eq0-clause-runs
returns-in-Ok-eq0-clause-runs g c =
    let so = c.loop-read.invariant.runs in
    let runs = at_read _ _ _ _ (g.D.DeckDevices.written c.read.new.self) _ _ _ _ _ c.read.ensures.apart.0 so.1 in
    let none : take c.in-Ok-eq0.field-0 c.read.new.buffer ≡ [] = ap (λ k. take k c.read.new.buffer) c.in-Ok-eq0.field-0-test in
    (so.0, none_given _ _ _ _ _ _ _ so.0 (take c.in-Ok-eq0.field-0 c.read.new.buffer) _ _ none c.in-Ok-eq0.ensures.given runs, so.2, λ heeded. later_ahead _ _ _ [] _ so.0 _ _ _ [] c.read.ensures.apart.0 (puts_nothing _) (so.3 heeded))
