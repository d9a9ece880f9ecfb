use Rattle.std.proofs.Common.{rules, refl, inl, ◌≡◌, ◌∙◌, sym, subst, [], List, ℕ, Option}
use Rattle.deck_syntax.specs.Decks.{Stopped, Refused}
use Rattle.deck_run.specs.{Runs.{deck_ending, HasWritten, HasRun, HasBegun, HasBrokenOff}, Audited.{IsWrittenAhead}}
use Rattle.deck_run.proofs.{Ahead.{finished_ahead, broken_ahead}, Due.{due, broken_off}}
use Rattle.deck_driver.proofs.Telling.{refused_so}
use Rattle.deck_run.proofs.Running.{run_good, run_bad, met_bad, on_good, counts_good, if_some, IsGood, broken, finished, fault_so, memory_so, broke_behind, begun_at_start, broke_at_start}
use Rattle.deck_run.proofs.run.run_cards.Goals as goal

pub returns-in-Ok-clause-stopped : goal.returns-in-Ok-clause-stopped
returns-in-Ok-clause-stopped g c =
    let r = c.in-Ok.ensures.runs in
    let a = g.A.Sink.standing c.args.audit.now in
    let b = g.A.Sink.standing c.finish.new.audit in
    let held = g.D.DeckDevices.written c.args.devices.now in
    let now = g.D.DeckDevices.written c.finish.new.devices in
    let told = g.D.DeckDevices.remaining c.args.devices.now in
    on_good told (IsGood c.args.options held now a b) (λ bytes. deck_ending bytes ≡ Stopped) c.finish.result (λ counts bytes (good : IsGood c.args.options held now a b counts bytes). good.stopped)
    (run_good c.args.options told _ held _ now c.new-feed.result _ r.0 _ _ _ r.1 c.in-Ok.ensures.at_end c.new-feed.ensures.start c.new-feed.ensures.audit (search rules) (search rules) c.finish.result c.finish.ensures.ended)

pub returns-in-Ok-clause-output : goal.returns-in-Ok-clause-output
returns-in-Ok-clause-output g c =
    let r = c.in-Ok.ensures.runs in
    let a = g.A.Sink.standing c.args.audit.now in
    let b = g.A.Sink.standing c.finish.new.audit in
    let held = g.D.DeckDevices.written c.args.devices.now in
    let now = g.D.DeckDevices.written c.finish.new.devices in
    let told = g.D.DeckDevices.remaining c.args.devices.now in
    on_good told (IsGood c.args.options held now a b) (λ bytes. HasRun c.args.options held now bytes a b) c.finish.result (λ counts bytes (good : IsGood c.args.options held now a b counts bytes). good.output)
    (run_good c.args.options told _ held _ now c.new-feed.result _ r.0 _ _ _ r.1 c.in-Ok.ensures.at_end c.new-feed.ensures.start c.new-feed.ensures.audit (search rules) (search rules) c.finish.result c.finish.ensures.ended)

pub returns-in-Ok-clause-counts : goal.returns-in-Ok-clause-counts
returns-in-Ok-clause-counts g c =
    let r = c.in-Ok.ensures.runs in
    let held = g.D.DeckDevices.written c.args.devices.now in
    let now = g.D.DeckDevices.written c.finish.new.devices in
    let told = g.D.DeckDevices.remaining c.args.devices.now in
    counts_good told c.args.options held now _ _ c.finish.result
    (run_good c.args.options told _ held _ now c.new-feed.result _ r.0 _ _ _ r.1 c.in-Ok.ensures.at_end c.new-feed.ensures.start c.new-feed.ensures.audit (search rules) (search rules) c.finish.result c.finish.ensures.ended)

pub returns-in-Ok-clause-refused : goal.returns-in-Ok-clause-refused
returns-in-Ok-clause-refused g c = λ n code same.
    let r = c.in-Ok.ensures.runs in
    let a = g.A.Sink.standing c.args.audit.now in
    let b = g.A.Sink.standing c.finish.new.audit in
    let held = g.D.DeckDevices.written c.args.devices.now in
    let now = g.D.DeckDevices.written c.finish.new.devices in
    let end = c.finish.ensures.refused n code same in
    if_some _ _ _ (λ bytes (x : (deck_ending bytes ≡ Refused n code) × HasWritten c.args.options held now bytes a b). x.0)
    (run_bad c.args.options (g.D.DeckDevices.remaining c.args.devices.now) _ held _ now c.new-feed.result _ r.0 _ _ _ r.1 c.in-Ok.ensures.at_end c.new-feed.ensures.start c.new-feed.ensures.audit n code end.0 end.1 end.2)

pub returns-in-Ok-clause-refused_output : goal.returns-in-Ok-clause-refused_output
returns-in-Ok-clause-refused_output g c = λ n code same.
    let r = c.in-Ok.ensures.runs in
    let a = g.A.Sink.standing c.args.audit.now in
    let b = g.A.Sink.standing c.finish.new.audit in
    let held = g.D.DeckDevices.written c.args.devices.now in
    let now = g.D.DeckDevices.written c.finish.new.devices in
    let end = c.finish.ensures.refused n code same in
    if_some _ _ _ (λ bytes (x : (deck_ending bytes ≡ Refused n code) × HasWritten c.args.options held now bytes a b). x.1)
    (run_bad c.args.options (g.D.DeckDevices.remaining c.args.devices.now) _ held _ now c.new-feed.result _ r.0 _ _ _ r.1 c.in-Ok.ensures.at_end c.new-feed.ensures.start c.new-feed.ensures.audit n code end.0 end.1 end.2)

pub returns-in-Err-clause-refused : goal.returns-in-Err-clause-refused
returns-in-Err-clause-refused g c = λ n code same.
    let a = g.A.Sink.standing c.args.audit.now in
    let b = g.A.Sink.standing c.feed_all.new.audit in
    let held = g.D.DeckDevices.written c.args.devices.now in
    let now = g.D.DeckDevices.written c.feed_all.new.devices in
    if_some _ _ _ (λ bytes (x : (deck_ending bytes ≡ Refused n code) × HasWritten c.args.options held now bytes a b). x.0)
    (met_bad c.args.options (g.D.DeckDevices.remaining c.args.devices.now) held now c.new-feed.result _ _ c.new-feed.ensures.start c.new-feed.ensures.audit n code
    (c.feed_all.ensures.refused n code (c.in-Err.is ∙ refused_so c.in-Err.error n code same)))

pub returns-in-Err-clause-refused_output : goal.returns-in-Err-clause-refused_output
returns-in-Err-clause-refused_output g c = λ n code same.
    let a = g.A.Sink.standing c.args.audit.now in
    let b = g.A.Sink.standing c.feed_all.new.audit in
    let held = g.D.DeckDevices.written c.args.devices.now in
    let now = g.D.DeckDevices.written c.feed_all.new.devices in
    if_some _ _ _ (λ bytes (x : (deck_ending bytes ≡ Refused n code) × HasWritten c.args.options held now bytes a b). x.1)
    (met_bad c.args.options (g.D.DeckDevices.remaining c.args.devices.now) held now c.new-feed.result _ _ c.new-feed.ensures.start c.new-feed.ensures.audit n code
    (c.feed_all.ensures.refused n code (c.in-Err.is ∙ refused_so c.in-Err.error n code same)))

pub returns-in-Ok-clause-begun : goal.returns-in-Ok-clause-begun
returns-in-Ok-clause-begun g c =
    let r = c.in-Ok.ensures.runs in
    let a = g.A.Sink.standing c.args.audit.now in
    let b = g.A.Sink.standing c.finish.new.audit in
    let held = g.D.DeckDevices.written c.args.devices.now in
    let now = g.D.DeckDevices.written c.finish.new.devices in
    subst (λ (l : Option (List ℕ)). HasBegun c.args.options (g.D.DeckDevices.remaining c.args.devices.now) l held now a b) (sym c.finish.ensures.apart.0)
    (finished c.args.options _ _ held _ c.new-feed.result _ _ c.new-feed.ensures.start c.new-feed.ensures.audit _ r.0 now _ r.1 c.in-Ok.ensures.at_end c.finish.ensures.begun)

pub returns-in-Ok-clause-short : goal.returns-in-Ok-clause-short
returns-in-Ok-clause-short g c = λ short.
    let r = c.in-Ok.ensures.runs in
    let a = g.A.Sink.standing c.args.audit.now in
    let b = g.A.Sink.standing c.finish.new.audit in
    let held = g.D.DeckDevices.written c.args.devices.now in
    let now = g.D.DeckDevices.written c.finish.new.devices in
    let line = c.feed_all.new.shortage.line in
    let at = c.finish.ensures.short short in
    let broke = broke_behind _ _ held _ c.new-feed.result _ r.0 _ _ r.1 now 1 line _ at.2 at.1 at.0 r.2 at.3 in
    subst (λ (l : Option (List ℕ)). HasBrokenOff c.args.options line (g.D.DeckDevices.remaining c.args.devices.now) l held now a b) (sym c.finish.ensures.apart.0)
    (broken_off c.args.options _ _ held now c.new-feed.result broke.0 _ _ c.new-feed.ensures.start c.new-feed.ensures.audit _ broke.1)

pub returns-in-Err-clause-begun : goal.returns-in-Err-clause-begun
returns-in-Err-clause-begun g c =
    let b = c.in-Err.ensures.begun in
    broken c.args.options _ _ _ _ c.new-feed.result _ _ c.new-feed.ensures.start c.new-feed.ensures.audit b.0 b.1

pub returns-in-Err-clause-due : goal.returns-in-Err-clause-due
returns-in-Err-clause-due g c = λ fault.
    let r = c.feed_all.ensures.due (c.in-Err.is ∙ fault_so c.in-Err.error fault) in
    due c.args.options _ _ _ _ c.new-feed.result r.0 _ _ c.new-feed.ensures.start c.new-feed.ensures.audit _ r.1

pub returns-in-Err-clause-short : goal.returns-in-Err-clause-short
returns-in-Err-clause-short g c = λ short.
    let b = c.feed_all.ensures.short (c.in-Err.is ∙ memory_so c.in-Err.error short) in
    broken_off c.args.options _ _ _ _ c.new-feed.result b.0 _ _ c.new-feed.ensures.start c.new-feed.ensures.audit _ b.1

pub returns-in_err-out-clause-begun : goal.returns-in_err-out-clause-begun
returns-in_err-out-clause-begun g c = broken c.args.options _ _ _ _ c.new-feed.result _ _ c.new-feed.ensures.start c.new-feed.ensures.audit [] (begun_at_start _ _ _ _)

pub returns-in_err-out-clause-short : goal.returns-in_err-out-clause-short
returns-in_err-out-clause-short g c = λ short.
    let b = broke_at_start (g.D.DeckDevices.remaining c.args.devices.now) (g.D.DeckDevices.written c.args.devices.now) c.new-feed.result _ (g.A.Sink.standing c.args.audit.now) c.new.ensures.line (search rules) in
    broken_off c.args.options _ _ _ _ c.new-feed.result b.0 _ _ c.new-feed.ensures.start c.new-feed.ensures.audit _ b.1

pub returns-in-Ok-clause-ahead : goal.returns-in-Ok-clause-ahead
returns-in-Ok-clause-ahead g c = λ heeded.
    let r = c.in-Ok.ensures.runs in
    let a = g.A.Sink.standing c.args.audit.now in
    let b = g.A.Sink.standing c.finish.new.audit in
    let held = g.D.DeckDevices.written c.args.devices.now in
    let now = g.D.DeckDevices.written c.finish.new.devices in
    subst (λ (l : Option (List ℕ)). IsWrittenAhead c.args.options (g.D.DeckDevices.remaining c.args.devices.now) l held now a b) (sym c.finish.ensures.apart.0)
    (finished_ahead c.args.options c.new-feed.result c.new-feed.ensures.start c.new-feed.ensures.audit _ _ held _ now _ r.0 _ _ _ c.finish.ensures.begun.2 r.1 c.finish.ensures.begun.4 (r.3 heeded)
    (c.finish.ensures.ahead heeded))

pub returns-in-Err-clause-ahead : goal.returns-in-Err-clause-ahead
returns-in-Err-clause-ahead g c = λ heeded.
    let b = c.in-Err.ensures.ahead heeded in
    broken_ahead c.args.options c.new-feed.result c.new-feed.ensures.start c.new-feed.ensures.audit _ _ _ _ b.0 _ _ b.1 b.2

pub returns-in_err-out-clause-ahead : goal.returns-in_err-out-clause-ahead
returns-in_err-out-clause-ahead g c = λ heeded. inl refl
