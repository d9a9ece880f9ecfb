use Rattle.std.proofs.Common.{ap, ◌∙◌}
use Rattle.deck_driver.specs.declared.section.Section.{Section}
use Rattle.deck_driver.specs.declared.section.Section.TheVariants as section
use Rattle.deck_driver.specs.declared.section.DeckState.TheVariants as state
use Rattle.deck_driver.proofs.Taking.{errs_silently, card_breaks, stopped_on, stop_breaks_on, took_at, breaks_at, on_err}
use Rattle.deck_driver.proofs.section.DeckState.take_event.Goals as goal

pub returns-in_err-event-in-Stream-clause-broken : goal.returns-in_err-event-in-Stream-clause-broken
returns-in_err-event-in-Stream-clause-broken g c = errs_silently _ c.args.options c.args.self.now c.args.text.now c.args.counts.now _

pub returns-in_err-stop-in-Stops-clause-broken : goal.returns-in_err-stop-in-Stops-clause-broken
returns-in_err-stop-in-Stops-clause-broken g c =
    let here = c.in-Reading.is ∙ ap (λ (v : Section). state.Reading v) c.in-Stream.is in
    let r = c.in-Stream.reader in
    let w = c.in-Stream.monitor in
    on_err _
    (breaks_at c.args.options c.args.self.now (state.Reading (section.Stream r w)) c.args.text.now c.args.counts.now _ _ here
    (stop_breaks_on c.args.options r c.next_event.new.reader w c.next_event.new.monitor c.in_ok-event-in-Stream.event c.args.text.now c.args.counts.now _ _
    c.next_event.ensures.kept c.in-Stops.is c.in_ok-event-in-Stream.ensures.brings (c.in_err-stop-in-Stops.ensures.broken c.args.counts.now.jobs)))

pub returns-in_err-put_event-in_default-2-clause-broken : goal.returns-in_err-put_event-in_default-2-clause-broken
returns-in_err-put_event-in_default-2-clause-broken g c =
    let here = c.in-Reading.is ∙ ap (λ (v : Section). state.Reading v) c.in-Stream.is in
    let r = c.in-Stream.reader in
    let w = c.in-Stream.monitor in
    on_err _
    (breaks_at c.args.options c.args.self.now (state.Reading (section.Stream r w)) c.args.text.now c.args.counts.now _ _ here
    (card_breaks c.args.options r c.next_event.new.reader w c.next_event.new.monitor c.args.text.now c.args.counts.now _ _ c.in_ok-event-in-Stream.event
    c.next_event.ensures.kept c.in_ok-event-in-Stream.ensures.brings c.in_err-put_event-in_default-2.ensures.broken))

pub returns-in_ok-stop-in-Stops-clause-told : goal.returns-in_ok-stop-in-Stops-clause-told
returns-in_ok-stop-in-Stops-clause-told g c =
    let here = c.in-Reading.is ∙ ap (λ (v : Section). state.Reading v) c.in-Stream.is in
    let r = c.in-Stream.reader in
    let w = c.in-Stream.monitor in
    let stops = c.in_ok-stop-in-Stops.ensures.stopped in
    took_at c.args.options c.args.self.now (state.Reading (section.Stream r w)) c.stop.new.self c.args.text.now c.args.out.now c.stop.new.out c.args.counts.now c.args.counts.now _ _ here
    (stopped_on c.args.options r c.next_event.new.reader w c.next_event.new.monitor c.in_ok-event-in-Stream.event c.stop.new.self stops.0 c.args.text.now c.args.out.now c.stop.new.out c.args.counts.now _ _
    c.next_event.ensures.kept c.in-Stops.is c.in_ok-event-in-Stream.ensures.brings stops.1 (stops.2 c.args.counts.now.jobs))
