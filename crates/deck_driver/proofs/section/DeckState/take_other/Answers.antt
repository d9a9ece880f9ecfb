use Rattle.std.proofs.Common.{refl, ap, ◌∙◌}
use Rattle.deck_lines.specs.declared.command.Command.TheVariants.{List as Listing}
use Rattle.deck_syntax.specs.declared.stream_reader.Event.TheVariants.{Asks}
use Rattle.deck_driver.{specs.declared.section.Section.{Section}, proofs.Taking.{untaken, not_read, errs_silently, card_breaks, breaks_at, on_err}}
use Rattle.deck_driver.specs.declared.section.Section.TheVariants as section
use Rattle.deck_driver.specs.declared.section.DeckState.TheVariants as state
use Rattle.deck_driver.proofs.section.DeckState.take_other.Goals as goal

pub returns-in_err-take_front_line-in-Front-clause-broken : goal.returns-in_err-take_front_line-in-Front-clause-broken
returns-in_err-take_front_line-in-Front-clause-broken g c = errs_silently _ c.args.options c.args.self.now c.args.text.now c.args.counts.now _

pub returns-in_err-put_listing-in-Stream-clause-broken : goal.returns-in_err-put_listing-in-Stream-clause-broken
returns-in_err-put_listing-in-Stream-clause-broken g c =
    let here = c.in-Reading.is ∙ ap (λ (v : Section). state.Reading v) c.in-Stream.is in
    let listing = c.in-Some.listing in
    let r = c.in-Stream.reader in
    let w = c.in-Stream.monitor in
    on_err _
    (breaks_at c.args.options c.args.self.now (state.Reading (section.Stream r w)) c.args.text.now c.args.counts.now _ _ here
    (card_breaks c.args.options r r w w c.args.text.now c.args.counts.now _ _ (Asks (Listing listing.account listing.name)) refl c.in-Some.ensures c.in_err-put_listing-in-Stream.ensures.broken))

pub returns-in-Stopped-clause-told : goal.returns-in-Stopped-clause-told
returns-in-Stopped-clause-told g c = untaken c.args.options c.args.self.now c.args.text.now c.args.out.now c.args.counts.now _ (not_read c.args.self.now c.in-Stopped.is)

pub returns-in-Stopped-2-clause-told : goal.returns-in-Stopped-2-clause-told
returns-in-Stopped-2-clause-told g c = untaken c.args.options c.args.self.now c.args.text.now c.args.out.now c.args.counts.now _ (not_read c.args.self.now c.in-Stopped.is)

pub returns-in-Stopped-3-clause-told : goal.returns-in-Stopped-3-clause-told
returns-in-Stopped-3-clause-told g c = untaken c.args.options c.args.self.now c.args.text.now c.args.out.now c.args.counts.now _ (not_read c.args.self.now c.in-Stopped.is)
