use Rattle.std.proofs.Common.{refl}
use Rattle.std.proofs.lemmas.Result.{on_ok_weaker}
use Rattle.mon_monitor.specs.{Abstraction.{system_of}, Events.{Serve}}
use Rattle.deck_lines.specs.declared.command.Command.TheVariants.{List as Listing}
use Rattle.deck_syntax.specs.Decks.{Commands}
use Rattle.deck_syntax.specs.declared.stream_reader.Event.TheVariants.{Asks}
use Rattle.deck_driver.proofs.Commanding.{counted_when, command_counted, on_served, on_broken}
use Rattle.deck_driver.proofs.serving.put_listing.Goals as goal

pub returns-then-check-clause-served : goal.returns-then-check-clause-served
returns-then-check-clause-served g c =
    let command = Listing c.args.listing.account c.args.listing.name in
    counted_when c.args.check c.if-check.true (Asks command) tt (system_of c.args.monitor.now) c.args.out.now c.args.counts.now _ _ (command_counted c.args.counts.now command)

pub returns-clause-served : goal.returns-clause-served
returns-clause-served g c =
    let command = Listing c.args.listing.account c.args.listing.name in
    on_served c.serve_listing.result c.args.check c.if-check.false (Asks command) (Asks command) refl (Commands command) (λ others. refl) (Serve command) (system_of c.args.monitor.now) c.args.counts.now _ _ refl
    (system_of c.serve_listing.new.self) c.args.out.now c.serve_listing.new.out _ (command_counted c.args.counts.now command) refl
    (on_ok_weaker c.serve_listing.result (λ happens. happens.0) c.serve_listing.ensures.happens)

pub returns-clause-broken : goal.returns-clause-broken
returns-clause-broken g c =
    let command = Listing c.args.listing.account c.args.listing.name in
    on_broken c.serve_listing.result c.args.check c.if-check.false (Asks command) (Asks command) refl (Commands command) (λ others. refl) (Serve command) (system_of c.args.monitor.now) c.args.counts.now _ _ refl
    c.serve_listing.ensures.broken
