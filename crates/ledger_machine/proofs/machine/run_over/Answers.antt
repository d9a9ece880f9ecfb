use Rattle.std.proofs.Common.{ℕ, List, ap, ◌∙◌, subst}
use Rattle.std.specs.Str.Lines.{lines}
use Rattle.mon_catalogue.specs.Sets.{Sets}
use Rattle.mon_monitor.specs.{Abstraction.{system_of}, SystemStates.{first_system}}
use Rattle.deck_syntax.specs.Sections.{Closed}
use Rattle.ledger_sets.specs.{Applying.{Site}, Parts.{those_of}, Changes.{run_changes, change_text}, Laws.{AreSmall}}
use Rattle.ledger_machine.{specs.Running.{asked_ahead}, specs.Steps.{slots}, specs.Written.{site_over}, proofs.Playing.{step_so}, proofs.Small.{written_so}}
use Rattle.ledger_machine.proofs.machine.run_over.Goals as goal

pub returns-clause-told : goal.returns-clause-told
returns-clause-told g c s =
    let site : Site = site_over s c.args.means.jobs (those_of c.args.over.which.now c.args.over.catalogue.now) in
    let after = c.play_to.new.running in
    let told = c.play_to.new.told.items in
    let left = c.catalogue.result.now in
    step_so site c.args.accounts (asked_ahead Closed (lines c.args.text.now)) after.jobs (system_of c.in_ok-monitor.monitor) (system_of after.monitor)
    c.new-out.result.items after.out.items c.new-told.result.items told c.in_ok-change.change.items left
    (c.in_ok-monitor.ensures ∙ ap (λ (s : Sets). first_system slots c.args.accounts s) c.in_ok-copy.ensures) c.new-out.ensures.items c.new-told.ensures.items
    c.in_ok-play_to.ensures.printed c.in_ok-play_to.ensures.left c.in_ok-play_to.ensures.told c.in_ok-play_to.ensures.counted c.catalogue.ensures
    (c.in_ok-change.ensures.is ∙ ap (λ (t : List ℕ). change_text (run_changes after.jobs t site.sets left)) c.deref.ensures.value)

pub returns-clause-written : goal.returns-clause-written
returns-clause-written g c s =
    let site : Site = site_over s c.args.means.jobs (those_of c.args.over.which.now c.args.over.catalogue.now) in
    let after = c.play_to.new.running in
    let told = c.play_to.new.told.items in
    let left = c.catalogue.result.now in
    written_so site c.args.accounts (asked_ahead Closed (lines c.args.text.now)) after.jobs (system_of c.in_ok-monitor.monitor) (system_of after.monitor)
    c.new-told.result.items told left
    (c.in_ok-monitor.ensures ∙ ap (λ (s : Sets). first_system slots c.args.accounts s) c.in_ok-copy.ensures) c.new-told.ensures.items
    c.in_ok-play_to.ensures.left c.in_ok-play_to.ensures.told c.in_ok-play_to.ensures.counted c.catalogue.ensures
    c.in_ok-change.ensures.stored c.in_ok-change.ensures.printable
    (subst (λ (t : List ℕ). AreSmall (run_changes after.jobs t site.sets left)) c.deref.ensures.value c.in_ok-change.ensures.small)
