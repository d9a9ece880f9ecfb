use Rattle.std.proofs.Common.{refl, ap, ◌∙◌}
use Rattle.mon_monitor.specs.SystemStates.{first_system}
use Rattle.deck_driver.proofs.section.DeckState.begin_stream.Goals as goal

pub returns-clause-begun : goal.returns-clause-begun
returns-clause-begun c = (
  c.in_ok-monitor.monitor,
  refl,
  c.in_ok-monitor.ensures ∙ ap (λ n. first_system n c.args.front.accounts c.args.front.catalogue) c.number-slots.ensures.value,
)
