use Rattle.deck_run.proofs.AnyTurns.{any_turns}
use Rattle.deck_run.proofs.laws.any_turns.Goals as goal

pub returns : goal.returns
returns c = any_turns c.card_by_card.ensures c.drain_empties.ensures c.commands_agree.ensures c.any_schedule.ensures c.ends_as_alone.ensures c.reading_spells.ensures
