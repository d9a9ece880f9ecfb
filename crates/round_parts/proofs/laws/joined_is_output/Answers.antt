use Rattle.round_parts.proofs.Whole.{joined_is_output}
use Rattle.round_parts.proofs.laws.joined_is_output.Goals as goal

pub returns : goal.returns
returns c =
    joined_is_output c.texts_run_in_parts.ensures c.each_its_part.ensures c.never_refused.ensures c.card_by_card.ensures c.drain_empties.ensures c.accounts_stay.ensures
    c.slots_stay.ensures
