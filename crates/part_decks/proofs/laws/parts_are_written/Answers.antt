use Rattle.part_decks.proofs.Writing.{are_written}
use Rattle.part_decks.proofs.laws.parts_are_written.Goals as goal

pub returns : goal.returns
returns c = are_written c.parts_run_alone.ensures
