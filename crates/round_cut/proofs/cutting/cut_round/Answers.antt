use Rattle.round_cut.proofs.Making.{is_lawful}
use Rattle.round_cut.proofs.cutting.cut_round.Goals as goal

pub returns-in_ok-split-clause-lawful : goal.returns-in_ok-split-clause-lawful
returns-in_ok-split-clause-lawful c =
    is_lawful c.texts_run_in_parts.ensures _ c.args.submissions.now c.args.sets c.in_ok-split.ensures.own (c.have_room.ensures.0 c.if-have_room.true)
