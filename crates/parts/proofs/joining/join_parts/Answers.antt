use Rattle.parts.{specs.Splits.{goes}, proofs.PickedBytes.{texts_are, sets_are, one_behind_another}}
use Rattle.parts.proofs.joining.join_parts.Goals as goal

pub returns : goal.returns
returns c = one_behind_another _ _ _ _ _ _ _ _ _
    c.new-out.ensures.items c.in_ok-put_printouts.ensures c.in_ok-extend_from_slice.ensures.items c.in_ok-put_sets.ensures
    (texts_are (goes c.args.split.now) c.args.parts.now c.args.numbers.now)
    (sets_are (goes c.args.split.now) c.args.parts.now c.args.names.now)
