use Rattle.std.proofs.Common.{rules, length, ◌+◌}
use Rattle.sno_store.proofs.Calling.{turned_filled}
use Rattle.sno_store.proofs.call_frame.fill.Goals as goal

pub returns : goal.returns
returns c =
    rw (turned_filled c.args.prototype.now c.args.values.now.items c.reverse.new.self.items c.cut.new.values.items (1 + length c.as_slice.result.now) (1 + length c.as_slice.result.now + length c.as_slice-2.result.now)
    (search rules) (search rules) (search rules) (search rules))
    at c.pad.ensures
