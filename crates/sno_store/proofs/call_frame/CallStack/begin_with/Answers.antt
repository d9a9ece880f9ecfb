-- The new level stands before the others.
use Rattle.std.proofs.Common.{◌∙◌, refl, rules}
use Rattle.sno_store.proofs.Calling.{level_added}
use Rattle.sno_store.proofs.call_frame.CallStack.begin_with.Goals as goal

pub returns-clause-begun : goal.returns-clause-begun
returns-clause-begun c =
    level_added c.args.function c.args.function c.args.statement c.args.variables.now c.exchange.new.values.items c.self.inside.levels.items c.add.new.levels.items
    refl
    (search rules)
    (search rules)
    ∙ search rules
