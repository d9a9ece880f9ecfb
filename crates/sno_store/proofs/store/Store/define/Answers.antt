-- The function that was defined is the one of the arguments.
use Rattle.std.proofs.Common.{◌∙◌}
use Rattle.sno_store.proofs.Steps.{defined}
use Rattle.sno_store.proofs.store.Store.define.Goals as goal

pub returns-clause-answered : goal.returns-clause-answered
returns-clause-answered c =
    defined c.args.prototype.now c.args.entry.now c.args.self.now c.in_ok-definition.definition c.in_ok-function.function c.in_ok-name.name c.define.new.self
    c.in_ok-definition.ensures.definition
    (c.in_ok-name.ensures.value ∙ c.name.ensures)
    c.in_ok-function.ensures
    c.in_ok-define.ensures.defined
