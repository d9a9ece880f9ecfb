use Rattle.sno_variables.proofs.Exchanged.{named_there, never_named}
use Rattle.sno_variables.proofs.exchanging.exchange_one.Goals as goal

pub returns-in-Some-clause-named : goal.returns-in-Some-clause-named
returns-in-Some-clause-named c = named_there c.args.name.now c.args.variables.now.entries c.in-Some.place c.args.value.now c.in-Some.ensures

pub returns-in-None-clause-named : goal.returns-in-None-clause-named
returns-in-None-clause-named c = never_named c.args.name.now c.args.variables.now.entries c.args.value.now c.in-None.ensures
