use Rattle.std.proofs.Common.{map}
use Rattle.clap.{specs.Words.{app_of}, proofs.TakesLemmas.{passed_up}}
use Rattle.snomon_library.proofs.Matched.{given, is_simple_command, refused}
use Rattle.snomon_library.proofs.options.read_options.Goals as goal

pub returns-in_err-matches-clause-refused : goal.returns-in_err-matches-clause-refused
returns-in_err-matches-clause-refused g c =
    let error = c.in_err-matches.field-0.0 in
    passed_up c.from_residual-in_err-matches.result error _ c.from_residual-in_err-matches.ensures.1
    (refused (app_of c.in_ok-command.field-0) (map g.S.AsStr.text c.args.words.now) error c.in_ok-command.ensures c.in_err-matches.ensures.passes)

pub returns-clause-given : goal.returns-clause-given
returns-clause-given g c =
    let command_is = c.in_ok-command.ensures in
    let found = c.in_ok-matches.ensures in
    given (app_of c.in_ok-command.field-0) (map g.S.AsStr.text c.args.words.now) c.in_ok-matches.matches command_is c.get_flag.result c.slots_in.result.number
    (found.kinds (is_simple_command _ command_is)) found.matches c.get_flag.ensures.value c.get_flag.ensures.other c.slots_in.ensures.none c.slots_in.ensures.some
