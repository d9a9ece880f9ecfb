use Rattle.deck_syntax.{specs.Jobs.{sets_statements, sets_steps}, proofs.Options.{first_is, other_is}}
use Rattle.deck_syntax.proofs.job.read_two_options.Goals as goal

pub option_number-requires : goal.option_number-requires
option_number-requires c =
    first_is (sets_statements c.args.word.now) (sets_steps c.args.word.now) (sets_statements c.args.other.now) (sets_steps c.args.other.now) c.requires

pub option_number-requires-2 : goal.option_number-requires-2
option_number-requires-2 c =
    other_is (sets_statements c.args.word.now) (sets_steps c.args.word.now) (sets_statements c.args.other.now) (sets_steps c.args.other.now) c.requires
