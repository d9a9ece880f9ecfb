use Rattle.acl_text.{specs.Texts.{long_pieces}, proofs.Whole.{gives_list, gives_only, gives_refusal}}
use Rattle.acl_text.proofs.parser.parse_long.Goals as goal

pub returns-clause-spelled : goal.returns-clause-spelled
returns-clause-spelled c = gives_list (long_pieces c.args.text.now) c.read_list.result c.read_list.ensures.read

pub returns-clause-only : goal.returns-clause-only
returns-clause-only c = gives_only (long_pieces c.args.text.now) c.read_list.result c.read_list.ensures.read

pub returns-clause-refused : goal.returns-clause-refused
returns-clause-refused c = gives_refusal (long_pieces c.args.text.now) c.read_list.result c.read_list.ensures.read
