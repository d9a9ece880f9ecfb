use Rattle.mon_text.{proofs.Searching.{found}, specs.Characters.{is_line_feed}}
use Rattle.mon_text.proofs.line_feed.first_line_end.Goals as goal

pub returns-clause-place : goal.returns-clause-place
returns-clause-place c = found is_line_feed c.args.piece.now c.memchr.result c.memchr.ensures
