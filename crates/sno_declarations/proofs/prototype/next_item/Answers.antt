-- The first item stands before the first comma.
use Rattle.sno_declarations.proofs.Listing.{no_comma, before_comma}
use Rattle.sno_declarations.proofs.prototype.next_item.Goals as goal

pub returns-in-Some-clause-split : goal.returns-in-Some-clause-split
returns-in-Some-clause-split c = before_comma c.args.text.now c.cut_at.result c.in-Some.item c.in-Some.rest c.cut_at.ensures.cut c.in-Some.is

pub returns-in-None-clause-split : goal.returns-in-None-clause-split
returns-in-None-clause-split c = no_comma c.args.text.now c.cut_at.result c.cut_at.ensures.cut c.in-None.is
