-- What is met says whether all names are different.
use Rattle.std.proofs.Common.{rules}
use Rattle.sno_declarations.proofs.Apart.{in_locals, in_parameters, in_none}
use Rattle.sno_declarations.proofs.prototype.are_different.Goals as goal

pub returns-then-not-branch : goal.returns-then-not-branch
returns-then-not-branch c =
    let p = c.args.prototype.now in
    in_locals c.new-met.result p.name p.parameters p.locals c.in_ok-meet_all.field-0 c.meet_all.new.met (search rules) c.new-met.ensures.empty
    (rw c.as_slice.ensures at c.in_ok-meet_all.ensures)

pub returns-then-not-branch-2 : goal.returns-then-not-branch-2
returns-then-not-branch-2 c =
    let p = c.args.prototype.now in
    in_parameters c.new-met.result p.name p.parameters p.locals c.in_ok-meet_all.field-0 c.meet_all.new.met c.meet_all-2.new.met (search rules) c.new-met.ensures.empty
    (rw c.as_slice.ensures at c.in_ok-meet_all.ensures) c.in_ok-meet_all-2.field-0 (search rules) (rw c.as_slice-2.ensures at c.in_ok-meet_all-2.ensures)

pub returns : goal.returns
returns c =
    let p = c.args.prototype.now in
    in_none c.new-met.result p.name p.parameters p.locals c.in_ok-meet_all.field-0 c.meet_all.new.met c.meet_all-2.new.met (search rules) c.new-met.ensures.empty
    (rw c.as_slice.ensures at c.in_ok-meet_all.ensures) c.in_ok-meet_all-2.field-0 c.meet.new.met c.meet.result (search rules)
    (rw c.as_slice-2.ensures at c.in_ok-meet_all-2.ensures) c.meet.ensures
