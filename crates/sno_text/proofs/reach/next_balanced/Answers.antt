use Rattle.std.proofs.Common.{get_or, sym, arith}
use Rattle.sno_text.proofs.Balance.{balanced_is, onward, found, not_yet, few_more}
use Rattle.sno_text.proofs.reach.next_balanced.Goals as goal

pub loop-at-init : goal.loop-at-init
loop-at-init c = record { within = c.requires; few = omega arith; same = balanced_is c.args.text.now c.args.from }

pub loop-at-preserved : goal.loop-at-preserved
loop-at-preserved c =
    let few = few_more c.loop-at.opened (get_or c.args.text.now c.loop-at.at 0) c.in-Some.now (sym c.in-Some.ensures) in
    let before = c.loop-at.invariant.few in
    record {
      within = omega arith;
      few = omega arith;
      same = not_yet c.args.text.now c.args.from c.loop-at.at c.loop-at.opened c.loop-at-test.true c.loop-at.invariant.same c.in-Some.now c.if-now-eq0.false (sym c.in-Some.ensures);
    }

pub returns-in-None-clause-next : goal.returns-in-None-clause-next
returns-in-None-clause-next c = onward c.args.text.now c.args.from c.loop-at.at c.loop-at.opened c.loop-at-test.true c.loop-at.invariant.same _
    (sym c.in-None.ensures)

pub returns-then-now-eq0-clause-next : goal.returns-then-now-eq0-clause-next
returns-then-now-eq0-clause-next c =
    found c.args.text.now c.args.from c.loop-at.at c.loop-at.opened c.loop-at-test.true c.loop-at.invariant.same c.in-Some.now c.if-now-eq0.true
    (sym c.in-Some.ensures)
