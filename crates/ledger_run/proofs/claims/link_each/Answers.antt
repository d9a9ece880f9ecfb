use Rattle.std.proofs.Common.{rules, ℕ, ◌++◌, ◌+◌, slice_index, sym, ap, ◌∙◌, arith}
use Rattle.ledger_laws.specs.Claims.{links}
use Rattle.ledger_run.proofs.Refusing.{among_at, links_more, next_does, next_did, next_count, next_bound}
use Rattle.ledger_run.proofs.claims.link_each.Goals as goal

pub returns-in_err-next-clause-err : goal.returns-in_err-next-clause-err
returns-in_err-next-clause-err g c =
    let a = next_did g.D.Disk.calls (links c.args.first) (links c.loop-drop.number) (slice_index c.args.drops.now c.loop-drop.drop-index) c.args.drops.now c.loop-drop.made.items
    c.args.disk.now c.loop-drop.disk c.link_next.new.disk (among_at c.args.drops.now c.loop-drop.drop-index c.loop-drop-test.true)
    (λ more. links_more c.loop-drop.made.items more c.args.first ∙ ap (λ (m : ℕ). links c.args.first c.loop-drop.made.items ++ links m more) (sym c.loop-drop.invariant.count))
    c.loop-drop.invariant.some c.in_err-next.ensures.err in
    search (rules, a)

pub loop-drop-preserved : goal.loop-drop-preserved
loop-drop-preserved g c = record {
  count =
      next_count g.D.Disk.calls c.loop-drop.number c.in_ok-next.next (slice_index c.args.drops.now c.loop-drop.drop-index) c.loop-drop.made.items c.link_next.new.made.items c.loop-drop.disk
      c.link_next.new.disk c.args.first c.loop-drop.invariant.count c.in_ok-next.ensures.ok;
  bound =
      (let h = next_bound g.D.Disk.calls c.loop-drop.number c.in_ok-next.next (slice_index c.args.drops.now c.loop-drop.drop-index) c.loop-drop.made.items c.link_next.new.made.items c.loop-drop.disk
      c.link_next.new.disk (c.args.first + c.loop-drop.drop-index) c.loop-drop.invariant.bound c.in_ok-next.ensures.ok in
      omega (arith, h));
  some =
      next_does g.D.Disk.calls (links c.args.first) (links c.loop-drop.number) (slice_index c.args.drops.now c.loop-drop.drop-index) c.args.drops.now c.loop-drop.made.items c.args.disk.now
      c.loop-drop.disk c.link_next.new.disk (among_at c.args.drops.now c.loop-drop.drop-index c.loop-drop-test.true)
      (λ more. links_more c.loop-drop.made.items more c.args.first ∙ ap (λ (m : ℕ). links c.args.first c.loop-drop.made.items ++ links m more) (sym c.loop-drop.invariant.count))
      c.loop-drop.invariant.some c.link_next.new.made.items c.in_ok-next.ensures.ok.does;
}
