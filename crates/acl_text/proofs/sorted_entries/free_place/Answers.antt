use Rattle.std.proofs.Common.{◌∙◌, ◌-◌, sym, arith}
use Rattle.std.specs.declared.cmp.Ordering.TheVariants.{Less, Equal, Greater}
use Rattle.acl_text.proofs.Order.{there, not_there, goes_there, less_before, more_behind, stands_at}
use Rattle.acl_text.proofs.sorted_entries.free_place.Goals as goal

pub returns-in-Less-clause-taken : goal.returns-in-Less-clause-taken
returns-in-Less-clause-taken c =
    let at = stands_at c.args.entries.now c.args.entry.now c.loop-place.place c.index-entries-place.result Less (omega (arith, c.loop-place-test.true)) c.loop-place.invariant.within c.index-entries-place.is (sym c.compare.ensures ∙ c.in-Less.is) in
    not_there c.args.entries.now c.args.entry.now c.loop-place.place (less_before c.args.entries.now c.args.entry.now c.loop-place.place c.requires (omega (arith, c.loop-place-test.true)) c.loop-place.invariant.within at, c.loop-place.invariant.behind)

pub returns-in-Less-clause-place : goal.returns-in-Less-clause-place
returns-in-Less-clause-place c =
    let at = stands_at c.args.entries.now c.args.entry.now c.loop-place.place c.index-entries-place.result Less (omega (arith, c.loop-place-test.true)) c.loop-place.invariant.within c.index-entries-place.is (sym c.compare.ensures ∙ c.in-Less.is) in
    goes_there c.args.entries.now c.args.entry.now c.loop-place.place (less_before c.args.entries.now c.args.entry.now c.loop-place.place c.requires (omega (arith, c.loop-place-test.true)) c.loop-place.invariant.within at, c.loop-place.invariant.behind)

pub returns-in-Equal-clause-taken : goal.returns-in-Equal-clause-taken
returns-in-Equal-clause-taken c =
    there c.args.entries.now c.args.entry.now (c.loop-place.place - 1) (omega (arith, c.loop-place-test.true, c.loop-place.invariant.within))
    (stands_at c.args.entries.now c.args.entry.now c.loop-place.place c.index-entries-place.result Equal (omega (arith, c.loop-place-test.true)) c.loop-place.invariant.within c.index-entries-place.is (sym c.compare.ensures ∙ c.in-Equal.is))

pub loop-place-preserved : goal.loop-place-preserved
loop-place-preserved c = record {
  within = omega (arith, c.loop-place.invariant.within);
  behind = more_behind c.args.entries.now c.args.entry.now c.loop-place.place (omega (arith, c.loop-place-test.true))
      (stands_at c.args.entries.now c.args.entry.now c.loop-place.place c.index-entries-place.result Greater (omega (arith, c.loop-place-test.true)) c.loop-place.invariant.within c.index-entries-place.is (sym c.compare.ensures ∙ c.in-Greater.is))
      c.loop-place.invariant.behind;
}
