-- From where the line begins to the LF behind it.
use Rattle.std.proofs.Common.{suc, [], length, ap, arith}
use Rattle.packed_lines.proofs.Standing.{all_at, counted, known, end_is, ordered, part_is, starts_within}
use Rattle.packed_lines.proofs.lines.PackedLines.at.Goals as goal

pub index-requires : goal.index-requires
index-requires c = grind (arith, counted _ _ _ _ c.self.invariant)

pub overflow_sub-end : goal.overflow_sub-end
overflow_sub-end c =
    let end = end_is _ c.args.at _ _ c.args.self.now c.index.result.now (known _ _ _ _ c.self.view_is c.self.invariant) c.requires c.index.ensures in
    omega (arith, end, ordered c.args.at c.args.self.now c.requires)

pub slice_bounds-result-count : goal.slice_bounds-result-count
slice_bounds-result-count c =
    let end = end_is _ c.args.at _ _ c.args.self.now c.index.result.now (known _ _ _ _ c.self.view_is c.self.invariant) c.requires c.index.ensures in
    omega (arith, c.start-start.ensures, end, ordered c.args.at c.args.self.now c.requires)

pub slice_bounds-result-start : goal.slice_bounds-result-start
slice_bounds-result-start c =
    let p = known _ _ _ _ c.self.view_is c.self.invariant in
    let end = end_is _ c.args.at _ _ c.args.self.now c.index.result.now p c.requires c.index.ensures in
    omega (arith, c.start-start.ensures, end, ordered c.args.at c.args.self.now c.requires, starts_within _ (suc c.args.at) _ _ c.args.self.now p, starts_within _ c.args.at _ _ c.args.self.now p, ap length c.deref.ensures.value)

pub slice_bounds-result-end : goal.slice_bounds-result-end
slice_bounds-result-end c =
    let p = known _ _ _ _ c.self.view_is c.self.invariant in
    let end = end_is _ c.args.at _ _ c.args.self.now c.index.result.now p c.requires c.index.ensures in
    omega (arith, end, starts_within _ (suc c.args.at) _ _ c.args.self.now p, ap length c.deref.ensures.value)

pub returns-clause-value : goal.returns-clause-value
returns-clause-value c =
    let p = known _ _ _ _ c.self.view_is c.self.invariant in
    let end = end_is _ c.args.at _ _ c.args.self.now c.index.result.now p c.requires c.index.ensures in
    rw c.deref.ensures.value (part_is _ c.args.at _ _ c.args.self.now c.start-start.result c.index.result.now _ p c.requires c.start-start.ensures end)

pub returns-clause-printable : goal.returns-clause-printable
returns-clause-printable c =
    let p = known _ _ _ _ c.self.view_is c.self.invariant in
    let end = end_is _ c.args.at _ _ c.args.self.now c.index.result.now p c.requires c.index.ensures in
    rw c.deref.ensures.value (
    rw (part_is _ c.args.at _ _ c.args.self.now c.start-start.result c.index.result.now [] p c.requires c.start-start.ensures end) (
    all_at c.args.at c.args.self.now [] c.requires p.printable))
