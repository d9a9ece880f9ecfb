-- The line stands behind the others.
use Rattle.std.proofs.Common.{arith}
use Rattle.std.specs.Prelude.{min, vec_capacity}
use Rattle.packed_lines.proofs.Standing.{known, pushed_so, seen, standing}
use Rattle.packed_lines.proofs.lines.PackedLines.push.Goals as goal

pub invariant_of-self-2 : goal.invariant_of-self-2
invariant_of-self-2 c =
    let now = pushed_so _ (min (vec_capacity c.push_reserved.new.self) 4294967295) _ _ c.args.line.now c.args.self.now c.push_reserved-2.new.self.items c.push_reserved.new.self.items
    (known _ _ _ _ c.self.view_is c.self.invariant) c.requires (grind arith) (grind arith) (grind arith) (grind arith) in
    standing _ _ _ _ now

pub returns-clause-added : goal.returns-clause-added
returns-clause-added c =
    let now = pushed_so _ (min (vec_capacity c.push_reserved.new.self) 4294967295) _ _ c.args.line.now c.args.self.now c.push_reserved-2.new.self.items c.push_reserved.new.self.items
    (known _ _ _ _ c.self.view_is c.self.invariant) c.requires (grind arith) (grind arith) (grind arith) (grind arith) in
    seen _ _ _ _ now
