-- The line stands behind those before the index.
use Rattle.std.proofs.Common.{arith}
use Rattle.std.specs.Prelude.{min, vec_capacity}
use Rattle.packed_lines.proofs.Standing.{counted, known, put_so, seen, standing}
use Rattle.packed_lines.proofs.lines.PackedLines.put_at.Goals as goal

pub index_mut-requires : goal.index_mut-requires
index_mut-requires c = grind (arith, counted _ _ _ _ c.self.invariant)

pub overflow_add-at : goal.overflow_add-at
overflow_add-at c = grind (arith, counted _ _ _ _ c.self.invariant)

pub invariant_of-self : goal.invariant_of-self
invariant_of-self c =
    let now = put_so _ (min (vec_capacity c.push_reserved.new.self) 4294967295) c.args.at _ _ c.args.line.now c.args.self.now c.truncate-2.new.self.items c.push_reserved.new.self.items
    c.requires.within (known _ _ _ _ c.self.view_is c.self.invariant) c.requires.printable (grind arith) (grind arith) (grind arith) in
    standing _ _ _ _ now

pub returns : goal.returns
returns c =
    let now = put_so _ (min (vec_capacity c.push_reserved.new.self) 4294967295) c.args.at _ _ c.args.line.now c.args.self.now c.truncate-2.new.self.items c.push_reserved.new.self.items
    c.requires.within (known _ _ _ _ c.self.view_is c.self.invariant) c.requires.printable (grind arith) (grind arith) (grind arith) in
    seen _ _ _ _ now
