-- The lines before the index are left.
use Rattle.std.proofs.Common.{arith}
use Rattle.std.{specs.Prelude.{min, vec_capacity}, proofs.lemmas.List.{take_all}}
use Rattle.packed_lines.proofs.Standing.{counted, cut_so, known, seen, standing}
use Rattle.packed_lines.proofs.lines.PackedLines.truncate.Goals as goal

pub start-start-requires : goal.start-start-requires
start-start-requires c = grind (arith, counted _ _ _ _ c.self.invariant)

pub invariant_of-self : goal.invariant_of-self
invariant_of-self c =
    let now = cut_so _ (min (vec_capacity c.truncate.new.self) 4294967295) c.args.at _ _ c.args.self.now c.truncate-then-at-len.new.self.items c.truncate.new.self.items
    (grind (arith, counted _ _ _ _ c.self.invariant)) (known _ _ _ _ c.self.view_is c.self.invariant) (grind arith) (grind arith) (grind arith) in
    standing _ _ _ _ now

pub returns-then-at-len : goal.returns-then-at-len
returns-then-at-len c =
    let now = cut_so _ (min (vec_capacity c.truncate.new.self) 4294967295) c.args.at _ _ c.args.self.now c.truncate-then-at-len.new.self.items c.truncate.new.self.items
    (grind (arith, counted _ _ _ _ c.self.invariant)) (known _ _ _ _ c.self.view_is c.self.invariant) (grind arith) (grind arith) (grind arith) in
    seen _ _ _ _ now

pub returns-else-at-len : goal.returns-else-at-len
returns-else-at-len c = grind (arith, take_all, counted _ _ _ _ c.self.invariant)
