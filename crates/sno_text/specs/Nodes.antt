-- The pattern that a node stands for.
use Rattle.sno_text.specs.declared.node.Node.{Node}
use Rattle.sno_text.specs.declared.node.Node.TheVariants as node
use Rattle.sno_text.specs.Patterns.{Pattern, Text, Len, Pos, RPos, Tab, RTab, Rem, Any, NotAny, Span, Break, Arb, Bal, Cat, Alt, Arbno, Conditional, Immediate, Cursor, Defer, Fail, Abort, Fence, Succeed}

abbrev pub pattern_of : Node → Pattern
pattern_of (node.Text s) = Text s
pattern_of (node.Len n) = Len n
pattern_of (node.Pos n) = Pos n
pattern_of (node.RPos n) = RPos n
pattern_of (node.Tab n) = Tab n
pattern_of (node.RTab n) = RTab n
pattern_of node.Rem = Rem
pattern_of (node.Any s) = Any s
pattern_of (node.NotAny s) = NotAny s
pattern_of (node.Span s) = Span s
pattern_of (node.Break s) = Break s
pattern_of node.Arb = Arb
pattern_of node.Bal = Bal
pattern_of (node.Cat' d p a q b) = Cat (pattern_of a) (pattern_of b)
pattern_of (node.Alt' d p a q b) = Alt (pattern_of a) (pattern_of b)
pattern_of (node.Arbno' d p a) = Arbno (pattern_of a)
pattern_of (node.Conditional' d p a v) = Conditional (pattern_of a) v
pattern_of (node.Immediate' d p a v) = Immediate (pattern_of a) v
pattern_of (node.Cursor v) = Cursor v
pattern_of (node.Defer v) = Defer v
pattern_of node.Fail = Fail
pattern_of node.Abort = Abort
pattern_of node.Fence = Fence
pattern_of node.Succeed = Succeed
