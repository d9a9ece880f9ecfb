-- What the program's patterns keep, and how patterns are stored as nodes, by which proofs tell them apart.
use Rattle.std.specs.Prelude.{ℕ}
use Rattle.std.proofs.Common.{◌≡◌, refl, ap, ◌∙◌}
use Rattle.std.specs.Coded.{Coded, code_by}
use Rattle.std.specs.declared.rc.Rc.{Rc}
use Rattle.std.specs.declared.alloc.Global.{Global}
use Rattle.sno_text.specs.contracts.node.Node.{the_row}
use denote.RawPtr.{null_ptr}
use Rattle.sno_text.specs.declared.node.Node.{Node}
use Rattle.sno_text.specs.declared.node.Node.TheVariants as node
use Rattle.sno_text.specs.Patterns.{Pattern, Text, Len, Pos, RPos, Tab, RTab, Rem, Any, NotAny, Span, Break, Arb, Bal, Cat, Alt, Arbno, Conditional, Immediate, Cursor, Defer, Fail, Abort, Fence, Succeed}
use Rattle.sno_text.specs.Nodes.{pattern_of}

-- how deep a node says that it is
abbrev pub told_depth : Node → ℕ
told_depth (node.Cat' d p a q b) = d
told_depth (node.Alt' d p a q b) = d
told_depth (node.Arbno' d p a) = d
told_depth (node.Conditional' d p a v) = d
told_depth (node.Immediate' d p a v) = d
told_depth _ = 1

-- where no node is
abbrev pub nowhere : Rc (Unit {0}) Global
nowhere = record { ptr = null_ptr; value = tt }

abbrev pub node_of : Pattern → Node
node_of (Text s) = node.Text s
node_of (Len n) = node.Len n
node_of (Pos n) = node.Pos n
node_of (RPos n) = node.RPos n
node_of (Tab n) = node.Tab n
node_of (RTab n) = node.RTab n
node_of Rem = node.Rem
node_of (Any s) = node.Any s
node_of (NotAny s) = node.NotAny s
node_of (Span s) = node.Span s
node_of (Break s) = node.Break s
node_of Arb = node.Arb
node_of Bal = node.Bal
node_of (Cat a b) = node.Cat' 0 nowhere (node_of a) nowhere (node_of b)
node_of (Alt a b) = node.Alt' 0 nowhere (node_of a) nowhere (node_of b)
node_of (Arbno a) = node.Arbno' 0 nowhere (node_of a)
node_of (Conditional a v) = node.Conditional' 0 nowhere (node_of a) v
node_of (Immediate a v) = node.Immediate' 0 nowhere (node_of a) v
node_of (Cursor v) = node.Cursor v
node_of (Defer v) = node.Defer v
node_of Fail = node.Fail
node_of Abort = node.Abort
node_of Fence = node.Fence
node_of Succeed = node.Succeed

pub pattern_of_node : (p : Pattern) → pattern_of (node_of p) ≡ p
pattern_of_node (Text s) = refl
pattern_of_node (Len n) = refl
pattern_of_node (Pos n) = refl
pattern_of_node (RPos n) = refl
pattern_of_node (Tab n) = refl
pattern_of_node (RTab n) = refl
pattern_of_node Rem = refl
pattern_of_node (Any s) = refl
pattern_of_node (NotAny s) = refl
pattern_of_node (Span s) = refl
pattern_of_node (Break s) = refl
pattern_of_node Arb = refl
pattern_of_node Bal = refl
pattern_of_node (Cat a b) = ap (λ c. Cat c (pattern_of (node_of b))) (pattern_of_node a) ∙ ap (λ c. Cat a c) (pattern_of_node b)
pattern_of_node (Alt a b) = ap (λ c. Alt c (pattern_of (node_of b))) (pattern_of_node a) ∙ ap (λ c. Alt a c) (pattern_of_node b)
pattern_of_node (Arbno a) = ap Arbno (pattern_of_node a)
pattern_of_node (Conditional a v) = ap (λ c. Conditional c v) (pattern_of_node a)
pattern_of_node (Immediate a v) = ap (λ c. Immediate c v) (pattern_of_node a)
pattern_of_node (Cursor v) = refl
pattern_of_node (Defer v) = refl
pattern_of_node Fail = refl
pattern_of_node Abort = refl
pattern_of_node Fence = refl
pattern_of_node Succeed = refl

abbrev pub pattern_code : Coded Pattern
pattern_code = code_by Node the_row.coded node_of pattern_of pattern_of_node
