-- Patterns (SNOBOL4 book, chapter 2), and how deep they are (own).
use Rattle.std.specs.Prelude.{ℕ, ◌+◌, List, Result, Ok, Err, if◌then◌else◌, nat_le}
use Rattle.sno_text.specs.declared.fault.Fault.{Fault}
use Rattle.sno_text.specs.declared.fault.Fault.TheVariants.{Depth}

-- one constructor for each row of the step table
pub data Pattern : Type 0 where
  Text : (text : List ℕ) → Pattern
  Len : (n : ℕ) → Pattern
  Pos : (n : ℕ) → Pattern
  RPos : (n : ℕ) → Pattern
  Tab : (n : ℕ) → Pattern
  RTab : (n : ℕ) → Pattern
  Rem : Pattern
  Any : (characters : List ℕ) → Pattern
  NotAny : (characters : List ℕ) → Pattern
  Span : (characters : List ℕ) → Pattern
  Break : (characters : List ℕ) → Pattern
  Arb : Pattern
  Bal : Pattern
  Cat : (a b : Pattern) → Pattern
  Alt : (a b : Pattern) → Pattern
  Arbno : (p : Pattern) → Pattern
  -- p . V
  Conditional : (p : Pattern) (variable : List ℕ) → Pattern
  -- p $ V
  Immediate : (p : Pattern) (variable : List ℕ) → Pattern
  -- @V
  Cursor : (variable : List ℕ) → Pattern
  -- *V
  Defer : (variable : List ℕ) → Pattern
  Fail : Pattern
  Abort : Pattern
  Fence : Pattern
  Succeed : Pattern

abbrev pub larger : ℕ → ℕ → ℕ
larger m n = if nat_le m n then n else m

-- how many nodes stand on the longest way down; a variable of *V is not looked up
abbrev pub depth : Pattern → ℕ
depth (Cat a b) = 1 + larger (depth a) (depth b)
depth (Alt a b) = 1 + larger (depth a) (depth b)
depth (Arbno p) = 1 + depth p
depth (Conditional p v) = 1 + depth p
depth (Immediate p v) = 1 + depth p
depth _ = 1

abbrev pub most_depth : ℕ
most_depth = 1000

-- the pattern, where it is not too deep
abbrev pub within_depth : Pattern → Result Pattern Fault
within_depth p = if nat_le (depth p) most_depth then Ok p else Err Depth
