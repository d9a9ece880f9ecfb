-- What comes of a pattern when it is met: whether it asks, has parts, and which part is met right after it.
use Rattle.std.specs.Prelude.{Option, Some, None}
use Rattle.sno_text.specs.Patterns.{Pattern}
use Rattle.sno_text.specs.Patterns as pattern
use Rattle.sno_text.specs.Nodes.{pattern_of}
use Rattle.sno_pattern.specs.declared.meeting.Part.{Part}
use Rattle.sno_pattern.specs.declared.meeting.Part.TheVariants as part

-- a pattern that asks the host nothing when it is taken
abbrev pub IsQuiet : Pattern → Type 0
IsQuiet (pattern.Cursor v) = ⊥
IsQuiet (pattern.Defer v) = ⊥
IsQuiet _ = Unit {0}

-- one whose first part is met at once
abbrev pub IsEntered : Pattern → Type 0
IsEntered (pattern.Cat a b) = Unit {0}
IsEntered (pattern.Alt a b) = Unit {0}
IsEntered (pattern.Conditional p v) = Unit {0}
IsEntered (pattern.Immediate p v) = Unit {0}
IsEntered _ = ⊥

-- one of the others that ask nothing and yet are not met at one place alone
abbrev pub IsParted : Pattern → Type 0
IsParted pattern.Arb = Unit {0}
IsParted pattern.Bal = Unit {0}
IsParted (pattern.Arbno p) = Unit {0}
IsParted pattern.Abort = Unit {0}
IsParted pattern.Fence = Unit {0}
IsParted pattern.Succeed = Unit {0}
IsParted _ = ⊥

-- the part of a pattern that is met right after it, at the same cursor, where there is one such part
abbrev pub first_part : Pattern → Option Pattern
first_part (pattern.Cat a b) = Some a
first_part (pattern.Conditional a v) = Some a
first_part (pattern.Immediate a v) = Some a
first_part _ = None

-- a part that was told apart, as the pattern that it is
abbrev pub pattern_met : Part → Pattern
pattern_met (part.Defer v) = pattern.Defer v.now
pattern_met (part.Cursor v) = pattern.Cursor v.now
pattern_met (part.Plain node) = pattern_of node.now.value

-- one that is neither of the others asks nothing, and none of its parts is met at once
abbrev pub IsPlain : Part → Type 0
IsPlain (part.Plain node) = IsQuiet (pattern_of node.now.value) × (IsEntered (pattern_of node.now.value) → ⊥)
IsPlain _ = Unit {0}
