-- What a match asks of its host, and what the host may tell (own).
use Rattle.std.specs.Prelude.{ℕ, List}
use Rattle.sno_text.specs.declared.fault.Fault.{Fault as AFault}
use Rattle.sno_pattern.specs.declared.host.Looked.{Looked}
use Rattle.sno_pattern.specs.declared.host.Taken.{Taken}

-- what a match asks
pub data Look : Type 0 where
  -- what a variable stands for in a pattern now
  LookUp : (variable : List ℕ) → Look
  -- what a variable has from now on
  Assign : (variable : List ℕ) (taken : Taken) → Look

-- what a host tells
pub data Told : Type 0 where
  Found : (looked : Looked) → Told
  Given : Told
  Refused : Told
  Faulty : (fault : AFault) → Told

-- what it may tell: what it found where it was to look something up, that it was given where it was to assign, and always
-- that it fails, or a fault
abbrev pub Fits : Look → Told → Type 0
Fits (LookUp variable) (Found looked) = Unit {0}
Fits (LookUp variable) Given = ⊥
Fits (Assign variable taken) (Found looked) = ⊥
Fits (Assign variable taken) Given = Unit {0}
Fits look Refused = Unit {0}
Fits look (Faulty fault) = Unit {0}
