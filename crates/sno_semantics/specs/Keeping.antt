-- What is asked of the state K of a job (own): all that statements do to it, and what they ask of others meanwhile.
use Rattle.std.specs.Prelude.{ℕ, List, Option}
use Rattle.interaction.specs.Interactions.{Interaction}
use Rattle.sno_text.specs.declared.fault.Fault.{Fault as AFault}
use Rattle.sno_pattern.specs.declared.ending.MatchEnd.{MatchEnd}
use Rattle.sno_value.specs.declared.value.Value.{Value}
use Rattle.sno_value.specs.declared.outcome.Outcome.{Outcome}
use Rattle.sno_semantics.specs.declared.got.Evaluated.{Evaluated}
use Rattle.sno_semantics.specs.Outcomes.{Doing}

-- what a call comes to: the function is not one that the program defined; or its entry label, in the state where it is
-- entered; or a fault
pub data Entered (K : Type 0) : Type 0 where
  Undefined : Entered K
  Enters : (entry : List ℕ) → K → Entered K
  Refused : AFault → Entered K

pub record Keeping (Q R K : Type 0) : Type 0 where
  -- the value of a variable is used
  pub used : List ℕ → Doing Q R K
  -- a variable is assigned a value
  pub assigned : List ℕ → Value → Doing Q R K
  pub keyword : List ℕ → K → Outcome
  pub keyword_set : List ℕ → Value → K → Evaluated × K
  -- an item, by what is a table and what is a key; and it is set
  pub item : Value → Value → K → Outcome
  pub item_set : Value → Value → Value → K → Evaluated × K
  -- how many characters a string that is formed may have
  pub most : K → ℕ
  -- a text is matched by what a value stands for as a pattern
  pub matched : List ℕ → Value → K → Interaction Q R (MatchEnd × K)
  -- the statement of this number begins, if one more may
  pub begun : ℕ → K → Option K
  -- what is told of it, as it begins
  pub noted : Interaction Q R (Unit {0})
  -- a function is called with these values
  pub entered : List ℕ → List Value → K → Entered K
  -- it is left, with its value
  pub left : K → Value × K
  -- a function that the program did not define
  pub primitive : List ℕ → List Value → Doing Q R K

-- what an expression rests on: the state of the job, and what a call of a function with these values does
pub record Setting (Q R K : Type 0) : Type 0 where
  pub keeping : Keeping Q R K
  pub called : List ℕ → List Value → Doing Q R K

-- expressions, where calls do this
abbrev pub setting_of : {Q R K : Type 0} → Keeping Q R K → (List ℕ → List Value → Doing Q R K) → Setting Q R K
setting_of keeping called = record { keeping = keeping; called = called }
