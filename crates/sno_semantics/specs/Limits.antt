-- How many statements may still begin (own).
use Rattle.std.specs.Prelude.{◌≡◌, ℕ, ◌≤◌, ◌<◌, List, Some}
use Rattle.interaction.specs.Endings.{EndsIn}
use Rattle.sno_expression.specs.Expressions.{Expression}
use Rattle.sno_pattern.specs.declared.ending.MatchEnd.{MatchEnd}
use Rattle.sno_value.specs.declared.value.Value.{Value}
use Rattle.sno_semantics.specs.declared.got.Evaluated.{Evaluated}
use Rattle.sno_semantics.specs.Keeping.{Keeping, Enters}
use Rattle.sno_semantics.specs.Evaluation.{evaluate, name_of}
use Rattle.sno_semantics.specs.Lines.{Lines, Point}
use Rattle.sno_semantics.specs.Running.{run, turn}

-- so many statements may still begin: each that begins is one of them, and nothing that is done makes them more
pub record Counts {Q R K : Type 0} (keeping : Keeping Q R K) (allowed : K → ℕ) : Type 0 where
  pub used : (name : List ℕ) (st : K) → EndsIn (λ (r : Evaluated × K). allowed r.1 ≤ allowed st) (keeping.used name st)
  pub assigned : (name : List ℕ) (v : Value) (st : K) → EndsIn (λ (r : Evaluated × K). allowed r.1 ≤ allowed st) (keeping.assigned name v st)
  pub keyword_set : (name : List ℕ) (v : Value) (st : K) → allowed (keeping.keyword_set name v st).1 ≤ allowed st
  pub item_set : (table key v : Value) (st : K) → allowed (keeping.item_set table key v st).1 ≤ allowed st
  pub matched : (text : List ℕ) (p : Value) (st : K) → EndsIn (λ (r : MatchEnd × K). allowed r.1 ≤ allowed st) (keeping.matched text p st)
  pub begun : (number : ℕ) (st after : K) → keeping.begun number st ≡ Some after → allowed after < allowed st
  pub entered : (f : List ℕ) (vs : List Value) (entry : List ℕ) (st inside : K) → keeping.entered f vs st ≡ Enters entry inside → allowed inside ≤ allowed st
  pub left : (st : K) → allowed (keeping.left st).1 ≤ allowed st
  pub primitive : (f : List ℕ) (vs : List Value) (st : K) → EndsIn (λ (r : Evaluated × K). allowed r.1 ≤ allowed st) (keeping.primitive f vs st)

-- as many as may still begin are enough: a larger number ends no run later
abbrev pub LimitIsExact : (Q R K : Type 0) → Type 0
LimitIsExact Q R K = (keeping : Keeping Q R K) (allowed : K → ℕ) → Counts keeping allowed
    → (program : Lines Expression Expression) (n m : ℕ) (p : Point) (st : K) → allowed st ≤ n → allowed st ≤ m
    → (run keeping evaluate name_of program n p st ≡ run keeping evaluate name_of program m p st)
    × (turn keeping evaluate name_of program n p st ≡ turn keeping evaluate name_of program m p st)
