-- Whatever holds of interactions behind so many beginnings holds of a turn, if it holds of all that statements do to a job's state.
use Rattle.std.proofs.Common.{◌≡◌, ℕ, zero, suc, ◌+◌, List, Option, Some, None, refl, subst}
use Rattle.std.specs.{Prelude.{slice_get}, Option.{option_map_or}}
use Rattle.interaction.specs.Interactions.{Interaction, Returns, ◌>>=◌}
use Rattle.sno_expression.specs.Expressions.{Expression}
use Rattle.sno_pattern.specs.declared.ending.MatchEnd.{MatchEnd}
use Rattle.sno_value.specs.declared.value.Value.{Value}
use Rattle.sno_semantics.specs.declared.got.{Halt.TheVariants.{Normal, StatementLimit}, Evaluated.{Evaluated}}
use Rattle.sno_semantics.specs.{declared.got.Evaluated.TheVariants.{Halts}, Evaluation.{evaluate, name_of}, Keeping.{Keeping, Enters}}
use Rattle.sno_semantics.specs.{Lines.{Point, At, End, Return, FailureReturn, Line, Lines}, Execution.{Jump, On, Over}}
use Rattle.sno_semantics.specs.Running.{Turned, Ended, executed, passed, if_begun, run_line, run, settled, turn_line, turn}
use Rattle.sno_semantics.proofs.Relating.{Keeps, executed_alike, passed_alike}

module _ {Q R K : Type 0} (begun : K → ℕ) (P : (A : Type 0) → ℕ → Interaction Q R (A × K) → Type 0)
    (done : (A : Type 0) (r : A × K) → P A (begun r.1) (Returns r))
    (then : (A C : Type 0) (n : ℕ) (t : Interaction Q R (A × K)) (k : A × K → Interaction Q R (C × K))
    → P A n t → ((r : A × K) → P C (begun r.1) (k r)) → P C n (t >>= k)) where
  -- it holds of all that statements do to a state
  pub record Grows (keeping : Keeping Q R K) : Type 1 where
    pub used : (name : List ℕ) (st : K) → P Evaluated (begun st) (keeping.used name st)
    pub assigned : (name : List ℕ) (v : Value) (st : K) → P Evaluated (begun st) (keeping.assigned name v st)
    pub keyword_set : (name : List ℕ) (v : Value) (st : K) → begun (keeping.keyword_set name v st).1 ≡ begun st
    pub item_set : (t k v : Value) (st : K) → begun (keeping.item_set t k v st).1 ≡ begun st
    pub matched : (text : List ℕ) (p : Value) (st : K) → P MatchEnd (begun st) (keeping.matched text p st)
    pub noted : (A : Type 0) (number : ℕ) (st after : K) (t : Interaction Q R (A × K)) → keeping.begun number st ≡ Some after
        → P A (begun after) t → P A (begun st) (keeping.noted >>= (λ _. t))
    pub entered : (f : List ℕ) (vs : List Value) (entry : List ℕ) (st inside : K) → keeping.entered f vs st ≡ Enters entry inside → begun inside ≡ begun st
    pub left : (st : K) → begun (keeping.left st).1 ≡ begun st
    pub primitive : (f : List ℕ) (vs : List Value) (st : K) → P Evaluated (begun st) (keeping.primitive f vs st)

  -- of one interaction, whatever another is
  abbrev Alone : (A : Type 0) → K → Interaction Q R (A × K) → Interaction Q R (A × K) → Type 0
  Alone A st t t' = P A (begun st) t

  alone_then : (A C : Type 0) (st : K) (t t' : Interaction Q R (A × K)) (k k' : A × K → Interaction Q R (C × K))
      → Alone A st t t' → ((r : A × K) → Alone C r.1 (k r) (k' r)) → Alone C st (t >>= k) (t' >>= k')
  alone_then A C st t t' k k' h g = then A C (begun st) t k h g

  module _ (keeping : Keeping Q R K) (grows : Grows keeping) where
    keeps : Keeps Alone done alone_then keeping
    keeps = record {
      used = λ name st. grows.used name st;
      assigned = λ name v st. grows.assigned name v st;
      keyword_set = λ name v st.
          subst (λ (n : ℕ). P Evaluated n (Returns (keeping.keyword_set name v st))) (grows.keyword_set name v st) (done Evaluated (keeping.keyword_set name v st));
      item_set = λ t k v st.
          subst (λ (n : ℕ). P Evaluated n (Returns (keeping.item_set t k v st))) (grows.item_set t k v st) (done Evaluated (keeping.item_set t k v st));
      matched = λ text p st. grows.matched text p st;
      entered = λ f vs entry st inside is t t' h. subst (λ (n : ℕ). P Evaluated n t) (grows.entered f vs entry st inside is) h;
      left = λ got st. subst (λ (n : ℕ). P Evaluated n (Returns (got, (keeping.left st).1))) (grows.left st) (done Evaluated (got, (keeping.left st).1));
      primitive = λ f vs st. grows.primitive f vs st;
    }

    module _ (program : Lines Expression Expression) where
      abbrev Go : Type 0
      Go = Point → K → Interaction Q R (Evaluated × K)

      abbrev Holds : Go → Type 0
      Holds go = (p : Point) (st : K) → P Evaluated (begun st) (go p st)

      -- a statement that has begun
      abbrev does : Go → Line Expression Expression → ℕ → K → Interaction Q R (Jump × K)
      does go line i st = executed keeping evaluate name_of program go line i st

      -- where so many more may begin
      abbrev goes : ℕ → Go
      goes n = run keeping evaluate name_of program n

      holds_executed : (go : Go) → Holds go → (line : Line Expression Expression) (i : ℕ) (st : K)
          → P Jump (begun st) (does go line i st)
      holds_executed go g line i st = executed_alike Alone done alone_then keeping keeps program go go g line i st

      holds_passed : (go : Go) → Holds go → (r : Jump × K) → P Evaluated (begun r.1) (passed keeping evaluate name_of program go r)
      holds_passed go g r = passed_alike Alone done alone_then keeping keeps program go go g r

      holds_none : (o : Option (Line Expression Expression)) (st : K) → P Evaluated (begun st) (Returns (Halts (option_map_or (λ _. StatementLimit) o Normal), st))
      holds_none None st = done _ _
      holds_none (Some line) st = done _ _

      holds_begun : (go : Go) → Holds go → (i : ℕ) (line : Line Expression Expression) (st : K) (o : Option K) → keeping.begun (i + 1) st ≡ o
          → P Evaluated (begun st) (if_begun keeping evaluate name_of program (Halts StatementLimit) o st (λ st1. does go line i st1 >>= passed keeping evaluate name_of program go))
      holds_begun go g i line st None is = done _ _
      holds_begun go g i line st (Some after) is = grows.noted _ (i + 1) st after _ is (then _ _ _ _ _ (holds_executed go g line i after) (holds_passed go g))

      holds_line : (go : Go) → Holds go → (i : ℕ) (o : Option (Line Expression Expression)) (st : K)
          → P Evaluated (begun st) (run_line keeping evaluate name_of program go i o st)
      holds_line go g i None st = done _ _
      holds_line go g i (Some line) st = holds_begun go g i line st (keeping.begun (i + 1) st) refl

      holds_run : (n : ℕ) → Holds (goes n)
      holds_run zero (At i) st = holds_none (slice_get program.lines i) st
      holds_run zero End st = done _ _
      holds_run zero Return st = done _ _
      holds_run zero FailureReturn st = done _ _
      holds_run (suc n) (At i) st = holds_line (goes n) (holds_run n) i (slice_get program.lines i) st
      holds_run (suc n) End st = done _ _
      holds_run (suc n) Return st = done _ _
      holds_run (suc n) FailureReturn st = done _ _

      holds_settled : (r : Jump × K) → P Turned (begun r.1) (Returns (settled keeping evaluate name_of program r))
      holds_settled (On (At i), st) = done _ _
      holds_settled (On End, st) = done _ _
      holds_settled (On Return, st) = done _ _
      holds_settled (On FailureReturn, st) = done _ _
      holds_settled (Over e, st) = done _ _

      turn_begins : (n i : ℕ) (line : Line Expression Expression) (st : K) (o : Option K) → keeping.begun (i + 1) st ≡ o
          → P Turned (begun st) (if_begun keeping evaluate name_of program (Ended StatementLimit) o st (λ st1.
          does (goes n) line i st1 >>= (λ next. Returns (settled keeping evaluate name_of program next))))
      turn_begins n i line st None is = done _ _
      turn_begins n i line st (Some after) is =
          grows.noted _ (i + 1) st after _ is (then _ _ _ _ _ (holds_executed (goes n) (holds_run n) line i after) holds_settled)

      turn_at : (n i : ℕ) (o : Option (Line Expression Expression)) (st : K) → P Turned (begun st) (turn_line keeping evaluate name_of program n i o st)
      turn_at n i None st = done _ _
      turn_at n i (Some line) st = turn_begins n i line st (keeping.begun (i + 1) st) refl

      pub holds_turn : (n : ℕ) (p : Point) (st : K) → P Turned (begun st) (turn keeping evaluate name_of program n p st)
      holds_turn n (At i) st = turn_at n i (slice_get program.lines i) st
      holds_turn n End st = done _ _
      holds_turn n Return st = done _ _
      holds_turn n FailureReturn st = done _ _
