-- What relates two interactions from a state on relates two runs of a statement, if it relates all that statements do to a job's state
-- with itself, and the calls of the one run with those of the other.
use Rattle.std.proofs.Common.{◌≡◌, ℕ, Bool, true, false, cond, List, [], ◌∷◌, ◌++◌, Option, Some, None, refl}
use Rattle.std.specs.{Prelude.{take, drop}, Option.{option_map_or}}
use Rattle.interaction.specs.Interactions.{Interaction, Returns, ◌>>=◌}
use Rattle.sno_expression.specs.declared.tree.UnaryOperator.TheVariants as unary
use Rattle.sno_expression.specs.{Marks.{needs_variable}, Expressions.{NoArguments, Omitted, Argument}}
use Rattle.sno_expression.specs.Expressions.{Expression, Identifier, Constant, Keyword, Unevaluated, Group, Call, TableItem, Unary, Binary, Arguments}
use Rattle.sno_syntax.specs.Labels.{LabelList}
use Rattle.sno_pattern.specs.declared.ending.{Pending.{Pending}, MatchEnd.{MatchEnd}}
use Rattle.sno_pattern.specs.declared.ending.MatchEnd.TheVariants as end
use Rattle.sno_value.specs.{declared.value.Value.{Value}, Values.{null, text_of}, Outcomes.{string}}
use Rattle.sno_value.specs.declared.value.Value.TheVariants as value
use Rattle.sno_text.specs.declared.fault.Fault.TheVariants.{WrongType, Null, Goto}
use Rattle.sno_semantics.specs.{declared.got.Halt.TheVariants.{Fault}, declared.got.Evaluated.{Evaluated}, Operators.{table, key}}
use Rattle.sno_semantics.specs.{declared.got.Evaluated.TheVariants.{Gives, Fails, Halts}, Outcomes.{with_value, got_of, Doing, reads, comes_to, with_name}}
use Rattle.sno_semantics.specs.{Evaluation.{evaluate, name_of, evaluate_all}, Keeping.{Setting, Keeping, Entered, Undefined, Enters, Refused, setting_of}}
use Rattle.sno_semantics.specs.Lines.{Destination, Variable, ItemAt, Act, Nothing, Uses, SetsKeyword, Assigns, Matches, Replaces, Point, At, End, Return}
use Rattle.sno_semantics.specs.Lines.{FailureReturn, Target, Following, To, Computed, Line, Lines, point_of}
use Rattle.sno_semantics.specs.Execution.{Jump, On, Over, computed_next, Place, OfName, OfItem, assign_all, put_in_place, with_match, object_of, match_then}
use Rattle.sno_semantics.specs.{Execution.{place_then, perform, followed, execute}, Running.{returned, go_from, call_by, executed, passed}}
use Rattle.sno_value.specs.declared.outcome.Outcome.TheVariants as outcome

module _ {Q R K : Type 0} (Related : (A : Type 0) → K → Interaction Q R (A × K) → Interaction Q R (A × K) → Type 0)
    (done : (A : Type 0) (r : A × K) → Related A r.1 (Returns r) (Returns r))
    (then : (A C : Type 0) (st : K) (t t' : Interaction Q R (A × K)) (k k' : A × K → Interaction Q R (C × K))
    → Related A st t t' → ((r : A × K) → Related C r.1 (k r) (k' r)) → Related C st (t >>= k) (t' >>= k')) where
  -- one after the other
  after : {A C : Type 0} {st : K} {t t' : Interaction Q R (A × K)} {k k' : A × K → Interaction Q R (C × K)}
      → Related A st t t' → ((r : A × K) → Related C r.1 (k r) (k' r)) → Related C st (t >>= k) (t' >>= k')
  after h g = then _ _ _ _ _ _ _ h g

  of_value : (r : Evaluated × K) {k k' : Value → K → Interaction Q R (Evaluated × K)} → ((v : Value) (st : K) → Related Evaluated st (k v st) (k' v st))
      → Related Evaluated r.1 (with_value r k) (with_value r k')
  of_value (Gives v, st) g = g v st
  of_value (Fails, st) g = done Evaluated (Fails, st)
  of_value (Halts e, st) g = done Evaluated (Halts e, st)

  of_name : (st : K) (k k' : List ℕ → Doing Q R K) → ((n : List ℕ) → Related Evaluated st (k n st) (k' n st)) → (n : List ℕ)
      → Related Evaluated st ((elim n as (λ _. Doing Q R K) [ [] ↦ comes_to (outcome.Faults Null) | c ∷ cs ↦ k (c ∷ cs) ]) st)
      ((elim n as (λ _. Doing Q R K) [ [] ↦ comes_to (outcome.Faults Null) | c ∷ cs ↦ k' (c ∷ cs) ]) st)
  of_name st k k' g [] = done _ _
  of_name st k k' g (c ∷ cs) = g (c ∷ cs)

  of_text : (o : Option (List ℕ)) (st : K) (k k' : List ℕ → Doing Q R K) → ((n : List ℕ) → Related Evaluated st (k n st) (k' n st))
      → Related Evaluated st (option_map_or k o (comes_to (outcome.Faults WrongType)) st) (option_map_or k' o (comes_to (outcome.Faults WrongType)) st)
  of_text None st k k' g = done _ _
  of_text (Some text) st k k' g = g text

  of_named : (v : Value) (st : K) (k k' : List ℕ → Doing Q R K) → ((n : List ℕ) → Related Evaluated st (k n st) (k' n st))
      → Related Evaluated st (with_name v k st) (with_name v k' st)
  of_named v st k k' g = of_text (text_of v) st _ _ (of_name st k k' g)

  abbrev negated : Evaluated × K → Evaluated × K
  negated (got, st) = (elim got [ Gives v ↦ Fails | Fails ↦ Gives null | Halts h ↦ Halts h ], st)

  of_negated : (r : Evaluated × K) → Related Evaluated r.1 (Returns (negated r)) (Returns (negated r))
  of_negated (Gives v, st) = done _ _
  of_negated (Fails, st) = done _ _
  of_negated (Halts e, st) = done _ _

  abbrev computed_by : LabelList → Evaluated × K → Jump × K
  computed_by labels (got, st) = (elim got [ Gives v ↦ computed_next labels (text_of v) | Fails ↦ Over (Fault Goto) | Halts h ↦ Over h ], st)

  of_computed : (labels : LabelList) (r : Evaluated × K) → Related Jump r.1 (Returns (computed_by labels r)) (Returns (computed_by labels r))
  of_computed labels (Gives v, st) = done _ _
  of_computed labels (Fails, st) = done _ _
  of_computed labels (Halts e, st) = done _ _

  either : (v : Bool) (st : K) (m m' n n' : Doing Q R K) → Related Evaluated st (m st) (m' st) → Related Evaluated st (n st) (n' st)
      → Related Evaluated st (cond v m n st) (cond v m' n' st)
  either true st m m' n n' h g = h
  either false st m m' n n' h g = g

  -- all that statements do to a job's state is related with itself
  pub record Keeps (keeping : Keeping Q R K) : Type 0 where
    pub used : (name : List ℕ) (st : K) → Related Evaluated st (keeping.used name st) (keeping.used name st)
    pub assigned : (name : List ℕ) (v : Value) (st : K) → Related Evaluated st (keeping.assigned name v st) (keeping.assigned name v st)
    pub keyword_set : (name : List ℕ) (v : Value) (st : K)
        → Related Evaluated st (Returns (keeping.keyword_set name v st)) (Returns (keeping.keyword_set name v st))
    pub item_set : (t k v : Value) (st : K) → Related Evaluated st (Returns (keeping.item_set t k v st)) (Returns (keeping.item_set t k v st))
    pub matched : (text : List ℕ) (p : Value) (st : K) → Related MatchEnd st (keeping.matched text p st) (keeping.matched text p st)
    pub entered : (f : List ℕ) (vs : List Value) (entry : List ℕ) (st inside : K) → keeping.entered f vs st ≡ Enters entry inside
        → (t t' : Interaction Q R (Evaluated × K)) → Related Evaluated inside t t' → Related Evaluated st t t'
    pub left : (got : Evaluated) (st : K) → Related Evaluated st (Returns (got, (keeping.left st).1)) (Returns (got, (keeping.left st).1))
    pub primitive : (f : List ℕ) (vs : List Value) (st : K) → Related Evaluated st (keeping.primitive f vs st) (keeping.primitive f vs st)

  module _ (keeping : Keeping Q R K) (keeps : Keeps keeping) where
    -- expressions, where calls are related
    module _ (c c' : List ℕ → List Value → K → Interaction Q R (Evaluated × K))
        (calls : (f : List ℕ) (vs : List Value) (st : K) → Related Evaluated st (c f vs st) (c' f vs st)) where
      abbrev s : Setting Q R K
      s = setting_of keeping c

      abbrev s' : Setting Q R K
      s' = setting_of keeping c'

      abbrev named_by : List ℕ → Doing Q R K
      named_by name = comes_to (outcome.Gives (value.Text name))

      mutual
        pub evaluates : (t : Expression) (st : K) → Related Evaluated st (evaluate s t st) (evaluate s' t st)
        evaluates (Identifier n) st = keeps.used n st
        evaluates (Constant v) st = done _ _
        evaluates (Keyword n) st = done _ _
        evaluates (Unevaluated n) st = done _ _
        evaluates (Group t) st = evaluates t st
        evaluates (Call f args) st = all_evaluate args (calls f) st
        evaluates (TableItem n t) st =
            after (after (keeps.used n st) (λ r. of_value r (λ v st1. done _ _))) (λ r. of_value r (λ v st1.
            after (evaluates t st1) (λ r2. of_value r2 (λ u st2. done _ _))))
        evaluates (Unary unary.Plus t) st = after (evaluates t st) (λ r. of_value r (λ v st1. done _ _))
        evaluates (Unary unary.Minus t) st = after (evaluates t st) (λ r. of_value r (λ v st1. done _ _))
        evaluates (Unary unary.Indirect t) st =
            after (evaluates t st) (λ r. of_value r (λ v st1. of_named v st1 keeping.used keeping.used (λ name. keeps.used name st1)))
        evaluates (Unary unary.Name t) st = names t st
        evaluates (Unary unary.Cursor t) st = after (names t st) (λ r. of_value r (λ v st1. done _ _))
        evaluates (Unary unary.Not t) st = after (evaluates t st) of_negated
        evaluates (Unary unary.Query t) st = after (evaluates t st) (λ r. of_value r (λ v st1. done _ _))
        evaluates (Binary o a e) st =
            after (evaluates a st) (λ r. of_value r (λ v st1.
            after (either (needs_variable o) st1 _ _ _ _ (names e st1) (evaluates e st1)) (λ r2. of_value r2 (λ u st2. done _ _))))

        pub names : (t : Expression) (st : K) → Related Evaluated st (name_of s t st) (name_of s' t st)
        names (Identifier n) st = done _ _
        names (Unary unary.Indirect t) st =
            after (evaluates t st) (λ r. of_value r (λ v st1. of_named v st1 named_by named_by (λ name. done _ (Gives (value.Text name), st1))))
        names _ st = done _ _

        pub all_evaluate : (a : Arguments) {go go' : List Value → Doing Q R K}
            → ((vs : List Value) (st : K) → Related Evaluated st (go vs st) (go' vs st)) → (st : K)
            → Related Evaluated st (evaluate_all s a go st) (evaluate_all s' a go' st)
        all_evaluate NoArguments g st = g [] st
        all_evaluate (Omitted args) g st = all_evaluate args (λ vs st1. g (vs ++ null ∷ []) st1) st
        all_evaluate (Argument args t) g st =
            all_evaluate args (λ vs st1. after (evaluates t st1) (λ r. of_value r (λ v st2. g (vs ++ v ∷ []) st2))) st

    -- statements, where expressions are related
    module _ {E N : Type 0} (ev ev' : E → K → Interaction Q R (Evaluated × K)) (nm nm' : N → K → Interaction Q R (Evaluated × K))
        (of_ev : (e : E) (st : K) → Related Evaluated st (ev e st) (ev' e st)) (of_nm : (v : N) (st : K) → Related Evaluated st (nm v st) (nm' v st)) where
      all_assigned : (ps : List Pending) (st : K) → Related Evaluated st (assign_all keeping ps st) (assign_all keeping ps st)
      all_assigned [] st = done _ _
      all_assigned (p ∷ ps) st = after (keeps.assigned p.variable (value.Text p.text) st) (λ r. of_value r (λ v st1. all_assigned ps st1))

      of_match : (r : MatchEnd × K) {go go' : ℕ → ℕ → Doing Q R K} → ((from to : ℕ) (st : K) → Related Evaluated st (go from to st) (go' from to st))
          → Related Evaluated r.1 (with_match keeping go r) (with_match keeping go' r)
      of_match (end.Matched from to pending, st) g = after (all_assigned pending st) (λ r. of_value r (λ v st1. g from to st1))
      of_match (end.NoMatch, st) g = done _ _
      of_match (end.Limit, st) g = done _ _
      of_match (end.Fault fault, st) g = done _ _

      objects : (o : Option E) (st : K) → Related Evaluated st (object_of keeping ev nm o st) (object_of keeping ev' nm' o st)
      objects None st = done _ _
      objects (Some e) st = of_ev e st

      matched_then : (text : List ℕ) (e : E) (st : K) {go go' : ℕ → ℕ → Doing Q R K}
          → ((from to : ℕ) (st1 : K) → Related Evaluated st1 (go from to st1) (go' from to st1))
          → Related Evaluated st (match_then keeping ev nm text e go st) (match_then keeping ev' nm' text e go' st)
      matched_then text e st g = after (of_ev e st) (λ r. of_value r (λ p st1. after (keeps.matched text p st1) (λ m. of_match m g)))

      placed : (d : Destination E N) (st : K) {go go' : Place → Doing Q R K}
          → ((place : Place) (st1 : K) → Related Evaluated st1 (go place st1) (go' place st1))
          → Related Evaluated st (place_then keeping ev nm d go st) (place_then keeping ev' nm' d go' st)
      placed (Variable v) st {go} {go'} g =
          after (of_nm v st) (λ r. of_value r (λ u st1.
          of_named u st1 (λ name. go (OfName name)) (λ name. go' (OfName name)) (λ name. g (OfName name) st1)))
      placed (ItemAt t k) st g =
          after (of_ev t st) (λ r. of_value r (λ v st1. of_value (got_of (table v), st1) (λ holder st2.
          after (of_ev k st2) (λ r2. of_value r2 (λ u st3. of_value (got_of (key u), st3) (λ by st4. g (OfItem holder by) st4))))))

      puts : (place : Place) (v : Value) (st : K) → Related Evaluated st (put_in_place keeping place v st) (put_in_place keeping place v st)
      puts (OfName name) v st = keeps.assigned name v st
      puts (OfItem t k) v st = keeps.item_set t k v st

      abbrev held : Place → Doing Q R K
      held place = elim place [ OfName name ↦ keeping.used name | OfItem t k ↦ reads (keeping.item t k) ]

      holds : (place : Place) (st : K) → Related Evaluated st (held place st) (held place st)
      holds (OfName name) st = keeps.used name st
      holds (OfItem t k) st = done _ _

      abbrev put_string : Place → List ℕ → Doing Q R K
      put_string place text st = Returns (got_of (string (keeping.most st) text), st) >>= (λ got. with_value got (put_in_place keeping place))

      strings : (place : Place) (text : List ℕ) (st : K) → Related Evaluated st (put_string place text st) (put_string place text st)
      strings place text st = of_value (got_of (string (keeping.most st) text), st) (λ v st1. puts place v st1)

      performs : (a : Act E N) (st : K) → Related Evaluated st (perform keeping ev nm a st) (perform keeping ev' nm' a st)
      performs Nothing st = done _ _
      performs (Uses e) st = of_ev e st
      performs (SetsKeyword name object) st = after (objects object st) (λ r. of_value r (λ v st1. keeps.keyword_set name v st1))
      performs (Assigns destination object) st =
          placed destination st (λ place st1. after (objects object st1) (λ r. of_value r (λ v st2. puts place v st2)))
      performs (Matches subject pattern) st =
          after (of_ev subject st) (λ r. of_value r (λ v st1.
          of_text (text_of v) st1 _ _ (λ text. matched_then text pattern st1 (λ from to st2. done _ _))))
      performs (Replaces destination pattern object) st =
          placed destination st (λ place st1.
          after (holds place st1) (λ r. of_value r (λ v st2.
          of_text (text_of v) st2 _ _ (λ text. matched_then text pattern st2 (λ from to st3.
          after (objects object st3) (λ r4. of_value r4 (λ w st4.
          of_text (text_of w) st4 _ _ (λ part. strings place (take from text ++ (part ++ drop to text)) st4))))))))

      follows : (labels : LabelList) (t : Target E) (i : ℕ) (st : K)
          → Related Jump st (followed keeping ev nm labels t i st) (followed keeping ev' nm' labels t i st)
      follows labels Following i st = done _ _
      follows labels (To p) i st = done _ _
      follows labels (Computed e) i st = after (of_ev e st) (of_computed labels)

      goes_to : (labels : LabelList) (line : Line E N) (i : ℕ) (r : Evaluated × K)
          → Related Jump r.1 (elim r.0 [ Gives v ↦ followed keeping ev nm labels line.success i r.1 | Fails ↦ followed keeping ev nm labels line.failure i r.1 | Halts h ↦ Returns (Over h, r.1) ])
          (elim r.0 [ Gives v ↦ followed keeping ev' nm' labels line.success i r.1 | Fails ↦ followed keeping ev' nm' labels line.failure i r.1 | Halts h ↦ Returns (Over h, r.1) ])
      goes_to labels line i (Gives v, st) = follows labels line.success i st
      goes_to labels line i (Fails, st) = follows labels line.failure i st
      goes_to labels line i (Halts e, st) = done _ _

      pub executes : (labels : LabelList) (line : Line E N) (i : ℕ) (st : K)
          → Related Jump st (execute keeping ev nm labels line i st) (execute keeping ev' nm' labels line i st)
      executes labels line i st = after (performs line.act st) (goes_to labels line i)

    -- a statement of a program, where runs from a point on are related
    module _ (program : Lines Expression Expression) (go go' : Point → K → Interaction Q R (Evaluated × K))
        (goes : (p : Point) (st : K) → Related Evaluated st (go p st) (go' p st)) where
      back : (r : Evaluated × K) → Related Evaluated r.1 (Returns (returned keeping evaluate name_of program r)) (Returns (returned keeping evaluate name_of program r))
      back (Gives v, st) = keeps.left (Gives (keeping.left st).0) st
      back (Fails, st) = keeps.left Fails st
      back (Halts e, st) = done _ _

      from_label : (o : Option Point) (st : K)
          → Related Evaluated st (go_from keeping evaluate name_of program go o st) (go_from keeping evaluate name_of program go' o st)
      from_label None st = done _ _
      from_label (Some (At i)) st = after (goes (At i) st) back
      from_label (Some End) st = done _ _
      from_label (Some Return) st = done _ _
      from_label (Some FailureReturn) st = done _ _

      called : (f : List ℕ) (vs : List Value) (st : K) (e : Entered K) → keeping.entered f vs st ≡ e
          → Related Evaluated st (call_by keeping evaluate name_of program go e f vs st) (call_by keeping evaluate name_of program go' e f vs st)
      called f vs st Undefined is = keeps.primitive f vs st
      called f vs st (Enters entry inside) is =
          keeps.entered f vs entry st inside is _ _ (from_label (point_of program.labels entry) inside)
      called f vs st (Refused fault) is = done _ _

      abbrev calls_of : (Point → K → Interaction Q R (Evaluated × K)) → List ℕ → List Value → K → Interaction Q R (Evaluated × K)
      calls_of run f vs st = call_by keeping evaluate name_of program run (keeping.entered f vs st) f vs st

      all_called : (f : List ℕ) (vs : List Value) (st : K) → Related Evaluated st (calls_of go f vs st) (calls_of go' f vs st)
      all_called f vs st = called f vs st (keeping.entered f vs st) refl

      pub executed_alike : (line : Line Expression Expression) (i : ℕ) (st : K)
          → Related Jump st (executed keeping evaluate name_of program go line i st) (executed keeping evaluate name_of program go' line i st)
      executed_alike line i st =
          executes
          (evaluate (setting_of keeping (calls_of go))) (evaluate (setting_of keeping (calls_of go')))
          (name_of (setting_of keeping (calls_of go))) (name_of (setting_of keeping (calls_of go')))
          (evaluates (calls_of go) (calls_of go') all_called) (names (calls_of go) (calls_of go') all_called)
          program.labels line i st

      pub passed_alike : (r : Jump × K)
          → Related Evaluated r.1 (passed keeping evaluate name_of program go r) (passed keeping evaluate name_of program go' r)
      passed_alike (On p, st) = goes p st
      passed_alike (Over e, st) = done _ _
