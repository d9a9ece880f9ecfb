-- Worked cases: what definitions come to, over a state of one variable and a limit of two statements.
use Rattle.std.proofs.Common.{◌≡◌, ℕ, ◌+◌, nat_lt, [], ◌∷◌, Some, None, refl, if◌then◌else◌}
use Rattle.std.specs.Prelude.{pos, codes, bytes_eq}
use Rattle.interaction.specs.Interactions.{Interaction, Returns}
use Rattle.sno_lexer.specs.declared.token.Constant.TheVariants.{Literal, Integer as Written}
use Rattle.sno_text.specs.declared.fault.Fault.TheVariants as fault
use Rattle.sno_expression.specs.declared.tree.BinaryOperator.TheVariants.{Plus, Over, Times, Power}
use Rattle.sno_expression.specs.Expressions.{Expression, Identifier, Constant, Call, Unary, Binary, NoArguments, Omitted}
use Rattle.sno_expression.specs.declared.tree.UnaryOperator.TheVariants as unary
use Rattle.sno_statement.specs.Statements.{Says, Does, NoBody, ValueObject, Always}
use Rattle.sno_statement.specs.Statements as statement
use Rattle.sno_pattern.specs.declared.ending.MatchEnd.TheVariants as end
use Rattle.sno_value.specs.{declared.value.Value.{Value}, declared.value.Value.TheVariants.{Text, Integer}, Values.{null}}
use Rattle.sno_value.specs.declared.outcome.Outcome.TheVariants as outcome
use Rattle.sno_semantics.specs.{declared.got.Halt.TheVariants.{Normal, StatementLimit, Fault}, declared.got.Evaluated.{Evaluated}, Lines.{Lines, At, lines_of}}
use Rattle.sno_semantics.specs.{declared.got.Evaluated.TheVariants.{Gives, Fails, Halts}, Evaluation.{evaluate, name_of}, Running.{Turned, Goes, Ended, turn}}
use Rattle.sno_semantics.specs.Keeping.{Setting, Keeping, Undefined, Enters, setting_of}

record Small : Type 0 where
  value : Value
  begun : ℕ

-- a call of F is of a function whose entry has this name; all else is no function
abbrev small_keeping : Keeping ℕ ℕ Small
small_keeping = record {
  used = λ name st. Returns (Gives st.value, st);
  assigned = λ name v st. Returns (Gives null, record st { value = v });
  item = λ t k st. outcome.Faults fault.WrongType;
  item_set = λ t k v st. (Halts (Fault fault.WrongType), st);
  keyword = λ name st. outcome.Faults fault.Keyword;
  keyword_set = λ name v st. (Halts (Fault fault.Keyword), st);
  most = λ st. 5000;
  matched = λ text p st. Returns (end.NoMatch, st);
  begun = λ number st. if nat_lt st.begun 2 then Some (record st { begun = st.begun + 1 }) else None;
  noted = Returns tt;
  entered = λ f vs st. if bytes_eq f (codes "F") then Enters f st else Undefined;
  left = λ st. (st.value, st);
  primitive = λ f vs st. Returns (Halts (Fault fault.Function), st);
}

abbrev small_setting : Setting ℕ ℕ Small
small_setting = setting_of small_keeping (λ f vs st. Returns (Fails, st))

abbrev number : ℕ → Expression
number n = Constant (Written (pos n))

abbrev small : Value → ℕ → Small
small v n = record { value = v; begun = n }

abbrev gives : Evaluated → Small → Interaction ℕ ℕ (Evaluated × Small)
gives got st = Returns (got, st)

-- `7 / 2 * 3` is 7 by 6
seven_by_six : (st : Small) → evaluate small_setting (Binary Over (number 7) (Binary Times (number 2) (number 3))) st ≡ gives (Gives (Integer (pos 1))) st
seven_by_six st = refl

-- `2 ** 3 ** 2` is 2 to the power 9
power_of_power : (st : Small) → evaluate small_setting (Binary Power (number 2) (Binary Power (number 3) (number 2))) st ≡ gives (Gives (Integer (pos 512))) st
power_of_power st = refl

-- `~F()` succeeds, as F() fails; `.X` is the name; `$''` is a fault
not_failure : (st : Small) → evaluate small_setting (Unary unary.Not (Call (codes "F") (Omitted NoArguments))) st ≡ gives (Gives null) st
not_failure st = refl

name_is_string : (st : Small) → evaluate small_setting (Unary unary.Name (Identifier (codes "X"))) st ≡ gives (Gives (Text (codes "X"))) st
name_is_string st = refl

null_names_nothing : (st : Small) → evaluate small_setting (Unary unary.Indirect (Constant (Literal []))) st ≡ gives (Halts (Fault fault.Null)) st
null_names_nothing st = refl

abbrev turned : Turned → Small → Interaction ℕ ℕ (Turned × Small)
turned t st = Returns (t, st)

-- `L X = X + 1 :(L)` with a limit of two statements: the third turn ends the job
abbrev counting : Lines Expression Expression
counting = lines_of ((codes "L", 0) ∷ [])
    (Says (Does (Identifier (codes "X")) None (ValueObject (Binary Plus (Identifier (codes "X")) (number 1)))) (Always (statement.To (codes "L"))) ∷ [])

first_turn : turn small_keeping evaluate name_of counting 2 (At 0) (small null 0) ≡ turned (Goes (At 0)) (small (Integer (pos 1)) 1)
first_turn = refl

second_turn : turn small_keeping evaluate name_of counting 2 (At 0) (small (Integer (pos 1)) 1) ≡ turned (Goes (At 0)) (small (Integer (pos 2)) 2)
second_turn = refl

third_turn : turn small_keeping evaluate name_of counting 2 (At 0) (small (Integer (pos 2)) 2) ≡ turned (Ended StatementLimit) (small (Integer (pos 2)) 2)
third_turn = refl

-- `X = F() + 1`, and `F X = 4 :(RETURN)`: both statements begin, in one turn, and END follows
abbrev calling : Lines Expression Expression
calling = lines_of ((codes "F", 1) ∷ [])
    (Says (Does (Identifier (codes "X")) None (ValueObject (Binary Plus (Call (codes "F") (Omitted NoArguments)) (number 1)))) (Always (statement.To (codes "END")))
    ∷ Says (Does (Identifier (codes "X")) None (ValueObject (number 4))) (Always (statement.To (codes "RETURN"))) ∷ [])

calls_in_one_turn : turn small_keeping evaluate name_of calling 2 (At 0) (small null 0) ≡ turned (Ended Normal) (small (Integer (pos 5)) 2)
calls_in_one_turn = refl

-- with one statement begun before, the function's is one too many
limit_in_a_call : turn small_keeping evaluate name_of calling 2 (At 0) (small null 1) ≡ turned (Ended StatementLimit) (small null 2)
limit_in_a_call = refl

-- `:(RETURN)` where no function is called, and a label that no statement has
returns_from_nothing : turn small_keeping evaluate name_of (lines_of [] (Says NoBody (Always (statement.To (codes "RETURN"))) ∷ [])) 2 (At 0) (small null 0) ≡ turned (Ended (Fault fault.Level)) (small null 1)
returns_from_nothing = refl

no_such_label : turn small_keeping evaluate name_of (lines_of [] (Says NoBody (Always (statement.To (codes "NOWHERE"))) ∷ [])) 2 (At 0) (small null 0) ≡ turned (Ended (Fault fault.Label)) (small null 1)
no_such_label = refl
