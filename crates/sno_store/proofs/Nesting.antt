-- What is saved for the calls that are open.
use Rattle.std.proofs.Common.{◌≡◌, Bool, true, false, List, [], ◌∷◌, drop, refl, Ok, Err}
use Rattle.std.specs.Prelude.{Result, ok_or, if◌then◌else◌}
use Rattle.sno_text.specs.declared.fault.Fault.{Fault}
use Rattle.sno_value.specs.{Values.{number_of}, declared.value.Value.{Value}}
use Rattle.sno_text.specs.declared.fault.Fault.TheVariants as fault
use Rattle.sno_declarations.specs.{Arguments.{go_on, name_in, input_in, output_in}, Definitions.{definition_in}}
use Rattle.sno_store.specs.{declared.keyword.Keyword.{Keyword}, CallFrames.{CallFrame}, declared.store.Store.{Store as State}, States.{with_keyword_set}}
use Rattle.sno_store.specs.{Keywords.{is_settable, with_keyword}, Laws.{KeepsLevels, LevelsStay, CallsNest}}
use Rattle.sno_store.proofs.Left.{left_by}

behind : {A : Type 0} (s : State) (r : Result A Fault) (go : A → Result State Fault) → ((a : A) → KeepsLevels s (go a)) → KeepsLevels s (go_on r go)
behind s (Ok a) go keeps = keeps a
behind s (Err f) go keeps = tt

keyword_set : (s : State) (keyword : Keyword) (v : Value) → KeepsLevels s (with_keyword_set keyword v s)
keyword_set s keyword v = by (is_settable keyword)
  where
    by : (b : Bool) → KeepsLevels s (if b then go_on (ok_or (number_of v) fault.WrongType) (λ z. go_on (with_keyword keyword z s.keywords) (λ k. Ok (record s { keywords = k }))) else Err fault.Keyword)
    by true = behind s (ok_or (number_of v) fault.WrongType) _ (λ z. behind s (with_keyword keyword z s.keywords) (λ k. Ok (record s { keywords = k })) (λ k. refl))
    by false = tt

pub levels_stay : LevelsStay
levels_stay s = (
  λ name v. refl,
  λ name. refl,
  λ statement. refl,
  λ name unit most. behind s (name_in name) _ (λ n. behind s (input_in unit most) _ (λ i. refl)),
  λ name unit format. behind s (name_in name) _ (λ n. behind s (output_in unit format) _ (λ o. refl)),
  λ name. behind s (name_in name) _ (λ n. refl),
  λ prototype entry. behind s (definition_in prototype entry) _ (λ d. refl),
  λ keyword v. keyword_set s keyword v,
)

fewer : (s : State) (levels : List CallFrame) → s.levels ≡ levels → (left_by levels s).levels ≡ drop 1 levels
fewer s [] h = h
fewer s (level ∷ levels) h = refl

pub calls_nest : CallsNest
calls_nest = (λ d arguments s. refl, λ s. fewer s s.levels refl)
