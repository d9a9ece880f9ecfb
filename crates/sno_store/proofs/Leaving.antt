-- The innermost call ends.
use Rattle.std.proofs.Common.{◌≡◌, ℕ, List, [], ◌∷◌, drop, None, Some, refl, sym, ap}
use Rattle.sno_value.specs.Values.{null}
use Rattle.sno_store.specs.{CallFrames.{CallFrame}, declared.store.Store.{Store as State}, Calls.{saved_by, statement_of, call_left, given_back}}
use Rattle.sno_store.{specs.inner.Parts.{value_given}, proofs.Left.{left_by}}
use Rattle.sno_variables.specs.{Variables.{Variables}, Bindings.{assigned}}

left_to : (s : State) (levels : List CallFrame) (n : ℕ) → Some n ≡ statement_of levels
    → record s { variables = assigned (saved_by levels) s.variables; keywords = record (s.keywords) { statement = n }; levels = drop 1 levels } ≡ left_by levels s
left_to s [] n e = cc
left_to s (level ∷ levels) n e =
    let is : n ≡ level.statement = cc in
    ap (λ (m : ℕ). let t : State = record s { variables = assigned level.saved s.variables; keywords = record (s.keywords) { statement = m }; levels = levels } in t) is

pub left_one : (s : State) (n : ℕ) → Some n ≡ statement_of s.levels
    → record s { variables = assigned (saved_by s.levels) s.variables; keywords = record (s.keywords) { statement = n }; levels = drop 1 s.levels } ≡ call_left s
left_one s n e = left_to s s.levels n e

none_to : (s : State) (levels : List CallFrame) → s.levels ≡ levels → None ≡ statement_of levels
    → record s { variables = assigned (saved_by levels) s.variables; levels = drop 1 levels } ≡ left_by levels s
none_to s [] at e = ap (λ (ls : List CallFrame). let t : State = record s { levels = ls } in t) (sym at)
none_to s (level ∷ levels) at e = cc

pub left_none : (s : State) → None ≡ statement_of s.levels → record s { variables = assigned (saved_by s.levels) s.variables; levels = drop 1 s.levels } ≡ call_left s
left_none s e = none_to s s.levels refl e

none_given : (levels : List CallFrame) (vs : Variables) → None ≡ statement_of levels → null ≡ value_given levels vs
none_given [] vs e = refl
none_given (level ∷ levels) vs e = cc

pub given_none : (s : State) → None ≡ statement_of s.levels → null ≡ given_back s
given_none s e = none_given s.levels s.variables e

pub ruleset leaving = (left_one, left_none, given_none)
