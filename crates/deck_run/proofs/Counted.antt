-- The line that is due, as line ends are counted.
use Rattle.std.proofs.Common.{◌≡◌, ◌≤◌, ℕ, suc, ◌+◌, ◌-◌, ◌&&◌, Bool, true, false, not, List, [], ◌∷◌, ◌++◌, length, get_or, take, drop, if◌then◌else◌, refl, sym, ap, ◌∙◌, arith}
use Rattle.std.proofs.lemmas.List.{take-append-drop}
use Rattle.mon_text.specs.{Characters.{is_line_feed}, Feeding.{has_no_end}}
use Rattle.deck_driver.specs.{declared.section.DeckState.{DeckState}, Feeds.{is_reading, used_by}, inner.Counting.{lines_ended}}
use Rattle.deck_driver.proofs.Parts.{Part, Open, Ended, parted_at, none_ended, ended_further}
use Rattle.deck_run.{specs.inner.Ending.{ended_by}, proofs.Holdings.{taken_where_read}}

-- all but the last byte says nothing
last_alone : (x y : ℕ) (ys : List ℕ) → ended_by (x ∷ y ∷ ys) ≡ ended_by (y ∷ ys)
last_alone x y ys =
    let index : length (x ∷ y ∷ ys) - 1 ≡ suc (length (y ∷ ys) - 1) = omega arith in
    ap (λ (k : ℕ). if is_line_feed (get_or (x ∷ y ∷ ys) k 0) then 1 else 0) index

last_of : (x : ℕ) (xs : List ℕ) → is_line_feed x ≡ false → ended_by xs ≡ 0 → ended_by (x ∷ xs) ≡ 0
last_of x [] is rest = ap (λ b. if b then 1 else 0) is
last_of x (y ∷ ys) is rest = last_alone x y ys ∙ rest

-- no line ends in it
none_last : (part : List ℕ) → has_no_end part ≡ true → ended_by part ≡ 0
none_last [] open_part = refl
none_last (x ∷ xs) open_part = by (is_line_feed x) refl open_part (none_last xs)
  where
    by : (b : Bool) → is_line_feed x ≡ b → (not (is_line_feed x) && has_no_end xs) ≡ true → (has_no_end xs ≡ true → ended_by xs ≡ 0) → ended_by (x ∷ xs) ≡ 0
    by false is e rest = last_of x xs is (rest (ap (λ b. not b && has_no_end xs) (sym is) ∙ e))
    by true is e rest = let no : false ≡ true = ap (λ b. not b && has_no_end xs) (sym is) ∙ e in cc

pub one_at_most : (part : List ℕ) → ended_by part ≤ 1
one_at_most part = by (is_line_feed (get_or part (length part - 1) 0))
  where
    by : (b : Bool) → (if b then 1 else 0) ≤ 1
    by true = omega arith
    by false = omega arith

-- the last byte is a line end
last_end : (front : List ℕ) → ended_by (front ++ 10 ∷ []) ≡ 1
last_end [] = refl
last_end (x ∷ []) = last_alone x 10 []
last_end (x ∷ y ∷ ys) = last_alone x y (ys ++ 10 ∷ []) ∙ last_end (y ∷ ys)

pub ended_in : (part : List ℕ) → Part part → lines_ended part ≡ ended_by part
ended_in part (Open open_part) = none_ended part open_part ∙ sym (none_last part open_part)
ended_in part (Ended front are open_front) =
    let ten : lines_ended (10 ∷ []) ≡ 1 = refl in
    let none = none_ended front open_front in
    let one : lines_ended part ≡ 1 = omega (arith, ap lines_ended are, ended_further front (10 ∷ []), none, ten) in
    one ∙ sym (last_end front) ∙ ap ended_by (sym are)

-- a part was taken, and a line is due behind it
pub due_further : (s : DeckState) (rest : List ℕ) (used first line all : ℕ) → used ≡ used_by s rest → is_reading s ≡ true → line + lines_ended rest ≡ first + all
    → line + ended_by (take used rest) + lines_ended (drop used rest) ≡ first + all
due_further s rest used first line all is reading due =
    let part = parted_at rest used (is ∙ taken_where_read s rest reading) in
    let one = ended_in (take used rest) part in
    let both = ended_further (take used rest) (drop used rest) in
    let whole = ap lines_ended (take-append-drop used rest) in
    omega (arith, due, one, both, whole)

-- nothing is left
pub due_behind : (rest : List ℕ) (first line all : ℕ) → rest ≡ [] → line + lines_ended rest ≡ first + all → line ≡ first + all
due_behind rest first line all none due = let zero = ap lines_ended none in omega (arith, due, zero)
