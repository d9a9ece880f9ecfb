-- The leftmost of the places that are marked, told by the number of tokens from it on.
use Rattle.std.{proofs.Common.{arith, ◌≡◌, ℕ, zero, suc, ◌+◌, ◌<◌, ◌≤◌, length, List, [], ◌∷◌, ◌++◌, refl, sym, ap, ◌∙◌}, specs.Prelude.{Bool, true, false, get_or, if◌then◌else◌}, specs.List.{list_any}}
use Rattle.std.{proofs.lemmas.Bool.Decides.{nat_tests}, proofs.lemmas.List.{length-append}}
use Rattle.sno_expression.{specs.inner.Telling.{most}, proofs.Loop.{none_most, most_none}}

-- n tokens stand behind those that are marked or not
abbrev pub lacks : List Bool → ℕ → ℕ
lacks [] n = 0
lacks (true ∷ bs) n = suc (length bs + n)
lacks (false ∷ bs) n = lacks bs n

pub most_left : (a b : ℕ) → b ≤ a → most a b ≡ a
most_left a b h = grind (arith, nat_tests)

pub most_right : (a b : ℕ) → a ≤ b → most a b ≡ b
most_right a b h = grind (arith, nat_tests)

pub within : (bs : List Bool) (n : ℕ) → lacks bs n ≤ length bs + n
within [] n = omega arith
within (true ∷ bs) n = omega arith
within (false ∷ bs) n = let h = within bs n in omega (arith, h)

-- one more place before them
pub lacks_first : (b : Bool) (bs : List Bool) (n : ℕ) → most (if b then suc (length bs + n) else 0) (lacks bs n) ≡ lacks (b ∷ bs) n
lacks_first true bs n = let h = within bs n in most_left (suc (length bs + n)) (lacks bs n) (omega (arith, h))
lacks_first false bs n = none_most (lacks bs n)

pub lacks_append : (cs bs : List Bool) (n : ℕ) → most (lacks cs (length bs + n)) (lacks bs n) ≡ lacks (cs ++ bs) n
lacks_append [] bs n = none_most (lacks bs n)
lacks_append (false ∷ cs) bs n = lacks_append cs bs n
lacks_append (true ∷ cs) bs n =
    let h = within bs n in
    let e = length-append cs bs in
    most_left (suc (length cs + (length bs + n))) (lacks bs n) (omega (arith, h)) ∙ omega (arith, e)

-- one more token behind them
pub lacks_closed : (bs : List Bool) (n : ℕ) → lacks bs (suc n) ≡ lacks (bs ++ false ∷ []) n
lacks_closed bs n =
    let e : suc n ≡ length (false ∷ []) + n = omega arith in
    ap (lacks bs) e ∙ (sym (most_none (lacks bs (length (false ∷ []) + n))) ∙ lacks_append bs (false ∷ []) n)

-- the first of them is marked too
pub raised : (bs : List Bool) (n : ℕ) → lacks (true ∷ bs) n ≡ most (lacks bs n) (suc (length bs) + n)
raised bs n = let h = within bs n in let e : suc (length bs + n) ≡ suc (length bs) + n = omega arith in e ∙ sym (most_right (lacks bs n) (suc (length bs) + n) (omega (arith, h)))

-- the place is marked, and none before it
pub marked : (bs : List Bool) → 0 < lacks bs 0 → (i : ℕ) × (i + lacks bs 0 ≡ length bs) × (get_or bs i false ≡ true)
marked [] h = absurd (omega (arith, h))
marked (true ∷ bs) h = (0, omega arith, refl)
marked (false ∷ bs) h = let m = marked bs h in let e = m.1 in (suc m.0, omega (arith, e), m.2)

pub first_marked : (bs : List Bool) (i : ℕ) → get_or bs i false ≡ true → (length bs ≤ i + lacks bs 0) × (i < length bs)
first_marked [] i e = cc
first_marked (true ∷ bs) zero e = (omega arith, omega arith)
first_marked (false ∷ bs) zero e = cc
first_marked (true ∷ bs) (suc i) e = let m = first_marked bs i e in let h = m.1 in (omega arith, omega (arith, h))
first_marked (false ∷ bs) (suc i) e = let m = first_marked bs i e in let g = m.0 in let h = m.1 in (omega (arith, g), omega (arith, h))

-- none is marked
pub none_lack : (bs : List Bool) (n : ℕ) → list_any (λ b. b) bs ≡ false → lacks bs n ≡ 0
none_lack [] n e = refl
none_lack (false ∷ bs) n e = none_lack bs n e
none_lack (true ∷ bs) n e = cc

pub lack_none : (bs : List Bool) → lacks bs 0 ≡ 0 → list_any (λ b. b) bs ≡ false
lack_none [] e = refl
lack_none (false ∷ bs) e = lack_none bs e
lack_none (true ∷ bs) e = absurd (omega (arith, e))
