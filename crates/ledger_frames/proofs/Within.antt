-- Names that are some of others, in their order.
use Rattle.std.proofs.Common.{◌≡◌, ◌⊎◌, inl, inr, ℕ, nat_eq, false, List, [], ◌∷◌, refl, sym, subst, suc, length, ◌≤◌, arith}
use Rattle.std.specs.{List.{AllByRecursion}, Cmp.Lexicographic.{pointwise}}

abbrev pub Names : Type 0
Names = List (List ℕ)

abbrev pub AreWithin : Names → Names → Type 0
AreWithin [] names = Unit {0}
AreWithin (one ∷ some) [] = ⊥
AreWithin (one ∷ some) (name ∷ names) = ((name ≡ one) × AreWithin some names) ⊎ AreWithin (one ∷ some) names

pub all_are : (names : Names) → AreWithin names names
all_are [] = tt
all_are (name ∷ names) = inl (refl, all_are names)

pub more : (name : List ℕ) (names some : Names) → AreWithin some names → AreWithin some (name ∷ names)
more name names [] within = tt
more name names (one ∷ some) within = inr within

pub behind : (names : Names) (one : List ℕ) (some : Names) → AreWithin (one ∷ some) names → AreWithin some names
behind [] one some within = elim within [ ]
behind (name ∷ names) one some (inl within) = more name names some within.1
behind (name ∷ names) one some (inr within) = more name names some (behind names one some within)

-- where fewer are within, they are so behind the same name
pub under : (some fewer : Names) → ((names : Names) → AreWithin some names → AreWithin fewer names) → (names : Names) (one : List ℕ)
    → AreWithin (one ∷ some) names → AreWithin (one ∷ fewer) names
under some fewer less [] one within = elim within [ ]
under some fewer less (name ∷ names) one (inl within) = inl (within.0, less names within.1)
under some fewer less (name ∷ names) one (inr within) = inr (under some fewer less names one within)

pub as_many : (names some : Names) → AreWithin some names → length some ≤ length names
as_many names [] within = omega arith
as_many [] (one ∷ some) within = elim within [ ]
as_many (name ∷ names) (one ∷ some) (inl within) = let rest = as_many names some within.1 in omega (arith, rest)
as_many (name ∷ names) (one ∷ some) (inr within) = let rest = as_many names (one ∷ some) within in omega (arith, rest)

-- ---- a name that is none of them

abbrev pub Apart : List ℕ → Names → Type 0
Apart name names = AllByRecursion (λ other. pointwise nat_eq name other ≡ false) names

pub apart_of : (name : List ℕ) (names some : Names) → AreWithin some names → Apart name names → Apart name some
apart_of name names [] within apart = tt
apart_of name [] (one ∷ some) within apart = elim within [ ]
apart_of name (other ∷ names) (one ∷ some) (inl within) apart =
    (subst (λ (n : List ℕ). pointwise nat_eq name n ≡ false) within.0 apart.0, apart_of name names some within.1 apart.1)
apart_of name (other ∷ names) (one ∷ some) (inr within) apart = apart_of name names (one ∷ some) within apart.1
