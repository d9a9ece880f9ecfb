-- Accounts and data sets, by their places.
use Rattle.std.specs.List.{fold}
use Rattle.std.proofs.Common.{◌≡◌, ℕ, zero, suc, ◌+◌, List, [], ◌∷◌, ◌++◌, map, take, drop, Some, None, slice_get, refl, ap, ◌∙◌, arith}

-- those before a place, and the one there
one_behind : {A B : Type 0} (f : A → B) (place : ℕ) (xs : List A) → map f (take place xs) ++ map f (take 1 (drop place xs)) ≡ map f (take (suc place) xs)
one_behind f zero [] = refl
one_behind f (suc place) [] = refl
one_behind f zero (x ∷ xs) = refl
one_behind f (suc place) (x ∷ xs) = ap (λ ys. f x ∷ ys) (one_behind f place xs)

pub one_more : {A B : Type 0} (f : A → B) (place : ℕ) (xs : List A) → map f (take place xs) ++ map f (take 1 (drop place xs)) ≡ map f (take (place + 1) xs)
one_more f place xs = let next : suc place ≡ place + 1 = omega arith in one_behind f place xs ∙ ap (λ (n : ℕ). map f (take n xs)) next

pub one_there : {A : Type 0} (place : ℕ) (xs : List A) (x : A) → Some x ≡ slice_get xs place → take 1 (drop place xs) ≡ x ∷ []
one_there zero [] x there = cc
one_there (suc place) [] x there = cc
one_there zero (y ∷ ys) x there = cc
one_there (suc place) (y ∷ ys) x there = one_there place ys x there

pub none_there : {A : Type 0} (place : ℕ) (xs : List A) → None ≡ slice_get xs place → take 1 (drop place xs) ≡ []
none_there zero [] there = refl
none_there (suc place) [] there = refl
none_there zero (y ∷ ys) there = cc
none_there (suc place) (y ∷ ys) there = none_there place ys there

-- what is gathered of those from a place on, the one there first
one_gathered : {A B : Type 0} (f : B → A → B) (place : ℕ) (xs : List A) (b : B) → fold f (fold f b (take 1 (drop place xs))) (drop (suc place) xs) ≡ fold f b (drop place xs)
one_gathered f zero [] b = refl
one_gathered f (suc place) [] b = refl
one_gathered f zero (x ∷ xs) b = refl
one_gathered f (suc place) (x ∷ xs) b = one_gathered f place xs b

pub gathered_on : {A B : Type 0} (f : B → A → B) (place : ℕ) (xs : List A) (b next all : B) → next ≡ fold f b (take 1 (drop place xs)) → fold f b (drop place xs) ≡ all
    → fold f next (drop (place + 1) xs) ≡ all
gathered_on f place xs b next all next_is so_far =
    let same : place + 1 ≡ suc place = omega arith in
    ap (λ b. fold f b (drop (place + 1) xs)) next_is ∙ ap (λ (n : ℕ). fold f (fold f b (take 1 (drop place xs))) (drop n xs)) same ∙ one_gathered f place xs b ∙ so_far
