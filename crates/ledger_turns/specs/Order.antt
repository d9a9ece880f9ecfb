-- In which order a run serves the files of many boxes (own): the first of each box, then the second of each, and so on. In each run
-- another box is the first.
use Rattle.std.specs.Prelude.{◌≡◌, ◌⊎◌, ℕ, zero, suc, ◌+◌, ◌≤◌, ◌<◌, ◌%◌, ◌==◌, max, List, [], ◌∷◌, ◌++◌, length, map, take, drop}
use Rattle.std.specs.Prelude.{slice_index_or, IsPermutation}
use Rattle.std.specs.List.{AllByRecursion, filter, flat_map}

-- so many turns: in each, every box gives its first file, if it has one
abbrev pub in_turns : {T : Type 0} → ℕ → List (List T) → List T
in_turns zero queues = []
in_turns (suc turns) queues = flat_map (λ queue. take 1 queue) queues ++ in_turns turns (map (λ queue. drop 1 queue) queues)

-- how many turns there have to be
abbrev pub longest : {T : Type 0} → List (List T) → ℕ
longest [] = 0
longest (queue ∷ queues) = max (length queue) (longest queues)

-- as many boxes are moved behind the others as this number says
abbrev pub rotated : {T : Type 0} → ℕ → List T → List T
rotated first queues = let k = first % length queues in drop k queues ++ take k queues

-- the order of a run
abbrev pub served : {T : Type 0} → ℕ → List (List T) → List T
served first queues = in_turns (longest queues) (rotated first queues)

-- ---- what is fair

-- the queues are those of the boxes from number n on: each file in a queue is of its box
abbrev pub AreQueuesFrom : {T : Type 0} → (T → ℕ) → ℕ → List (List T) → Type 0
AreQueuesFrom account n [] = Unit {0}
AreQueuesFrom account n (queue ∷ queues) = AllByRecursion (λ text. account text ≡ n) queue × AreQueuesFrom account (n + 1) queues

-- the files of a box, in their order
abbrev pub texts_of : {T : Type 0} → (T → ℕ) → ℕ → List T → List T
texts_of account n texts = filter (λ text. account text == n) texts

-- In whatever beginning of the order: a box has at most one file more there than another, or all of the other's are there.
abbrev pub IsAbreast : {T : Type 0} → (T → ℕ) → List T → ℕ → ℕ → Type 0
IsAbreast account order i j =
    (n : ℕ) → (let front = take n order in (length (texts_of account i front) ≤ length (texts_of account j front) + 1)
    ⊎ (texts_of account j front ≡ texts_of account j order))

-- each file has its place; those of a box stand in their own order; and no box is ahead of another
pub record IsFair {T : Type 0} (account : T → ℕ) (queues : List (List T)) (order : List T) : Type 0 where
  pub all : IsPermutation (flat_map (λ queue. queue) queues) order
  pub own_order : (i : ℕ) → i < length queues → texts_of account i order ≡ slice_index_or queues i []
  pub abreast : (i j : ℕ) → i < length queues → j < length queues → IsAbreast account order i j

-- so it is in each run
abbrev pub FairOrder : Type 0 → Type 0
FairOrder T = (account : T → ℕ) (first : ℕ) (queues : List (List T)) → AreQueuesFrom account 0 queues → IsFair account queues (served first queues)
