-- How many steps a match needs.
use Rattle.std.specs.Prelude.{◌≡◌, ◌≢◌, ◌⊎◌, ℕ, zero, suc, ◌+◌, ◌-◌, ◌≤◌, List, [], ◌∷◌, ◌++◌, Bool, length, if◌then◌else◌}
use Rattle.std.proofs.Common.{refl, sym, ap, ◌∙◌, subst, inl, inr, arith}
use Rattle.interaction.specs.{Interactions.{Interaction, Returns, Asks, ◌>>=◌}, Exchanges.{Exchange, IsTrace}, Endings.{EndsIn}}
use Rattle.interaction.proofs.Enough.{ends_in_then}
use Rattle.sno_text.specs.Patterns.{Pattern}
use Rattle.sno_pattern.specs.{declared.ending.MatchEnd.{MatchEnd}, declared.ending.MatchEnd.TheVariants.{Limit}, Looks.{Look, Told, Fits}}
use Rattle.sno_pattern.specs.Laws.{Needs, NeedsSteps, StepsAreExact}
use Rattle.sno_pattern.proofs.{Trying.{AtMost}, Table.{outcome_falls}, Exact.{Longer, outcome_longer}}
use Rattle.sno_pattern.specs.Steps.{Meet, End, Success, Failure, WholeFails, OutOfSteps, Fault, Trying, outcome, Finish, settle, from_starts, counted_match, match_of}

abbrev Ending : Type 0
Ending = Interaction Look Told Finish

abbrev AtMostLeft : ℕ → Finish → Type 0
AtMostLeft n f = f.left ≤ n

-- t' is t with j + 1 steps more
abbrev pub Longest : ℕ → Ending → Ending → Type 0
Longest j (Returns f) t' = ((f.end ≡ Limit) × EndsIn (AtMostLeft j) t') ⊎ (t' ≡ Returns (record { end = f.end; left = f.left + suc j }))
Longest j (Asks q f) t' = (f' : Told → Ending) × (t' ≡ Asks q f') × ((r : Told) → Longest j (f r) (f' r))

settle_falls : (from : ℕ) (e : End) (m n : ℕ) (next : ℕ → Ending) → m ≤ n → ((m : ℕ) → m ≤ n → EndsIn (AtMostLeft n) (next m))
    → EndsIn (AtMostLeft n) (settle from e m next)
settle_falls from Failure m n next h k = k m h
settle_falls from (Success at p) m n next h k = h
settle_falls from WholeFails m n next h k = h
settle_falls from OutOfSteps m n next h k = h
settle_falls from (Fault f) m n next h k = h

starts_fall : (text : List ℕ) (p : Pattern) (k at m n : ℕ) → m ≤ n → EndsIn (AtMostLeft n) (from_starts text p k at m)
starts_fall text p zero at m n h = h
starts_fall text p (suc k) at m n h =
    ends_in_then (AtMost m) (AtMostLeft n) (outcome text (Meet p ∷ []) at [] m) (λ o. settle at o.end o.left (λ n'. from_starts text p k (at + 1) n'))
    (outcome_falls text (Meet p ∷ []) at [] m)
    (λ o l. settle_falls at o.end o.left n (λ n'. from_starts text p k (at + 1) n') (omega arith) (λ m' l'. starts_fall text p k (at + 1) m' n l'))

module _ (j from : ℕ) (next next' : ℕ → Ending) (longer : (m : ℕ) → Longest j (next m) (next' (m + suc j)))
    (falls : (m : ℕ) → m ≤ j → EndsIn (AtMostLeft j) (next' m)) where
  settle_longer : (e : End) (m : ℕ) → Longest j (settle from e m next) (settle from e (m + suc j) next')
  settle_longer Failure m = longer m
  settle_longer (Success at p) m = inr refl
  settle_longer WholeFails m = inr refl
  settle_longer OutOfSteps m = inr refl
  settle_longer (Fault f) m = inr refl

  then_longer : (t t' : Trying) → Longer j t t' → Longest j (t >>= (λ o. settle from o.end o.left next)) (t' >>= (λ o. settle from o.end o.left next'))
  then_longer (Returns o) t' (inl h) =
      subst (λ (e : End). Longest j (settle from e o.left next) (t' >>= (λ u. settle from u.end u.left next'))) (sym h.0)
      (inl (refl, ends_in_then (AtMost j) (AtMostLeft j) t' (λ u. settle from u.end u.left next') h.1 (λ u l. settle_falls from u.end u.left j next' l falls)))
  then_longer (Returns o) t' (inr h) =
      subst (λ (z : Trying). Longest j (settle from o.end o.left next) (z >>= (λ u. settle from u.end u.left next'))) (sym h) (settle_longer o.end o.left)
  then_longer (Asks q f) t' h = (
    (λ r. h.0 r >>= (λ u. settle from u.end u.left next')),
    ap (λ z. z >>= (λ u. settle from u.end u.left next')) h.1,
    (λ r. then_longer (f r) (h.0 r) (h.2 r)),
  )

starts_longer : (text : List ℕ) (p : Pattern) (j k at n : ℕ) → Longest j (from_starts text p k at n) (from_starts text p k at (n + suc j))
starts_longer text p j zero at n = inr refl
starts_longer text p j (suc k) at n =
    then_longer j at (λ n'. from_starts text p k (at + 1) n') (λ n'. from_starts text p k (at + 1) n') (λ m. starts_longer text p j k (at + 1) m)
    (λ m l. starts_fall text p k (at + 1) m j l)
    (outcome text (Meet p ∷ []) at [] n) (outcome text (Meet p ∷ []) at [] (n + suc j)) (outcome_longer text j (Meet p ∷ []) at [] n)

abbrev finish : MatchEnd → ℕ → Finish
finish e n = record { end = e; left = n }

-- with more steps the same, and more are left
more_told : (j : ℕ) (t t' : Ending) → Longest j t t' → (x : List (Exchange Look Told)) (e : MatchEnd) (l : ℕ) → IsTrace Fits t x (finish e l)
    → e ≢ Limit → IsTrace Fits t' x (finish e (l + suc j))
more_told j (Returns f) t' (inl h) [] e l k apart = absurd (apart (ap (λ (g : Finish). g.end) k ∙ h.0))
more_told j (Returns f) t' (inr h) [] e l k apart =
    subst (λ (z : Ending). IsTrace Fits z [] (finish e (l + suc j))) (sym h) (ap (λ (g : Finish). finish g.end (g.left + suc j)) k)
more_told j (Returns f) t' h (d ∷ x) e l k apart = absurd k
more_told j (Asks q f) t' h [] e l k apart = absurd k
more_told j (Asks q f) t' h (d ∷ x) e l k apart =
    subst (λ (z : Ending). IsTrace Fits z (d ∷ x) (finish e (l + suc j))) (sym h.1)
    (k.0, k.1, more_told j (f d.reply) (h.0 d.reply) (h.2 d.reply) x e l k.2 apart)

too_many : (j : ℕ) (t : Ending) (x : List (Exchange Look Told)) (e : MatchEnd) (l : ℕ) → EndsIn (AtMostLeft j) t → IsTrace Fits t x (finish e (l + suc j)) → ⊥
too_many j (Returns g) [] e l h k = let same : l + suc j ≡ g.left = ap (λ (u : Finish). u.left) k in omega arith
too_many j (Returns g) (d ∷ x) e l h k = k
too_many j (Asks q g) [] e l h k = k
too_many j (Asks q g) (d ∷ x) e l h k = too_many j (g d.reply) x e l (h d.reply) k.2

less_end : (j : ℕ) (f : Finish) (x : List (Exchange Look Told)) (e : MatchEnd) (l : ℕ)
    → IsTrace Fits (Returns (finish f.end (f.left + suc j))) x (finish e (l + suc j)) → IsTrace Fits (Returns f) x (finish e l)
less_end j f [] e l k =
    let same : l + suc j ≡ f.left + suc j = ap (λ (u : Finish). u.left) k in
    let left : l ≡ f.left = omega arith in
    ap (λ m. finish e m) left ∙ ap (λ b. finish b f.left) (ap (λ (u : Finish). u.end) k)
less_end j f (d ∷ x) e l k = k

-- what an interaction that asks tells, by what it tells after the reply
asks_told : (q : Look) (f f' : Told → Ending) (x : List (Exchange Look Told)) (a b : Finish)
    → ((r : Told) (y : List (Exchange Look Told)) → IsTrace Fits (f' r) y a → IsTrace Fits (f r) y b) → IsTrace Fits (Asks q f') x a → IsTrace Fits (Asks q f) x b
asks_told q f f' [] a b h k = k
asks_told q f f' (d ∷ x) a b h k = (k.0, k.1, h d.reply x k.2)

-- with fewer steps the same, where so many are left
less_told : (j : ℕ) (t t' : Ending) → Longest j t t' → (x : List (Exchange Look Told)) (e : MatchEnd) (l : ℕ)
    → IsTrace Fits t' x (finish e (l + suc j)) → IsTrace Fits t x (finish e l)
less_told j (Returns f) t' (inl h) x e l k = absurd (too_many j t' x e l h.1 k)
less_told j (Returns f) t' (inr h) x e l k = less_end j f x e l (subst (λ (z : Ending). IsTrace Fits z x (finish e (l + suc j))) h k)
less_told j (Asks q f) t' h x e l k =
    asks_told q f h.0 x (finish e (l + suc j)) (finish e l) (λ r y g. less_told j (f r) (h.0 r) (h.2 r) y e l g)
    (subst (λ (z : Ending). IsTrace Fits z x (finish e (l + suc j))) h.1 k)

-- some of these exchanges are made, and then the match ends by Limit
abbrev EndsByLimit : Ending → List (Exchange Look Told) → Type 0
EndsByLimit t x = (y z : List (Exchange Look Told)) × (x ≡ y ++ z) × ((l : ℕ) × IsTrace Fits t y (finish Limit l))

none_told : (j : ℕ) (f : Finish) (x : List (Exchange Look Told)) (e : MatchEnd) → IsTrace Fits (Returns (finish f.end (f.left + suc j))) x (finish e 0) → ⊥
none_told j f [] e k = let same : 0 ≡ f.left + suc j = ap (λ (u : Finish). u.left) k in omega arith
none_told j f (d ∷ x) e k = k

asks_limit : (q : Look) (f f' : Told → Ending) (x : List (Exchange Look Told)) (a : Finish)
    → ((r : Told) (y : List (Exchange Look Told)) → IsTrace Fits (f' r) y a → EndsByLimit (f r) y) → IsTrace Fits (Asks q f') x a → EndsByLimit (Asks q f) x
asks_limit q f f' [] a h k = absurd k
asks_limit q f f' (d ∷ x) a h k =
    let rest = h d.reply x k.2 in
    (d ∷ rest.0, rest.1, ap (λ xs. d ∷ xs) rest.2, (rest.3.0, (k.0, k.1, rest.3.1)))

-- with too few steps by Limit
limit_told : (j : ℕ) (t t' : Ending) → Longest j t t' → (x : List (Exchange Look Told)) (e : MatchEnd) → IsTrace Fits t' x (finish e 0) → EndsByLimit t x
limit_told j (Returns f) t' (inl h) x e k = ([], x, refl, (f.left, ap (λ b. finish b f.left) (sym h.0)))
limit_told j (Returns f) t' (inr h) x e k = absurd (none_told j f x e (subst (λ (z : Ending). IsTrace Fits z x (finish e 0)) h k))
limit_told j (Asks q f) t' h x e k =
    asks_limit q f h.0 x (finish e 0) (λ r y g. limit_told j (f r) (h.0 r) (h.2 r) y e g)
    (subst (λ (z : Ending). IsTrace Fits z x (finish e 0)) h.1 k)

-- the end alone
end_told : (t : Ending) (x : List (Exchange Look Told)) (e : MatchEnd) (l : ℕ) → IsTrace Fits t x (finish e l) → IsTrace Fits (t >>= (λ f. Returns f.end)) x e
end_told (Returns f) [] e l k = ap (λ (g : Finish). g.end) k
end_told (Returns f) (d ∷ x) e l k = k
end_told (Asks q f) [] e l k = k
end_told (Asks q f) (d ∷ x) e l k = (k.0, k.1, end_told (f d.reply) x e l k.2)

-- and what was left with it
left_told : (t : Ending) (n : ℕ) → EndsIn (AtMostLeft n) t → (x : List (Exchange Look Told)) (e : MatchEnd)
    → IsTrace Fits (t >>= (λ f. Returns f.end)) x e → (l : ℕ) × (l ≤ n) × IsTrace Fits t x (finish e l)
left_told (Returns f) n h [] e k = (f.left, h, ap (λ b. finish b f.left) k)
left_told (Returns f) n h (d ∷ x) e k = absurd k
left_told (Asks q f) n h [] e k = absurd k
left_told (Asks q f) n h (d ∷ x) e k = let rest = left_told (f d.reply) n (h d.reply) x e k.2 in (rest.0, rest.1, (k.0, k.1, rest.2))

-- with other steps
from : (text : List ℕ) (p : Pattern) (anchored : Bool) (n m : ℕ) → n ≡ m → (x : List (Exchange Look Told)) (f : Finish)
    → IsTrace Fits (counted_match text p anchored n) x f → IsTrace Fits (counted_match text p anchored m) x f
from text p anchored n m e x f k = subst (λ (i : ℕ). IsTrace Fits (counted_match text p anchored i) x f) e k

left_is : (t : Ending) (x : List (Exchange Look Told)) (e : MatchEnd) (l m : ℕ) → l ≡ m → IsTrace Fits t x (finish e l) → IsTrace Fits t x (finish e m)
left_is t x e l m same k = subst (λ (i : ℕ). IsTrace Fits t x (finish e i)) same k

counted_longer : (text : List ℕ) (p : Pattern) (anchored : Bool) (j n : ℕ)
    → Longest j (counted_match text p anchored n) (counted_match text p anchored (n + suc j))
counted_longer text p anchored j n = starts_longer text p j (if anchored then 1 else (length text + 1)) 0 n

abbrev counted : List ℕ → Pattern → Bool → ℕ → Ending
counted text p anchored n = counted_match text p anchored n

needed : (text : List ℕ) (p : Pattern) (anchored : Bool) (n : ℕ) (x : List (Exchange Look Told)) (e : MatchEnd) → e ≢ Limit → (l : ℕ) → l ≤ n
    → IsTrace Fits (counted text p anchored n) x (finish e l) → (u : ℕ) × (u ≤ n) × Needs text p anchored x u e
needed text p anchored n x e apart zero le k = (n, omega arith, (apart, k))
needed text p anchored n x e apart (suc j) le k =
    let again : IsTrace Fits (counted text p anchored (n - suc j + suc j)) x (finish e (0 + suc j)) =
    left_is (counted text p anchored (n - suc j + suc j)) x e (suc j) (0 + suc j) (omega arith)
    (from text p anchored n (n - suc j + suc j) (omega arith) x (finish e (suc j)) k) in (
      n - suc j,
      omega arith,
      (
        apart,
        less_told j (counted text p anchored (n - suc j)) (counted text p anchored (n - suc j + suc j))
            (counted_longer text p anchored j (n - suc j)) x e 0 again,
      ),
    )

pub needs_steps : NeedsSteps
needs_steps text p anchored n x e k apart =
    let l = left_told (counted_match text p anchored n) n (starts_fall text p (if anchored then 1 else (length text + 1)) 0 n n (omega arith)) x e k in
    needed text p anchored n x e apart l.0 l.1 l.2

enough : (text : List ℕ) (p : Pattern) (anchored : Bool) (x : List (Exchange Look Told)) (u : ℕ) (e : MatchEnd) → Needs text p anchored x u e
    → (n j : ℕ) → n ≡ u + j → IsTrace Fits (match_of text p anchored n) x e
enough text p anchored x u e h n zero same = end_told (counted text p anchored n) x e 0 (from text p anchored u n (omega arith) x (finish e 0) h.1)
enough text p anchored x u e h n (suc j) same =
    end_told (counted text p anchored n) x e (0 + suc j)
    (from text p anchored (u + suc j) n (sym same) x (finish e (0 + suc j))
    (more_told j (counted text p anchored u) (counted text p anchored (u + suc j)) (counted_longer text p anchored j u) x e 0 h.1 h.0))

few : (text : List ℕ) (p : Pattern) (anchored : Bool) (x : List (Exchange Look Told)) (u : ℕ) (e : MatchEnd) → Needs text p anchored x u e
    → (n j : ℕ) → u ≡ n + suc j → (y z : List (Exchange Look Told)) × (x ≡ y ++ z) × IsTrace Fits (match_of text p anchored n) y Limit
few text p anchored x u e h n j same =
    let one = limit_told j (counted text p anchored n) (counted text p anchored (n + suc j)) (counted_longer text p anchored j n) x e
    (from text p anchored u (n + suc j) same x (finish e 0) h.1) in
    (one.0, one.1, one.2, end_told (counted text p anchored n) one.0 Limit one.3.0 one.3.1)

pub steps_are_exact : StepsAreExact
steps_are_exact text p anchored x u e h n =
    ((λ le. enough text p anchored x u e h n (n - u) (omega arith)), (λ lt. few text p anchored x u e h n (u - n - 1) (omega arith)))
