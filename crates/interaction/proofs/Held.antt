-- How interactions are joined, and what follows from how one is held.
use Rattle.std.proofs.Common.{List, [], ◌∷◌, refl, sym, inl, inr, subst}
use Rattle.interaction.specs.{Interactions.{Interaction, Returns, Asks, ◌>>=◌}, Exchanges.{Exchange, IsTrace, IsTracePrefix, AnswersAll}}
use Rattle.interaction.specs.Holding.{RunsTo, StopsIn}

module _ {S Q R : Type 0} (meaning : S → Q → R → S → Type 0) (fits : Q → R → Type 0) where
  -- one interaction held after the other
  pub held_then : {A B : Type 0} (t : Interaction Q R A) (k : A → Interaction Q R B) (s : S) (a : A) (m : S) (b : B) (s' : S)
      → RunsTo meaning fits t s a m → RunsTo meaning fits (k a) m b s' → RunsTo meaning fits (t >>= k) s b s'
  held_then (Returns a') k s a m b s' h g =
      subst (λ (x : S). RunsTo meaning fits (k a') x b s') h.1 (subst (λ x. RunsTo meaning fits (k x) m b s') h.0 g)
  held_then (Asks q f) k s a m b s' h g = (h.0, h.1, h.2, h.3, held_then (f h.0) k h.1 a m b s' h.4 g)

  -- what was held was told
  pub told : {A : Type 0} (t : Interaction Q R A) (s : S) (b : A) (s' : S)
      → RunsTo meaning fits t s b s' → (x : List (Exchange Q R)) × AnswersAll meaning s x s' × IsTrace fits t x b
  told (Returns a) s b s' h = ([], h.1, h.0)
  told (Asks q f) s b s' h =
      let rest = told (f h.0) h.1 b s' h.4 in
      (record { asked = q; reply = h.0 } ∷ rest.0, (h.1, h.2, rest.1), (refl, h.3, rest.2))

module _ {S Q R : Type 0} (meaning : S → Q → R → S → Type 0) (fits : Q → R → Type 0) (broken : S → Q → S → Type 0) where
  -- broken off at once
  pub cut_here : {A : Type 0} (t : Interaction Q R A) (s : S) → StopsIn meaning fits broken t s s
  cut_here (Returns a) s = refl
  cut_here (Asks q f) s = inl refl

  -- broken off in the first of two
  pub cut_first : {A B : Type 0} (t : Interaction Q R A) (k : A → Interaction Q R B) (s s' : S)
      → StopsIn meaning fits broken t s s' → StopsIn meaning fits broken (t >>= k) s s'
  cut_first (Returns a) k s s' h = subst (λ x. StopsIn meaning fits broken (k a) s x) (sym h) (cut_here (k a) s)
  cut_first (Asks q f) k s s' (inl h) = inl h
  cut_first (Asks q f) k s s' (inr (inl h)) = inr (inl h)
  cut_first (Asks q f) k s s' (inr (inr h)) = inr (inr (h.0, h.1, h.2, h.3, cut_first (f h.0) k h.1 s' h.4))

  -- broken off in the second of two
  pub cut_then : {A B : Type 0} (t : Interaction Q R A) (k : A → Interaction Q R B) (s : S) (a : A) (m s' : S)
      → RunsTo meaning fits t s a m → StopsIn meaning fits broken (k a) m s' → StopsIn meaning fits broken (t >>= k) s s'
  cut_then (Returns a') k s a m s' h g =
      subst (λ (x : S). StopsIn meaning fits broken (k a') x s') h.1 (subst (λ x. StopsIn meaning fits broken (k x) m s') h.0 g)
  cut_then (Asks q f) k s a m s' h g = inr (inr (h.0, h.1, h.2, h.3, cut_then (f h.0) k h.1 a m s' h.4 g))

-- what was broken off, between two questions, had begun
pub begun : {S Q R : Type 0} (meaning : S → Q → R → S → Type 0) (fits : Q → R → Type 0) {A : Type 0} (t : Interaction Q R A) (s s' : S)
    → StopsIn meaning fits (λ _ _ _. ⊥) t s s' → (x : List (Exchange Q R)) × AnswersAll meaning s x s' × IsTracePrefix fits t x
begun meaning fits (Returns a) s s' h = ([], h, tt)
begun meaning fits (Asks q f) s s' (inl h) = ([], h, tt)
begun meaning fits (Asks q f) s s' (inr (inl h)) = absurd h
begun meaning fits (Asks q f) s s' (inr (inr h)) =
    let rest = begun meaning fits (f h.0) h.1 s' h.4 in
    (record { asked = q; reply = h.0 } ∷ rest.0, (h.1, h.2, rest.1), (refl, h.3, rest.2))

-- what was told and answered was held
pub held_of : {S Q R A : Type 0} (meaning : S → Q → R → S → Type 0) (fits : Q → R → Type 0) (t : Interaction Q R A) (s : S) (x : List (Exchange Q R)) (a : A) (s' : S)
    → AnswersAll meaning s x s' → IsTrace fits t x a → RunsTo meaning fits t s a s'
held_of meaning fits (Returns a') s [] a s' h g = (g, h)
held_of meaning fits (Returns a') s (e ∷ x) a s' h g = absurd g
held_of meaning fits (Asks q f) s [] a s' h g = absurd g
held_of {S} {Q} {R} meaning fits (Asks q f) s (e ∷ x) a s' h g =
    (e.reply, h.0, subst (λ (z : Q). meaning s z e.reply h.0) g.0 h.1, g.1, held_of meaning fits (f e.reply) h.0 x a s' h.2 g.2)

-- the laws by which the parts of an interaction make the whole
pub ruleset talking = (held_then, cut_here, cut_first, cut_then)

-- what each reply keeps, the whole interaction keeps
module _ {S Q R : Type 0} (meaning : S → Q → R → S → Type 0) (fits : Q → R → Type 0) (broken : S → Q → S → Type 0)
    (P : S → S → Type 0) (here : (a : S) → P a a) (then : (a b c : S) → P a b → P b c → P a c)
    (each : (a : S) (q : Q) (r : R) (b : S) → meaning a q r b → P a b) (breaks : (a : S) (q : Q) (b : S) → broken a q b → P a b) where
  pub held_keeps : {A : Type 0} (t : Interaction Q R A) (a : S) (v : A) (b : S) → RunsTo meaning fits t a v b → P a b
  held_keeps (Returns v') a v b h = subst (λ (x : S). P a x) (sym h.1) (here a)
  held_keeps (Asks q f) a v b h = then a h.1 b (each a q h.0 h.1 h.2) (held_keeps (f h.0) h.1 v b h.4)

  pub cut_keeps : {A : Type 0} (t : Interaction Q R A) (a b : S) → StopsIn meaning fits broken t a b → P a b
  cut_keeps (Returns v') a b h = subst (λ (x : S). P a x) (sym h) (here a)
  cut_keeps (Asks q f) a b (inl h) = subst (λ (x : S). P a x) (sym h) (here a)
  cut_keeps (Asks q f) a b (inr (inl h)) = breaks a q b h
  cut_keeps (Asks q f) a b (inr (inr h)) = then a h.1 b (each a q h.0 h.1 h.2) (cut_keeps (f h.0) h.1 b h.4)
