-- Interactions one after the other, as they are told.
use Rattle.std.proofs.Common.{List, [], ◌∷◌, ◌++◌, subst}
use Rattle.interaction.specs.{Interactions.{Interaction, Returns, Asks, ◌>>=◌}, Exchanges.{Exchange, IsTrace, IsTracePrefix}}

module _ {Q R A B : Type 0} (fits : Q → R → Type 0) where
  pub tells_then : (t : Interaction Q R A) (k : A → Interaction Q R B) (x y : List (Exchange Q R)) (a : A) (b : B)
      → IsTrace fits t x a → IsTrace fits (k a) y b → IsTrace fits (t >>= k) (x ++ y) b
  tells_then (Returns v) k [] y a b h g = subst (λ (z : A). IsTrace fits (k z) y b) h g
  tells_then (Returns v) k (e ∷ x) y a b h g = absurd h
  tells_then (Asks q f) k [] y a b h g = absurd h
  tells_then (Asks q f) k (e ∷ x) y a b h g = (h.0, h.1, tells_then (f e.reply) k x y a b h.2 g)

  pub begins_then : (t : Interaction Q R A) (k : A → Interaction Q R B) (x y : List (Exchange Q R)) (a : A)
      → IsTrace fits t x a → IsTracePrefix fits (k a) y → IsTracePrefix fits (t >>= k) (x ++ y)
  begins_then (Returns v) k [] y a h g = subst (λ (z : A). IsTracePrefix fits (k z) y) h g
  begins_then (Returns v) k (e ∷ x) y a h g = absurd h
  begins_then (Asks q f) k [] y a h g = absurd h
  begins_then (Asks q f) k (e ∷ x) y a h g = (h.0, h.1, begins_then (f e.reply) k x y a h.2 g)

-- what begins the first begins both
pub begins_first : {Q R A B : Type 0} (fits : Q → R → Type 0) (t : Interaction Q R A) (k : A → Interaction Q R B) (x : List (Exchange Q R)) → IsTracePrefix fits t x → IsTracePrefix fits (t >>= k) x
begins_first fits (Returns v) k [] h = tt
begins_first fits (Returns v) k (e ∷ x) h = absurd h
begins_first fits (Asks q f) k [] h = tt
begins_first fits (Asks q f) k (e ∷ x) h = (h.0, h.1, begins_first fits (f e.reply) k x h.2)
