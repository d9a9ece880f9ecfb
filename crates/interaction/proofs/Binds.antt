-- Interactions one after another.
use Rattle.std.proofs.Common.{◌≡◌, refl, ap}
use Rattle.interaction.specs.Interactions.{Interaction, Returns, Asks, ◌>>=◌}

pub funext : {A B : Type 0} (f g : A → B) → ((a : A) → f a ≡ g a) → f ≡ g
funext f g h = λ i a. h a i

-- the same after each value
pub alike_then : {Q R A B : Type 0} (t : Interaction Q R A) (k k' : A → Interaction Q R B) → ((a : A) → k a ≡ k' a) → (t >>= k) ≡ (t >>= k')
alike_then (Returns a) k k' h = h a
alike_then {Q} {R} {A} {B} (Asks q f) k k' h =
    ap (λ (z : R → Interaction Q R B). Asks q z) (funext (λ r. f r >>= k) (λ r. f r >>= k') (λ r. alike_then (f r) k k' h))

-- three, whichever two are joined first
pub then_then : {Q R A B C : Type 0} (t : Interaction Q R A) (k : A → Interaction Q R B) (l : B → Interaction Q R C) → ((t >>= k) >>= l) ≡ (t >>= (λ a. k a >>= l))
then_then (Returns a) k l = refl
then_then {Q} {R} {A} {B} {C} (Asks q f) k l =
    ap (λ (z : R → Interaction Q R C). Asks q z) (funext (λ r. (f r >>= k) >>= l) (λ r. f r >>= (λ a. k a >>= l)) (λ r. then_then (f r) k l))

-- two, and then what comes after the second of them after each value of the first
pub both_then : {Q R A B C : Type 0} (t : Interaction Q R A) (k : A → Interaction Q R B) (l : B → Interaction Q R C) (m : A → Interaction Q R C)
    → ((a : A) → (k a >>= l) ≡ m a) → ((t >>= k) >>= l) ≡ (t >>= m)
both_then (Returns a) k l m h = h a
both_then {Q} {R} {A} {B} {C} (Asks q f) k l m h =
    ap (λ (z : R → Interaction Q R C). Asks q z) (funext (λ r. (f r >>= k) >>= l) (λ r. f r >>= m) (λ r. both_then (f r) k l m h))

-- nothing after it
pub then_ends : {Q R A : Type 0} (t : Interaction Q R A) → (t >>= (λ a. Returns a)) ≡ t
then_ends (Returns a) = refl
then_ends {Q} {R} {A} (Asks q f) =
    ap (λ (z : R → Interaction Q R A). Asks q z) (funext (λ r. f r >>= (λ a. Returns a)) f (λ r. then_ends (f r)))
