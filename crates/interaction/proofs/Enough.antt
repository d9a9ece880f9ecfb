-- What an interaction ends with, and interactions that go on alike from there: for definitions that recurse on a number, where a larger
-- number than is needed changes nothing.
use Rattle.std.proofs.Common.{◌≡◌, ap}
use Rattle.interaction.{specs.Interactions.{Interaction, Returns, Asks, ◌>>=◌}, specs.Endings.{EndsIn}, proofs.Binds.{funext}}

pub ends_in_then : {Q R A B : Type 0} (P : A → Type 0) (P' : B → Type 0) (t : Interaction Q R A) (k : A → Interaction Q R B)
    → EndsIn P t → ((a : A) → P a → EndsIn P' (k a)) → EndsIn P' (t >>= k)
ends_in_then P P' (Returns a) k h g = g a h
ends_in_then P P' (Asks q f) k h g = λ r. ends_in_then P P' (f r) k (h r) g

pub same_then : {Q R A B : Type 0} (P : A → Type 0) (t : Interaction Q R A) (k k' : A → Interaction Q R B)
    → EndsIn P t → ((a : A) → P a → k a ≡ k' a) → (t >>= k) ≡ (t >>= k')
same_then P (Returns a) k k' h g = g a h
same_then {Q} {R} {A} {B} P (Asks q f) k k' h g =
    ap (λ (z : R → Interaction Q R B). Asks q z) (funext (λ r. f r >>= k) (λ r. f r >>= k') (λ r. same_then P (f r) k k' (h r) g))

-- an interaction whose value is only changed
pub each_ends : {Q R A B : Type 0} (P : B → Type 0) (t : Interaction Q R A) (f : A → B) → ((a : A) → P (f a)) → EndsIn P (t >>= (λ a. Returns (f a)))
each_ends P (Returns a) f h = h a
each_ends P (Asks q g) f h = λ r. each_ends P (g r) f h

-- what implies another
pub ends_in_weaker : {Q R A : Type 0} (P P' : A → Type 0) (t : Interaction Q R A) → ((a : A) → P a → P' a) → EndsIn P t → EndsIn P' t
ends_in_weaker P P' (Returns a) g h = g a h
ends_in_weaker P P' (Asks q f) g h = λ r. ends_in_weaker P P' (f r) g (h r)
