-- What is behind a reference, in two words for it.
use Rattle.std.proofs.Common.{◌≡◌, refl, option_copied, Bor}
use Rattle.std.specs.Prelude.{ℕ, Option, Some, None, option_map}

pub map_copies : (o : Option (Bor ℕ)) → option_map (λ y. y.now) o ≡ option_copied o
map_copies None = refl
map_copies (Some y) = refl
