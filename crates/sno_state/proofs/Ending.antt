-- An interaction that asks nothing.
use Rattle.std.proofs.Common.{◌≡◌, refl, subst}
use Rattle.interaction.specs.{Interactions.{Interaction, Returns}, Holding.{RunsTo}}

pub ended_so : {S Q R A : Type 0} (meaning : S → Q → R → S → Type 0) (fits : Q → R → Type 0) (t : Interaction Q R A) (s : S) (a : A)
    → Returns a ≡ t → RunsTo meaning fits t s a s
ended_so meaning fits t s a h = subst (λ x. RunsTo meaning fits x s a s) h (refl, refl)
