-- What an interaction was broken off after begins a whole run of it.
use Rattle.std.proofs.Common.{List, [], ◌∷◌, ◌++◌, refl, inl, inr}
use Rattle.interaction.specs.{Interactions.{Interaction, Returns, Asks}, Exchanges.{Exchange, IsTrace}, Holding.{StopsIn}, InteractionLaws.{StoppedAt}}
use Rattle.interaction.proofs.InteractionRuns.{goes_on}

module _ {S Q R : Type 0} (meaning : S → Q → R → S → Type 0) (fits : Q → R → Type 0) (broken : S → Q → S → Type 0)
    (some : (q : Q) → (r : R) × fits q r) where
  one_more : (q : Q) (r : R) (s m : S) (x y : List (Exchange Q R)) (s' : S) → meaning s q r m
      → StoppedAt meaning fits broken m x y s' → StoppedAt meaning fits broken s (record { asked = q; reply = r } ∷ x) y s'
  one_more q r s m x [] s' h k = (m, h, k)
  one_more q r s m x (e ∷ y) s' h (inl k) = inl (m, h, k)
  one_more q r s m x (e ∷ y) s' h (inr k) = inr (k.0, (m, h, k.1), k.2)

  pub broken_goes_on : {A : Type 0} (t : Interaction Q R A) (s s' : S) → StopsIn meaning fits broken t s s'
      → (x y : List (Exchange Q R)) × (a : A) × IsTrace fits t (x ++ y) a × StoppedAt meaning fits broken s x y s'
  broken_goes_on (Returns a) s s' h = ([], [], a, refl, h)
  broken_goes_on (Asks q f) s s' (inl h) =
      let rest = goes_on fits some (f (some q).0) [] tt in
      ([], record { asked = q; reply = (some q).0 } ∷ rest.0, rest.1, (refl, (some q).1, rest.2), inl h)
  broken_goes_on (Asks q f) s s' (inr (inl h)) =
      let rest = goes_on fits some (f (some q).0) [] tt in
      ([], record { asked = q; reply = (some q).0 } ∷ rest.0, rest.1, (refl, (some q).1, rest.2), inr (s, refl, h))
  broken_goes_on (Asks q f) s s' (inr (inr h)) =
      let rest = broken_goes_on (f h.0) h.1 s' h.4 in
      (record { asked = q; reply = h.0 } ∷ rest.0, rest.1, rest.2, (refl, h.3, rest.3), one_more q h.0 s h.1 rest.0 rest.1 s' h.2 rest.4)
