-- Pieces that are taken, whatever texts have the digests that the entries of an index say (own).
use Rattle.std.specs.Prelude.{◌≡◌, ℕ, List, [], ◌∷◌, ◌++◌}
use Rattle.ledger_text.specs.Digests.{digest_of}
use Rattle.ledger_index.specs.Index.{Entry}

-- each has the digest that its entry says
abbrev pub AreTexts : List Entry → List (List ℕ) → Type 0
AreTexts [] [] = Unit {0}
AreTexts [] (text ∷ texts) = ⊥
AreTexts (e ∷ entries) [] = ⊥
AreTexts (e ∷ entries) (text ∷ texts) = (digest_of text ≡ e.digest) × AreTexts entries texts

-- a machine has such texts behind the changes that it had
pub record HasTaken (entries : List Entry) (before after : List (List ℕ)) : Type 0 where
  pub texts : List (List ℕ)
  pub fit : AreTexts entries texts
  pub are : after ≡ before ++ texts
