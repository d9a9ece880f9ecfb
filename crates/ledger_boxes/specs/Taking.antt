-- A claimed file is taken up (own): it is decided by what was seen, and what its account has handed in follows from that.
use Rattle.std.specs.Prelude.{◌≡◌, ℕ, List}
use Rattle.ledger_boxes.specs.declared.admission.Owner.{Owner}
use Rattle.ledger_boxes.specs.Sights.{Sight}
use Rattle.ledger_boxes.specs.Admission.{Decided, DecidesBy, handed_behind}

pub record TakesUp {B : Type 0} (seen : B → List Sight) (owner new_owner : Owner) (name : List ℕ) (number : ℕ) (old new : B) : Type 0 where
  pub decided : Decided
  pub by_sight : DecidesBy seen owner name number decided old new
  pub counted : new_owner ≡ record owner { handed = handed_behind owner.handed decided }
