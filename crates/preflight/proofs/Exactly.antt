-- A text is found admitted exactly where it spells whole cards of its account.
use Rattle.std.proofs.Common.{◌≡◌, ℕ, List}
use Rattle.std.specs.Prelude.{◌↔◌}
use Rattle.deck_syntax.specs.{Decks.{Asked}, Sections.{Closed}}
use Rattle.preflight.specs.{Examined.{IsSubmission, Admits}, inner.Reading.{examined}}
use Rattle.preflight.proofs.{Admitted.{admitted}, Good.{taken}, Spelled.{spelled_goes, goes_spelled}}

pub admits_exactly : (own : List ℕ) (ls : List (List ℕ)) (asked : List Asked) → (examined own 1 Closed ls ≡ Admits asked) ↔ IsSubmission own ls asked
admits_exactly own ls asked = (
  λ is. let fine = admitted own ls 1 Closed asked is in record { spelled = goes_spelled ls 1 asked fine.goes; are_own = fine.are_own },
  λ good. (taken own ls 1 Closed asked (spelled_goes asked ls 1 good.spelled) good.are_own).is,
)
