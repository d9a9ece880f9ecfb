-- The account finds the same, and the sites differ.
use Rattle.std.proofs.Common.{◌≡◌, ℕ, true, List, [], ◌∷◌, refl, ap, arith, length, codes}
use Rattle.mon_catalogue.specs.{declared.data_set.DataSet.{DataSet}, Sets.{Sets}}
use Rattle.deck_lines.specs.declared.card.Card.TheVariants as card
use Rattle.deck_lines.specs.CardLines.{IsCard}
use Rattle.mon_monitor.{specs.Example.{ann}, proofs.Example.{alike}}
use Rattle.rounds.specs.{Isolation.{IsOwnText}, Example.{visit, pay, TheyFindAlike}}

asks : IsCard 200 card.Catalog (codes "ANN" ∷ []) (codes "$CATALOG ANN")
asks = record { word = codes "$CATALOG"; line_is = (omega arith, refl); words_are = refl; names_it = refl }

own : IsOwnText ann visit.own.text
own = record {
  handed = record { spelled = ([], codes "$CATALOG ANN", [], [], refl, tt, ((asks, refl), refl), tt); are_own = (refl, tt) };
  own = refl;
}

pub they_find_alike : TheyFindAlike
they_find_alike = (
  ((refl, alike (codes "BOB 900" ∷ codes "SUE 800" ∷ []) (codes "BOB 700" ∷ []), tt), own, tt),
  (λ same. absurd (let one : 2 ≡ 1 = ap (λ (sets : Sets). length (first sets)) same in cc (one))),
)
  where
    first : Sets → List (List ℕ)
    first [] = []
    first (named ∷ sets) = named.1.records
