-- Unit cards are refused by which units are tied already.
use Rattle.std.proofs.Common.{◌≡◌, ℕ, zero, suc, ◌+◌, ◌<◌, ◌≤◌, Bool, true, false, List, [], ◌∷◌, length, get_or, drop, Some, None, refl, sym, ap, ◌∙◌, map, option_map, replicate, nat_lt, ◌==◌, ◌||◌, if◌then◌else◌, slice_get, slice_set}
use Rattle.scheduler.proofs.Common.{at_drop_more, at_drop_all, option_or, Set, Tie, UnitError, UnitRange, UnitTwice, UnitState, new_units, is_a_set, tied_to, tie_refusal, statements_of, find_account, NoAccount, Cards, UnitCard, refused_by, tied_by, ties_refusal, ToldByCards, cards_refused, missing, program_refusal, or_untied}
use Rattle.scheduler.proofs.{Seats.{map_set}, Shorthand.{data_of}}

abbrev pub is_tied : Tie → Bool
is_tied tie = is_a_set tie.target

tied_at : (ties : List Tie) (u : ℕ) → is_a_set (or_untied (slice_get ties u)).target ≡ get_or (map is_tied ties) u false
tied_at [] u = refl
tied_at (tie ∷ ties) zero = refl
tied_at (tie ∷ ties) (suc u) = tied_at ties u

refusal_by : (u : ℕ) (units : UnitState) → tie_refusal u units ≡ refused_by u (map is_tied units.ties)
refusal_by u units =
    ap (λ (b : Bool). if (u == 0) || nat_lt 99 u then Some (UnitRange u) else if b then Some (UnitTwice u) else None) (tied_at units.ties u)

cards_by : (cards : List UnitCard) (units : UnitState) → ties_refusal cards units ≡ cards_refused cards (map is_tied units.ties)
cards_by [] units = refl
cards_by (card ∷ cards) units =
    ap (λ o. option_or o (ties_refusal cards (tied_by card units))) (refusal_by card.unit units)
    ∙ ap (λ o. option_or (refused_by card.unit (map is_tied units.ties)) o)
    (cards_by cards (tied_by card units) ∙ ap (cards_refused cards) (map_set is_tied units.ties card.unit (tied_to (Set card.set))))

none_tied : (lines : List (List ℕ)) → map is_tied (new_units lines).ties ≡ replicate 100 false
none_tied lines = refl

pub all_by : (cards : List UnitCard) (lines : List (List ℕ)) → ties_refusal cards (new_units lines) ≡ cards_refused cards (replicate 100 false)
all_by cards lines = cards_by cards (new_units lines) ∙ ap (cards_refused cards) (none_tied lines)

-- where this card is refused, behind cards that are not
pub stops_at : (cards : List UnitCard) (lines : List (List ℕ)) (i : ℕ) (card : UnitCard) (tied : List Bool) (refusal : UnitError)
    → cards_refused cards (replicate 100 false) ≡ cards_refused (drop i cards) tied → i < length cards → get_or cards i card ≡ card
    → refused_by card.unit tied ≡ Some refusal → Some refusal ≡ ties_refusal cards (new_units lines)
stops_at cards lines i card tied refusal so_far lt is some =
    let rest = drop (i + 1) cards in
    sym (all_by cards lines ∙ so_far ∙ at_drop_more (λ (cs : List UnitCard). cards_refused cs tied) cards i card lt
    ∙ ap (λ (c : UnitCard). cards_refused (c ∷ rest) tied) is ∙ ap (λ o. option_or o (cards_refused rest (slice_set tied card.unit true))) some)

-- where none is
pub none_stops : (cards : List UnitCard) (lines : List (List ℕ)) (i : ℕ) (tied : List Bool)
    → cards_refused cards (replicate 100 false) ≡ cards_refused (drop i cards) tied → length cards ≤ i → None ≡ ties_refusal cards (new_units lines)
none_stops cards lines i tied so_far le = sym (all_by cards lines ∙ so_far ∙ at_drop_all (λ (cs : List UnitCard). cards_refused cs tied) cards i le)

-- so is the whole job
pub told : ToldByCards
told accounts deck =
    ap (λ o. option_or (missing NoAccount (find_account accounts deck.account)) (option_or (option_map Cards o) (program_refusal (statements_of deck.lines))))
    (all_by deck.ties (data_of deck.lines (statements_of deck.lines)))
