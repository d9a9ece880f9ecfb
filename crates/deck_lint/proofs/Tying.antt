-- What a unit card more adds.
use Rattle.std.proofs.Common.{◌≡◌, ℕ, ◌+◌, ◌<◌, Bool, List, ◌∷◌, ◌++◌, length, get_or, drop, sym, ap, ◌∙◌, append_assoc}
use Rattle.std.proofs.lemmas.List.{at_drop_more}
use Rattle.deck_syntax.specs.declared.job_deck.UnitCard.{UnitCard}
use Rattle.load_refusal.specs.declared.load_error.LoadError.{LoadError}
use Rattle.deck_lines.specs.Ties.{refused_by}
use Rattle.deck_lint.specs.Refused.{tie_listed, tied_after, ties_refused}

-- a card more: what was put so far, with the reasons of the cards that are left, is the whole
pub ties_more : (cards : List UnitCard) (i : ℕ) (card : UnitCard) (tied after : List Bool) (before found whole : List LoadError)
    → i < length cards → get_or cards i card ≡ card
    → before ++ ties_refused (drop i cards) tied ≡ whole
    → found ≡ before ++ tie_listed (refused_by card.unit tied) → after ≡ tied_after (refused_by card.unit tied) card.unit tied
    → found ++ ties_refused (drop (i + 1) cards) after ≡ whole
ties_more cards i card tied after before found whole lt is so_far put next =
    let rest = drop (i + 1) cards in
    let reasons = tie_listed (refused_by card.unit tied) in
    ap (λ reached. reached ++ ties_refused rest after) put
    ∙ append_assoc before reasons (ties_refused rest after)
    ∙ ap (λ a. before ++ (reasons ++ ties_refused rest a)) next
    ∙ sym (ap (λ (c : UnitCard). before ++ ties_refused (c ∷ rest) tied) is)
    ∙ sym (ap (λ reasons. before ++ reasons) (at_drop_more (λ (cs : List UnitCard). ties_refused cs tied) cards i card lt))
    ∙ so_far
