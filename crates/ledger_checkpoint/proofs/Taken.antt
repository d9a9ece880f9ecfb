-- Pieces that are taken, one after the other.
use Rattle.std.proofs.Common.{◌≡◌, ◌<◌, ℕ, ◌+◌, ◌-◌, List, [], ◌∷◌, ◌++◌, length, take, drop, map, get_or, refl, sym, ap, ◌∙◌, subst, arith, append_assoc}
use Rattle.std.proofs.lemmas.List.{take_more, map-append, append-nil, take_all, length-drop}
use Rattle.ledger_text.specs.Digests.{digest_of}
use Rattle.ledger_index.specs.{declared.index.Entry.{Entry as CodeEntry}, Index.{Entry, seen_entry, seen_entries}}
use Rattle.ledger_checkpoint.specs.Taking.{AreTexts, HasTaken}

pub none_taken : (before : List (List ℕ)) → HasTaken [] before before
none_taken before = record { texts = []; fit = tt; are = sym (append-nil before) }

pub one_taken : (e : Entry) (piece : List ℕ) (before after : List (List ℕ)) → digest_of piece ≡ e.digest → after ≡ before ++ piece ∷ [] → HasTaken (e ∷ []) before after
one_taken e piece before after same is = record { texts = piece ∷ []; fit = (same, tt); are = is }

both_fit : (one two : List Entry) (texts more : List (List ℕ)) → AreTexts one texts → AreTexts two more → AreTexts (one ++ two) (texts ++ more)
both_fit [] two [] more fit rest = rest
both_fit [] two (text ∷ texts) more fit rest = absurd fit
both_fit (e ∷ one) two [] more fit rest = absurd fit
both_fit (e ∷ one) two (text ∷ texts) more fit rest = (fit.0, both_fit one two texts more fit.1 rest)

both_taken : (one two : List Entry) (before mid after : List (List ℕ)) → HasTaken one before mid → HasTaken two mid after → HasTaken (one ++ two) before after
both_taken one two before mid after first rest = record {
  texts = first.texts ++ rest.texts;
  fit = both_fit one two first.texts rest.texts first.fit rest.fit;
  are = rest.are ∙ ap (λ (l : List (List ℕ)). l ++ rest.texts) first.are ∙ append_assoc before first.texts rest.texts;
}

pub taken_more : (entries : List CodeEntry) (i : ℕ) (d : CodeEntry) (before mid after : List (List ℕ)) → i < length entries
    → HasTaken (seen_entries (take i entries)) before mid → HasTaken (seen_entry (get_or entries i d) ∷ []) mid after
    → HasTaken (seen_entries (take (i + 1) entries)) before after
taken_more entries i d before mid after less first rest =
    subst (λ (l : List Entry). HasTaken l before after)
    (sym (ap (map seen_entry) (take_more entries i d less) ∙ map-append seen_entry (take i entries) (get_or entries i d ∷ [])))
    (both_taken (seen_entries (take i entries)) (seen_entry (get_or entries i d) ∷ []) before mid after first rest)

-- a piece of a list
pub piece_there : (xs : List ℕ) (n k : ℕ) → take k (take (length xs - n) (drop n xs)) ≡ take k (drop n xs)
piece_there xs n k = ap (take k) (take_all (length xs - n) (drop n xs) (let h = length-drop n xs in omega (arith, h)))
