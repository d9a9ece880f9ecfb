-- Labels (after Griswold, Poage and Polonsky, "The SNOBOL4 Programming Language", 2nd edition, chapter 1; which labels are
-- refused is own).
use Rattle.std.specs.Prelude.{ℕ, Bool, false, not, ◌||◌, bytes_eq, codes, is_some, List, [], ◌∷◌, Option, Some, None, if◌then◌else◌}
use Rattle.std.specs.Map.{lookup}
use Rattle.mon_text.specs.Characters.{is_letter_or_digit}
use Rattle.sno_cards.specs.declared.refusal.SyntaxCode.{SyntaxCode}
use Rattle.sno_cards.specs.declared.refusal.SyntaxCode.TheVariants.{Unexpected, LabelTaken, BadEnd}

abbrev pub is_end : List ℕ → Bool
is_end label = bytes_eq label (codes "END")

-- what a goto means by itself, so that no statement can have it
abbrev pub is_kept : List ℕ → Bool
is_kept label = bytes_eq label (codes "RETURN") || bytes_eq label (codes "FRETURN")

-- labels, each with the index of the statement that it stands before
abbrev pub LabelList : Type 0
LabelList = List (List ℕ × ℕ)

-- a label begins with something else
abbrev pub is_bad_label : List ℕ → Bool
is_bad_label [] = false
is_bad_label (c ∷ cs) = not (is_letter_or_digit c)

-- why a statement may not have a label, where these are defined before it: it begins with something else than a letter or
-- digit; it is END, which is the END line's; it was defined before, or is kept
abbrev pub label_fault : LabelList → List ℕ → Option SyntaxCode
label_fault labels [] = None
label_fault labels (c ∷ cs) =
    if not (is_letter_or_digit c) then Some Unexpected
    else if is_end (c ∷ cs) then Some BadEnd
    else if is_kept (c ∷ cs) || is_some (lookup (bytes_eq (c ∷ cs)) labels) then Some LabelTaken
    else None
