-- What a line of a program is, by its first character (after "The SNOBOL4 Programming Language", which has comments,
-- control cards and continuations; which control cards there are, and that letters of either case do, is own).
use Rattle.std.specs.Prelude.{ℕ, Bool, true, false, ◌&&◌, ◌||◌, ◌==◌, nat_eq, List, [], ◌∷◌, map, codes, if◌then◌else◌}
use Rattle.std.specs.List.{before_first}
use Rattle.std.specs.Char.{to_ascii_lowercase}
use Rattle.std.specs.Cmp.Lexicographic.{pointwise}
use Rattle.mon_text.specs.Characters.{is_blank}
use Rattle.sno_cards.specs.declared.card.CardKind.{CardKind}
use Rattle.sno_cards.specs.declared.card.CardKind.TheVariants.{Comment, Control, UnknownControl, Continuation, Start}

abbrev pub is_semicolon : ℕ → Bool
is_semicolon c = c == 59

-- two words are the same but for the case of their letters
abbrev pub is_same_word : List ℕ → List ℕ → Bool
is_same_word a b = pointwise nat_eq (map to_ascii_lowercase a) (map to_ascii_lowercase b)

abbrev pub is_control_name : List ℕ → Bool
is_control_name word =
    is_same_word word (codes "LIST") || is_same_word word (codes "UNLIST") || is_same_word word (codes "EJECT")

-- `*` begins a comment, `-` a control card, whose name goes up to a blank or the end, `+` or `.` a continuation; anything else,
-- or nothing, a new line of statements
abbrev pub kind_of : List ℕ → CardKind
kind_of [] = Start
kind_of (mark ∷ rest) =
    if mark == 42 then Comment
    else if mark == 45 then (if is_control_name (before_first is_blank rest) then Control else UnknownControl)
    else if mark == 43 || mark == 46 then Continuation
    else Start

abbrev pub is_start : CardKind → Bool
is_start kind = elim kind [ Start ↦ true | _ ↦ false ]

abbrev pub is_continuation : CardKind → Bool
is_continuation kind = elim kind [ Continuation ↦ true | _ ↦ false ]

-- END is followed by a blank, by `;` or by nothing
abbrev pub ends_label : List ℕ → Bool
ends_label [] = true
ends_label (c ∷ cs) = is_blank c || is_semicolon c

-- the line that ends a program: END in columns 1 to 3
abbrev pub is_end_line : List ℕ → Bool
is_end_line text = elim text [ e ∷ n ∷ d ∷ rest ↦ e == 69 && n == 78 && d == 68 && ends_label rest | _ ↦ false ]

-- what stands on the END line after END, before the first `;`
abbrev pub rest_of_end_line : List ℕ → List ℕ
rest_of_end_line text = elim text [ e ∷ n ∷ d ∷ rest ↦ before_first is_semicolon rest | _ ↦ [] ]
