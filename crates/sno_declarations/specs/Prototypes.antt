-- Prototypes of functions, as `F(A,B)L1,L2` (the SNOBOL4 book, chapter 4; that blanks may stand round names is own).
use Rattle.std.specs.Prelude.{ℕ, ◌+◌, ◌==◌, nat_eq, Bool, true, false, not, ◌&&◌, ◌||◌, List, [], ◌∷◌, ◌++◌, take, drop, map, position, Option, Some, None, if◌then◌else◌}
use Rattle.std.specs.List.{list_all, list_any, slice_split}
use Rattle.std.specs.Option.{option_map, option_and_then}
use Rattle.std.specs.Cmp.Lexicographic.{pointwise}
use Rattle.mon_text.specs.Characters.{is_letter, is_digit, is_blank, is_identifier_character, is_comma}
use Rattle.mon_text.specs.Lines.{is_blank_line}
use Rattle.sno_text.specs.Texts.{without_trailing_blanks}
use Rattle.sno_declarations.specs.declared.prototype.Prototype.{Prototype}
use Rattle.mon_text.specs.Beginnings.{without_leading}

abbrev pub is_identifier : List ℕ → Bool
is_identifier [] = false
is_identifier (c ∷ cs) = is_letter c && list_all is_identifier_character cs

abbrev pub trimmed : List ℕ → List ℕ
trimmed text = without_trailing_blanks (without_leading is_blank text)

-- what stands before a character's first place and behind it
abbrev pub cut_at : ℕ → List ℕ → Option (List ℕ × List ℕ)
cut_at c text = option_map (λ i. (take i text, drop (i + 1) text)) (position (λ d. d == c) text)

-- what stands between the commas; of blanks alone there is nothing
abbrev pub items : List ℕ → List (List ℕ)
items text = if is_blank_line text then [] else map trimmed (slice_split is_comma text)

-- the names of a function's variables: its own, those of its parameters and of its locals
abbrev pub names_of : Prototype → List (List ℕ)
names_of p = p.name ∷ (p.parameters ++ p.locals)

abbrev pub are_different : List (List ℕ) → Bool
are_different [] = true
are_different (name ∷ names) = not (list_any (λ other. pointwise nat_eq other name) names) && are_different names

-- they are identifiers, all different
abbrev pub checked : Prototype → Option Prototype
checked p = if list_all is_identifier (names_of p) && are_different (names_of p) then Some p else None

abbrev pub prototype_with : List ℕ → List ℕ × List ℕ → Option Prototype
prototype_with name lists = checked (record { name = trimmed name; parameters = items lists.0; locals = items lists.1 })

-- what a text says of a function; both parentheses must be there
abbrev pub prototype_of : List ℕ → Option Prototype
prototype_of text = option_and_then (λ head. option_and_then (prototype_with head.0) (cut_at 41 head.1)) (cut_at 40 text)
