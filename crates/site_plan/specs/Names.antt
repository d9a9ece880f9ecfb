-- Names of files in boxes (own): which are claimed, and how they are shown.
use Rattle.std.specs.Prelude.{ℕ, ◌==◌, nat_eq, Bool, not, ◌&&◌, ◌||◌, nat_le, List, length, codes, if◌then◌else◌}
use Rattle.std.specs.List.{list_all, starts_with, ends_with}
use Rattle.mon_text.specs.Characters.{is_letter_or_digit}

-- a file's name is shown where it is 1 to 64 letters, digits, points, underscores and hyphens
abbrev pub is_plain : ℕ → Bool
is_plain c = is_letter_or_digit c || c == 46 || c == 95 || c == 45

abbrev pub is_shown : List ℕ → Bool
is_shown name = list_all is_plain name && nat_le 1 (length name) && nat_le (length name) 64

abbrev pub shown_name : List ℕ → List ℕ
shown_name name = if is_shown name then name else codes "-"

-- a file of a box is claimed unless its name begins with a point, or ends with a tilde
abbrev pub is_claimed : List ℕ → Bool
is_claimed name = not (starts_with nat_eq name (codes ".")) && not (ends_with nat_eq name (codes "~"))
