-- Where a program is refused (own).
use Rattle.std.specs.Prelude.{ℕ, ◌+◌, ◌-◌, ◌^◌, min, List, map, get_or, if◌then◌else◌}
use Rattle.mon_text.specs.Characters.{is_blank}
use Rattle.sno_cards.specs.declared.refusal.Place.{Place}
use Rattle.sno_cards.specs.declared.refusal.SyntaxError.{SyntaxError}
use Rattle.sno_cards.specs.declared.refusal.SyntaxCode.{SyntaxCode}
use Rattle.sno_cards.specs.Texts.{Placed}
use Rattle.std.specs.List.{fold}

-- no place at all: cards and columns are counted from 1
abbrev pub nowhere : Place
nowhere = record { card = 0; column = 0 }

-- where the character at an offset stands
abbrev pub place_at : List Placed → ℕ → Place
place_at text offset = get_or (map (λ c. c.place) text) offset nowhere

-- the column after a place, unless it is the last that a number can tell
abbrev pub next_to : Place → Place
next_to place = record place { column = min (place.column + 1) (2 ^ 64 - 1) }

-- the place after the last character that is no blank
abbrev pub end_of : List Placed → Place
end_of text = fold (λ so_far c. if is_blank c.code then so_far else next_to c.place) nowhere text

abbrev pub refused_with : SyntaxCode → Place → SyntaxError
refused_with code place = record { code = code; place = place }
