-- Parts of the definitions by names of their own.
use Rattle.std.specs.{Prelude.{◌≡◌, ℕ, List, Option, MatchOption, if◌then◌else◌}, List.{fold}}
use Rattle.mon_text.specs.Characters.{is_blank}
use Rattle.sno_cards.specs.declared.refusal.{Place.{Place}, SyntaxError.{SyntaxError}, SyntaxCode.{SyntaxCode}}
use Rattle.sno_cards.specs.Texts.{Placed}
use Rattle.sno_syntax.specs.{Places.{next_to, place_at, refused_with}, Refusals.{IsRefusedBehind}}

-- the place after the last character that is no blank, where one more character stands at a place
abbrev pub end_after : Place → ℕ → Place → Place
end_after so_far code place = if is_blank code then so_far else next_to place

abbrev pub end_from : Place → List Placed → Place
end_from so_far text = fold (λ p c. if is_blank c.code then p else next_to c.place) so_far text

abbrev pub IsRefusedBy : List Placed → Option SyntaxCode → SyntaxError → Type 0
IsRefusedBy text code e = MatchOption code (IsRefusedBehind text e) (λ c. e ≡ refused_with c (place_at text 0))
