-- How the places of a text are kept: as segments, in each of which columns go up by one with the offset.
use Rattle.std.specs.Prelude.{◌≡◌, ℕ, ◌+◌, ◌-◌, ◌^◌, Bool, true, ◌&&◌, nat_le, min, List, [], ◌∷◌, if◌then◌else◌}
use Rattle.sno_cards.specs.declared.refusal.Place.{Place}
use Rattle.sno_cards.specs.declared.text.Segment.{Segment}
use Rattle.sno_cards.specs.Texts.{Placed}

abbrev pub nowhere : Place
nowhere = record { card = 0; column = 0 }

-- where the character at an offset stands, if it belongs to this segment
abbrev pub moved : Segment → ℕ → Place
moved s i = record { card = s.place.card; column = min (s.place.column + (i - s.offset)) (2 ^ 64 - 1) }

-- by the last segment that begins at an offset or before it, else as so far
abbrev pub place_by : Place → List Segment → ℕ → Place
place_by so_far [] i = so_far
place_by so_far (s ∷ ss) i = place_by (if nat_le s.offset i then moved s i else so_far) ss i

-- characters, the first of which has this offset, with their places
abbrev pub placed_by : List Segment → ℕ → List ℕ → List Placed
placed_by segments i [] = []
placed_by segments i (c ∷ cs) = record { code = c; place = place_by nowhere segments i } ∷ placed_by segments (i + 1) cs

-- each segment begins at or behind the one before it, and these two bounds hold for all
abbrev pub ascend : ℕ → List Segment → ℕ → Bool
ascend from [] most = nat_le from most
ascend from (s ∷ ss) most = nat_le from s.offset && ascend s.offset ss most

-- some bound holds for all
abbrev pub AreAscending : List Segment → Type 0
AreAscending segments = (from : ℕ) × (most : ℕ) × (ascend from segments most ≡ true)
