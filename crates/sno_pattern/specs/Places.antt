-- Where a pattern can end from a cursor on, in the order in which that is tried, and where it matches first (SNOBOL4 book,
-- chapter 2; own for BAL and ARBNO): no steps, no goals and no backing up.
use Rattle.std.specs.Prelude.{◌≡◌, ℕ, zero, suc, ◌+◌, ◌-◌, List, [], ◌∷◌, ◌++◌, length, drop, Bool, not, ◌&&◌, if◌then◌else◌, nat_eq, nat_le, nat_lt, Option, Some, None, ◌≤◌}
use Rattle.std.specs.List.{starts_with, flat_map, prefix_len, position_or_len, range_with_len}
use Rattle.interaction.specs.Interactions.{Returns, Asks}
use Rattle.sno_text.specs.Patterns.{Pattern}
use Rattle.sno_text.specs.Patterns as pattern
use Rattle.sno_pattern.specs.declared.ending.MatchEnd.{MatchEnd}
use Rattle.sno_pattern.specs.declared.ending.MatchEnd.TheVariants as end
use Rattle.sno_text.specs.Sets.{is_one_of}
use Rattle.sno_text.specs.Balance.{balanced_ends}
use Rattle.sno_pattern.specs.Steps.{End, Success, Failure, WholeFails, OutOfSteps, Fault, Trying}
use Rattle.mon_text.specs.Beginnings.{first_passes}

-- no host is asked, and nothing cuts off what is still to be tried
abbrev pub IsSimple : Pattern → Type 0
IsSimple (pattern.Cat a b) = IsSimple a × IsSimple b
IsSimple (pattern.Alt a b) = IsSimple a × IsSimple b
IsSimple (pattern.Arbno a) = IsSimple a
IsSimple (pattern.Conditional a v) = IsSimple a
IsSimple (pattern.Immediate a v) = ⊥
IsSimple (pattern.Cursor v) = ⊥
IsSimple (pattern.Defer v) = ⊥
IsSimple pattern.Fence = ⊥
IsSimple pattern.Abort = ⊥
IsSimple pattern.Succeed = ⊥
IsSimple _ = Unit {0}

-- c, and then the turns from each end of one turn that moves on; k bounds the number of turns
abbrev pub ends_of_turns : (ℕ → List ℕ) → ℕ → ℕ → List ℕ
ends_of_turns f zero c = c ∷ []
ends_of_turns f (suc k) c = c ∷ flat_map (λ e. if nat_eq e c then [] else ends_of_turns f k e) (f c)

abbrev pub one_end : Bool → ℕ → List ℕ
one_end holds c = if holds then c ∷ [] else []

abbrev pub ends_of : List ℕ → Pattern → ℕ → List ℕ
ends_of text (pattern.Text s) c = one_end (starts_with nat_eq (drop c text) s) (c + length s)
ends_of text (pattern.Len k) c = one_end (nat_le (c + k) (length text)) (c + k)
ends_of text (pattern.Pos k) c = one_end (nat_eq c k) c
ends_of text (pattern.RPos k) c = one_end (nat_eq (c + k) (length text)) c
ends_of text (pattern.Tab k) c = one_end (nat_le c k && nat_le k (length text)) k
ends_of text (pattern.RTab k) c = one_end (nat_le (c + k) (length text)) (length text - k)
ends_of text (pattern.Any s) c = one_end (first_passes (is_one_of s) (drop c text)) (c + 1)
ends_of text (pattern.NotAny s) c = one_end (first_passes (λ x. not (is_one_of s x)) (drop c text)) (c + 1)
ends_of text (pattern.Span s) c = one_end (first_passes (is_one_of s) (drop c text)) (c + prefix_len (is_one_of s) (drop c text))
ends_of text (pattern.Break s) c = one_end (nat_lt (c + position_or_len (is_one_of s) (drop c text)) (length text))
    (c + position_or_len (is_one_of s) (drop c text))
ends_of text pattern.Rem c = length text ∷ []
ends_of text pattern.Arb c = range_with_len c (length text + 1 - c)
ends_of text pattern.Bal c = balanced_ends text c
ends_of text (pattern.Cat a b) c = flat_map (ends_of text b) (ends_of text a c)
ends_of text (pattern.Alt a b) c = ends_of text a c ++ ends_of text b c
ends_of text (pattern.Arbno a) c = ends_of_turns (ends_of text a) (length text - c) c
ends_of text (pattern.Conditional a v) c = ends_of text a c
ends_of text _ c = []

-- success is at the first of the ends, failure where there is none; that steps run out says nothing
abbrev pub Finds : List ℕ → End → Type 0
Finds es (Success at p) = (rest : List ℕ) × (es ≡ at ∷ rest)
Finds es Failure = es ≡ []
Finds es WholeFails = ⊥
Finds es OutOfSteps = Unit {0}
Finds es (Fault f) = ⊥

-- it asks nothing, and ends so
abbrev pub Comes : List ℕ → Trying → Type 0
Comes es (Returns o) = Finds es o.end
Comes es (Asks q f) = ⊥

-- every cursor, or the first one alone
abbrev pub starts : List ℕ → (anchored : Bool) → List ℕ
starts text anchored = range_with_len 0 (if anchored then 1 else (length text + 1))

-- from here to the first of these ends, or else the place after
abbrev pub place_from : ℕ → List ℕ → Option (ℕ × ℕ) → Option (ℕ × ℕ)
place_from at [] later = later
place_from at (to ∷ more) later = Some (at, to)

-- from the first of these cursors that has an end to the first of its ends
abbrev pub first_place : List ℕ → Pattern → List ℕ → Option (ℕ × ℕ)
first_place text p [] = None
first_place text p (at ∷ later) = place_from at (ends_of text p at) (first_place text p later)

-- a match is at this place, and is none where there is none; that steps run out says nothing
abbrev pub IsAt : Option (ℕ × ℕ) → MatchEnd → Type 0
IsAt place (end.Matched from to pending) = place ≡ Some (from, to)
IsAt place end.NoMatch = place ≡ None
IsAt place end.Limit = Unit {0}
IsAt place (end.Fault f) = ⊥

-- where it matches, that is a part of a text of this length
abbrev pub MatchesWithin : ℕ → MatchEnd → Type 0
MatchesWithin l (end.Matched from to pending) = (from ≤ to) × (to ≤ l)
MatchesWithin l end.NoMatch = Unit {0}
MatchesWithin l end.Limit = Unit {0}
MatchesWithin l (end.Fault f) = Unit {0}
