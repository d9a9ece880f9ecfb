-- Matches worked by hand, each with as many steps as it needs, and with one fewer.
use Rattle.std.proofs.Common.{◌≡◌, ℕ, List, [], ◌∷◌, true, false, refl}
use Rattle.interaction.specs.{Interactions.{Returns}, Exchanges.{Exchange, IsTrace}}
use Rattle.sno_text.specs.Patterns as pattern
use Rattle.sno_pattern.specs.declared.{ending.MatchEnd.TheVariants.{Matched, NoMatch, Limit}, host.Taken.TheVariants.{Part, Cursor}}
use Rattle.sno_pattern.specs.{declared.host.Looked.TheVariants.{Text as LooksText}, Looks.{Look, LookUp, Assign, Told, Found, Given, Fits}}
use Rattle.sno_pattern.specs.Steps.{row, attempt, outcome, counted_match}

-- 'B' in AB: a step at each of two starts
abbrev ab : List ℕ
ab = 65 ∷ 66 ∷ []

text_at_second_start : counted_match ab (pattern.Text (66 ∷ [])) false 2 ≡ Returns (record { end = Matched 1 2 []; left = 0 })
unfolding row attempt outcome
text_at_second_start = refl

text_short_of_a_step : counted_match ab (pattern.Text (66 ∷ [])) false 1 ≡ Returns (record { end = Limit; left = 0 })
unfolding row attempt outcome
text_short_of_a_step = refl

-- ARB 'B' from the start of AB: the two nodes, and the text at two cursors
arb_text : counted_match ab (pattern.Cat pattern.Arb (pattern.Text (66 ∷ []))) true 4 ≡ Returns (record { end = Matched 0 2 []; left = 0 })
unfolding row attempt outcome
arb_text = refl

-- ARBNO('A') RPOS(0) in AA: nine goals
arbno_to_the_end : counted_match (65 ∷ 65 ∷ []) (pattern.Cat (pattern.Arbno (pattern.Text (65 ∷ []))) (pattern.RPos 0)) true 9
    ≡ Returns (record { end = Matched 0 2 []; left = 0 })
unfolding row attempt outcome
arbno_to_the_end = refl

arbno_short_of_a_step : counted_match (65 ∷ 65 ∷ []) (pattern.Cat (pattern.Arbno (pattern.Text (65 ∷ []))) (pattern.RPos 0)) true 8
    ≡ Returns (record { end = Limit; left = 0 })
unfolding row attempt outcome
arbno_short_of_a_step = refl

-- ARBNO('') 'X' in A: a turn that does not move on is the last
arbno_of_null : counted_match (65 ∷ []) (pattern.Cat (pattern.Arbno (pattern.Text [])) (pattern.Text (88 ∷ []))) true 5
    ≡ Returns (record { end = NoMatch; left = 0 })
unfolding row attempt outcome
arbno_of_null = refl

-- BAL RPOS(0) in (A)
bal_in_pairs : counted_match (40 ∷ 65 ∷ 41 ∷ []) (pattern.Cat pattern.Bal (pattern.RPos 0)) true 3 ≡ Returns (record { end = Matched 0 3 []; left = 0 })
unfolding row attempt outcome
bal_in_pairs = refl

-- FENCE 'B' in AB: no second start
fence_ends_the_match : counted_match ab (pattern.Cat pattern.Fence (pattern.Text (66 ∷ []))) false 3 ≡ Returns (record { end = NoMatch; left = 0 })
unfolding row attempt outcome
fence_ends_the_match = refl

-- SPAN('A') 'A' in AA: the run is not made shorter
span_keeps_its_run : counted_match (65 ∷ 65 ∷ []) (pattern.Cat (pattern.Span (65 ∷ [])) (pattern.Text (65 ∷ []))) true 3
    ≡ Returns (record { end = NoMatch; left = 0 })
unfolding row attempt outcome
span_keeps_its_run = refl

-- RTAB(1) in ABC: all but one
rtab_from_the_right : counted_match (65 ∷ 66 ∷ 67 ∷ []) (pattern.RTab 1) true 1 ≡ Returns (record { end = Matched 0 2 []; left = 0 })
unfolding row attempt outcome
rtab_from_the_right = refl

-- BREAK('C') in ABC, and in AB, where no C comes
break_before : counted_match (65 ∷ 66 ∷ 67 ∷ []) (pattern.Break (67 ∷ [])) true 1 ≡ Returns (record { end = Matched 0 2 []; left = 0 })
unfolding row attempt outcome
break_before = refl

break_nowhere : counted_match ab (pattern.Break (67 ∷ [])) true 1 ≡ Returns (record { end = NoMatch; left = 0 })
unfolding row attempt outcome
break_nowhere = refl

-- SUCCEED FAIL goes on until no step is left
succeed_fail : counted_match ab (pattern.Cat pattern.Succeed pattern.Fail) true 7 ≡ Returns (record { end = Limit; left = 0 })
unfolding row attempt outcome
succeed_fail = refl

-- 'A' . V in A: pending until the match succeeds
conditional_waits : counted_match (65 ∷ []) (pattern.Conditional (pattern.Text (65 ∷ [])) (86 ∷ [])) true 3
    ≡ Returns (record { end = Matched 0 1 (record { variable = 86 ∷ []; text = 65 ∷ [] } ∷ []); left = 0 })
unfolding row attempt outcome
conditional_waits = refl

abbrev given : Look → Exchange Look Told
given look = record { asked = look; reply = Given }

-- 'A' $ V 'B' in AA: assigned, although what comes after it fails
immediate_stays : IsTrace Fits (counted_match (65 ∷ 65 ∷ []) (pattern.Cat (pattern.Immediate (pattern.Text (65 ∷ [])) (86 ∷ []))
    (pattern.Text (66 ∷ []))) true 5) (given (Assign (86 ∷ []) (Part (65 ∷ []))) ∷ []) (record { end = NoMatch; left = 0 })
unfolding row attempt outcome
immediate_stays = (refl, tt, refl)

-- @V in A, at its second start too: the cursor is a number
cursor_is_a_number : IsTrace Fits (counted_match (65 ∷ []) (pattern.Cat (pattern.Cursor (86 ∷ [])) (pattern.Text (66 ∷ []))) false 6)
    (given (Assign (86 ∷ []) (Cursor 0)) ∷ given (Assign (86 ∷ []) (Cursor 1)) ∷ []) (record { end = NoMatch; left = 0 })
unfolding row attempt outcome
cursor_is_a_number = (refl, tt, (refl, tt, refl))

-- *P in A, where P is the text A
defer_looks_up : IsTrace Fits (counted_match (65 ∷ []) (pattern.Defer (80 ∷ [])) true 2)
    (record { asked = LookUp (80 ∷ []); reply = Found (LooksText (65 ∷ [])) } ∷ []) (record { end = Matched 0 1 []; left = 0 })
unfolding row attempt outcome
defer_looks_up = (refl, tt, refl)
