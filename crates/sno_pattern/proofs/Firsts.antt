-- A whole match of a simple pattern, start by start; and that a match which was broken off goes on.
use Rattle.std.specs.{Prelude.{◌≡◌, ℕ, zero, suc, ◌+◌, ◌≤◌, List, [], ◌∷◌, length, Bool, true, false, Option, if◌then◌else◌}, List.{range_with_len}}
use Rattle.std.proofs.Common.{refl, ap, arith}
use Rattle.interaction.specs.Interactions.{Interaction, Returns, Asks, ◌>>=◌}
use Rattle.sno_text.specs.Patterns.{Pattern}
use Rattle.sno_pattern.specs.declared.ending.MatchEnd.TheVariants as end
use Rattle.sno_pattern.specs.{Looks.{Look, LookUp, Assign, Told, Refused, Fits}, Places.{IsSimple, ends_of, Finds, Comes, place_from, first_place, IsAt}}
use Rattle.sno_pattern.specs.Steps.{Meet, End, Success, Failure, WholeFails, OutOfSteps, Fault, Trying, outcome, Finish, settle, from_starts}
use Rattle.sno_pattern.{specs.Laws.{FirstMatch}, proofs.Finding.{first_end}}

-- it asks nothing, and ends at this place
abbrev pub Arrives : Option (ℕ × ℕ) → Interaction Look Told Finish → Type 0
Arrives place t = (f : Finish) × (t ≡ Returns f) × IsAt place f.end

settle_arrives : (at : ℕ) (es : List ℕ) (later : Option (ℕ × ℕ)) (next : ℕ → Interaction Look Told Finish) → ((n : ℕ) → Arrives later (next n))
    → (e : End) (n : ℕ) → Finds es e → Arrives (place_from at es later) (settle at e n next)
settle_arrives at es later next arrives (Success to p) n h =
    (record { end = end.Matched at to p; left = n }, refl, ap (λ xs. place_from at xs later) h.1)
settle_arrives at es later next arrives Failure n h =
    let rest = arrives n in
    (rest.0, rest.1, rw h rest.2)
settle_arrives at es later next arrives WholeFails n h = absurd h
settle_arrives at es later next arrives OutOfSteps n h = (record { end = end.Limit; left = n }, refl, tt)
settle_arrives at es later next arrives (Fault f) n h = absurd h

then_arrives : (at : ℕ) (es : List ℕ) (later : Option (ℕ × ℕ)) (next : ℕ → Interaction Look Told Finish) → ((n : ℕ) → Arrives later (next n))
    → (t : Trying) → Comes es t → Arrives (place_from at es later) (t >>= (λ o. settle at o.end o.left next))
then_arrives at es later next arrives (Returns o) h = settle_arrives at es later next arrives o.end o.left h
then_arrives at es later next arrives (Asks q f) h = absurd h

starts_arrive : (text : List ℕ) (p : Pattern) → IsSimple p → (k at n : ℕ) → at + k ≤ length text + 1
    → Arrives (first_place text p (range_with_len at k)) (from_starts text p k at n)
starts_arrive text p simple zero at n h = (record { end = end.NoMatch; left = n }, refl, refl)
starts_arrive text p simple (suc k) at n h =
    then_arrives at (ends_of text p at) (first_place text p (range_with_len (at + 1) k)) (λ n'. from_starts text p k (at + 1) n')
    (λ n'. starts_arrive text p simple k (at + 1) n' (omega arith))
    (outcome text (Meet p ∷ []) at [] n) (first_end text p at [] n simple (omega arith))

pub enough_starts : (l : ℕ) (anchored : Bool) → 0 + (if anchored then 1 else (l + 1)) ≤ l + 1
enough_starts l true = omega arith
enough_starts l false = omega arith

pub first_match : FirstMatch
first_match text p anchored limit simple =
    let one = starts_arrive text p simple (if anchored then 1 else (length text + 1)) 0 limit (enough_starts (length text) anchored) in
    (one.0.end, ap (λ t. t >>= (λ f. Returns f.end)) one.1, one.2)

-- whatever a host is asked, it may fail
pub may_fail : (q : Look) → (r : Told) × Fits q r
may_fail (LookUp v) = (Refused, tt)
may_fail (Assign v t) = (Refused, tt)
