-- What holds of every match, as statements.
use Rattle.std.specs.Prelude.{◌≡◌, ◌≢◌, ℕ, suc, ◌<◌, ◌≤◌, List, ◌∷◌, [], ◌++◌, length, Bool}
use Rattle.interaction.specs.Interactions.{Returns}
use Rattle.interaction.specs.Exchanges.{Exchange, replies, IsTrace}
use Rattle.interaction.specs.Holding.{StopsIn}
use Rattle.interaction.specs.InteractionLaws.{StoppedAt}
use Rattle.interaction.specs.Endings.{EndsIn}
use Rattle.sno_text.specs.Patterns.{Pattern}
use Rattle.sno_pattern.specs.declared.ending.Pending.{Pending}
use Rattle.sno_pattern.specs.declared.ending.MatchEnd.{MatchEnd}
use Rattle.sno_pattern.specs.declared.ending.MatchEnd.TheVariants.{Limit}
use Rattle.sno_pattern.specs.Looks.{Look, Told, Fits}
use Rattle.sno_pattern.specs.Places.{IsSimple, ends_of, Comes, starts, first_place, IsAt, MatchesWithin}
use Rattle.sno_pattern.specs.Steps.{Goal, Meet, row, attempt, outcome, Finish, counted_match, match_of}

-- taking a goal off is one step, and the rest goes on as goals come out
abbrev pub TakesOff : Type 0
TakesOff = (text : List ℕ) (g : Goal) (r : List Goal) (c : ℕ) (p : List Pending) (n : ℕ)
    → outcome text (g ∷ r) c p (suc n) ≡ row text (outcome text) g r c p n

-- whatever the host tells, no more steps are left than there were
abbrev pub StepsFall : Type 0
StepsFall = (text : List ℕ) (gs : List Goal) (c : ℕ) (p : List Pending) (n : ℕ)
    → EndsIn (λ o. o.left ≤ n) (outcome text gs c p n)

-- any two depths give the same, if there are as many as steps
abbrev pub AnyDepth : Type 0
AnyDepth = (text : List ℕ) (d e : ℕ) (gs : List Goal) (c : ℕ) (p : List Pending) (n : ℕ)
    → n ≤ d → n ≤ e → attempt text d gs c p n ≡ attempt text e gs c p n

-- with these exchanges the match ends so after these steps: it has none left then
abbrev pub Needs : List ℕ → Pattern → Bool → List (Exchange Look Told) → ℕ → MatchEnd → Type 0
Needs text p anchored x u e =
    (e ≢ Limit) × IsTrace Fits (counted_match text p anchored u) x (let f : Finish = record { end = e; left = 0 } in f)

-- each end but Limit needs some number of steps, within the limit
abbrev pub NeedsSteps : Type 0
NeedsSteps = (text : List ℕ) (p : Pattern) (anchored : Bool) (n : ℕ) (x : List (Exchange Look Told)) (e : MatchEnd)
    → IsTrace Fits (match_of text p anchored n) x e → e ≢ Limit
    → (u : ℕ) × (u ≤ n) × Needs text p anchored x u e

-- with as many steps or more the match ends so, and with fewer by Limit after some of those exchanges
abbrev pub StepsAreExact : Type 0
StepsAreExact = (text : List ℕ) (p : Pattern) (anchored : Bool) (x : List (Exchange Look Told)) (u : ℕ) (e : MatchEnd)
    → Needs text p anchored x u e → (n : ℕ)
    → (u ≤ n → IsTrace Fits (match_of text p anchored n) x e)
    × (n < u → (y z : List (Exchange Look Told)) × (x ≡ y ++ z) × IsTrace Fits (match_of text p anchored n) y Limit)

-- two matches whose hosts answer alike ask the same and end alike
abbrev pub MatchesAlike : Type 0
MatchesAlike = (text : List ℕ) (p : Pattern) (anchored : Bool) (limit : ℕ) (x y more others : List (Exchange Look Told)) (a b : MatchEnd)
    → IsTrace Fits (match_of text p anchored limit) x a → IsTrace Fits (match_of text p anchored limit) y b
    → replies (x ++ more) ≡ replies (y ++ others) → (x ≡ y) × (a ≡ b)

-- a pattern that asks no host and cuts nothing off comes out at the first of its ends, and fails where it has none, unless
-- steps run out
abbrev pub FirstEnd : Type 0
FirstEnd = (text : List ℕ) (a : Pattern) (c : ℕ) (p : List Pending) (n : ℕ)
    → IsSimple a → c ≤ length text → Comes (ends_of text a c) (outcome text (Meet a ∷ []) c p n)

-- and so does the whole match: from the first start that has an end to the first of its ends, or nowhere
abbrev pub FirstMatch : Type 0
FirstMatch = (text : List ℕ) (p : Pattern) (anchored : Bool) (limit : ℕ)
    → IsSimple p → (e : MatchEnd) × (match_of text p anchored limit ≡ Returns e) × IsAt (first_place text p (starts text anchored)) e

-- whatever the host tells, what is matched is a part of the text
abbrev pub MatchIsWithin : Type 0
MatchIsWithin = (text : List ℕ) (p : Pattern) (anchored : Bool) (limit : ℕ)
    → EndsIn (MatchesWithin (length text)) (match_of text p anchored limit)

-- what a match was broken off after, inside a call of the host too, begins a whole match
module _ {S : Type 0} (tells : S → Look → Told → S → Type 0) (broken : S → Look → S → Type 0) where
  abbrev pub MatchesGoOn : Type 0
  MatchesGoOn = (text : List ℕ) (p : Pattern) (anchored : Bool) (limit : ℕ) (s s' : S)
      → StopsIn tells Fits broken (match_of text p anchored limit) s s'
      → (x y : List (Exchange Look Told)) × (e : MatchEnd) × IsTrace Fits (match_of text p anchored limit) (x ++ y) e × StoppedAt tells Fits broken s x y s'
