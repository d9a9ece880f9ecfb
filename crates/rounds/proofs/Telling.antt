-- Each text has a history of its own.
use Rattle.std.proofs.Common.{◌≡◌, ◌<◌, ◌==◌, ℕ, suc, ◌++◌, Bool, true, false, List, [], ◌∷◌, Some, None, refl, ap, ◌∙◌, arith, if◌then◌else◌}
use Rattle.std.proofs.lemmas.Bool.{eqb-true}
use Rattle.mon_monitor.specs.Headline.{job_of, NumbersDiffer, HistoryTells}
use Rattle.deck_syntax.specs.{Decks.{Asked, Commands, Enters, Gives, Drains}, Jobs.{job_deck_of}}
use Rattle.deck_driver.specs.RunStates.{events_of}
use Rattle.rounds.specs.{Delivery.{text_events}, Laws.{EachTells}}

not_same : (k n : ℕ) → n < k → (k == n) ≡ false
not_same k n less = by (k == n) refl
  where
    by : (b : Bool) → (k == n) ≡ b → b ≡ false
    by true e = absurd (let is = eqb-true k n e in omega (arith, is, less))
    by false e = refl

-- jobs are numbered in their order
not_before : (n k : ℕ) (asked : List Asked) → n < k → job_of n (events_of k asked) ≡ None
not_before n k [] less = refl
not_before n k (Commands command ∷ asked) less = not_before n k asked less
not_before n k (Gives turn ∷ asked) less = not_before n k asked less
not_before n k (Drains ∷ asked) less = not_before n k asked less
not_before n k (Enters job ∷ asked) less =
    ap (λ (b : Bool). if b then Some (job_deck_of k job) else job_of n (events_of (suc k) asked)) (not_same k n less)
    ∙ not_before n (suc k) asked (omega (arith, less))

numbers_differ : (k : ℕ) (asked : List Asked) → NumbersDiffer (events_of k asked)
numbers_differ k [] = tt
numbers_differ k (Commands command ∷ asked) = numbers_differ k asked
numbers_differ k (Gives turn ∷ asked) = numbers_differ k asked
numbers_differ k (Drains ∷ asked) = numbers_differ k asked
numbers_differ k (Enters job ∷ asked) = (not_before k (suc k) asked (omega arith), numbers_differ (suc k) asked)

pub each_tells : HistoryTells → EachTells
each_tells tells slots accounts jobs m sets text some =
    tells slots accounts sets (text_events jobs text) m some (numbers_differ (suc jobs) (text.asked ++ Drains ∷ []))
