-- Which data sets are enough for a text (own): all; or those of some names, if it speaks of no other, and makes none.
use Rattle.std.specs.Prelude.{◌≡◌, ℕ, suc, Bool, true, List, [], ◌∷◌, ◌++◌}
use Rattle.deck_syntax.specs.Decks.{Asked, Drains}
use Rattle.deck_driver.specs.RunStates.{events_of}
use Rattle.mon_monitor.specs.Events.{Event}
use Rattle.frame_laws.specs.Naming.{speak_of, makes}
use Rattle.ledger_sets.specs.declared.part.Which.{Which}
use Rattle.ledger_sets.specs.declared.part.Which.TheVariants.{All, Named}
use Rattle.ledger_sets.specs.Parts.{has}

-- what happens in a text that asks for this, behind so many jobs
abbrev pub happens_behind : ℕ → List Asked → List Event
happens_behind jobs asked = events_of (suc jobs) (asked ++ Drains ∷ [])

pub record StaysWithin (asked : List Asked) (passes : List ℕ → Bool) : Type 0 where
  pub named : (jobs : ℕ) (name : List ℕ) → speak_of (happens_behind jobs asked) name ≡ true → passes name ≡ true
  pub none_made : (jobs : ℕ) → makes (happens_behind jobs asked) ≡ 0

abbrev pub AreEnough : List Asked → Which → Type 0
AreEnough asked All = Unit {0}
AreEnough asked (Named names) = StaysWithin asked (has (Named names))
