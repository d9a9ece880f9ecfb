-- Where no turn has a mark, none is left over.
use Rattle.std.proofs.Common.{◌≡◌, ℕ, Bool, List, [], ◌∷◌, length, None, refl, ap, ◌∙◌, inl, inr, replicate}
use Rattle.scheduler.specs.{States.{SchedulerState}, Marks.{Marks, Past, turn_as, until, never, rounds, turns_left, is_done, has_free_slot}}
use Rattle.scheduler.proofs.Past.{either_way, until_stops, until_goes}
use Rattle.mon_monitor.specs.{SystemStates.{SystemState}, Events.{Event, Serve, Load, Give, Drain}, Played.{happened, played}}

until_none : (stop : SchedulerState → Bool) (E : List ℕ) (w : SchedulerState) → (until stop E [] w).marks ≡ []
until_none stop [] w = refl
until_none stop (s ∷ E) w = elim (either_way (stop w)) [
  | inl h ↦ ap (λ (p : Past). p.marks) (until_stops stop (s ∷ E) [] w h)
  | inr h ↦ ap (λ (p : Past). p.marks) (until_goes stop s E [] w h) ∙ until_none stop E (turn_as None s w).1
]

pub happened_none : (e : Event) (w : SystemState) → (happened e [] w).marks ≡ []
happened_none (Serve command) w = refl
happened_none (Load deck) w = until_none has_free_slot (rounds (turns_left w.scheduler.slots) (length w.scheduler.slots)) w.scheduler
happened_none (Give s n) w = until_none never (replicate n s) w.scheduler
happened_none Drain w = until_none is_done (rounds (turns_left w.scheduler.slots) (length w.scheduler.slots)) w.scheduler

pub played_none : (E : List Event) (w : SystemState) → (played E [] w).marks ≡ []
played_none [] w = refl
played_none (e ∷ E) w =
    let p = happened e [] w in ap (λ (m : Marks). (played E m p.after).marks) (happened_none e w) ∙ played_none E p.after
