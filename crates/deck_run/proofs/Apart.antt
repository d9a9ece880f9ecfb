-- Jobs that name no data set in common are tied to none in common.
use Rattle.std.proofs.Common.{◌≡◌, ◌==◌, ℕ, zero, suc, Bool, true, false, List, [], ◌∷◌, length, map, Option, Some, None, ◌⊎◌, inl, inr, sym, ap, subst, ◌∙◌, slice_get, slice_set, if◌then◌else◌}
use Rattle.std.specs.{List.{AllByRecursion, range_with_len}, Prelude.{replicate}}
use Rattle.sno_cards.specs.Statements.{statements_of}
use Rattle.sno_syntax.specs.Programs.{Program}
use Rattle.mon_access.specs.{declared.account.Account.{Account}, Accounts.{find_account}}
use Rattle.mon_unit.specs.declared.tie.{Target.{Target}, Target.TheVariants.{Untied, Data, Spool, Set}, Tie.{Tie}}
use Rattle.mon_unit.{specs.State.{UnitState}, specs.Tying.{tied_to}, proofs.Changed.{first_tie}, specs.Laws.{targets, TiedTo}}
use Rattle.deck_syntax.specs.{declared.job_deck.UnitCard.{UnitCard}, declared.job_deck.JobDeck.{JobDeck}, declared.job.OpenJob.{OpenJob}, Jobs.{job_deck_of}}
use Rattle.deck_syntax.specs.Decks.{Asked, Commands, Enters, Gives, Drains}
use Rattle.load_refusal.specs.declared.load_error.LoadError.{LoadError}
use Rattle.scheduler.specs.{States.{SlotState, SchedulerState, scheduler, seat_at, first_free, job_in}, inner.Parts.{slot_by}, Ties.{Independent}}
use Rattle.scheduler.specs.Loads.{first_units, tied_by, with_ties, program_in, load_refusal, slot_in, loaded_by, job_loaded}
use Rattle.scheduler.specs.Marks.{Marks, never, rounds, turns_left, is_done, has_free_slot, room}
use Rattle.mon_monitor.specs.{SystemStates.{SystemState}, Events.{Serve, Load, Give, Drain}, Played.{happened, played}}
use Rattle.deck_driver.specs.RunStates.{events_of}
use Rattle.deck_run.specs.{Runs.{run_state_of}, Schedules.{IsNamedOn, SharesNone, NameApart, ApartByTheirCards}}
use Rattle.deck_run.proofs.{Isolated.{no_job_at_first}, Staying.{Follows, seat_then, until_follows}}

-- WHAT A NEW JOB IS TIED TO

target_put : (ties : List Tie) (i u : ℕ) (tie : Tie) (name : List ℕ) → slice_get (map (λ t. t.target) (slice_set ties i tie)) u ≡ Some (Set name)
    → (slice_get (map (λ t. t.target) ties) u ≡ Some (Set name)) ⊎ (tie.target ≡ Set name)
target_put [] i u tie name h = inl h
target_put (x ∷ ties) zero zero tie name h = inr (let same : tie.target ≡ Set name = cc (h) in same)
target_put (x ∷ ties) zero (suc u) tie name h = inl h
target_put (x ∷ ties) (suc i) zero tie name h = inl h
target_put (x ∷ ties) (suc i) (suc u) tie name h = target_put ties i u tie name h

ties_named : (cards : List UnitCard) (units : UnitState) (name : List ℕ) → TiedTo (with_ties cards units) name → TiedTo units name ⊎ IsNamedOn name cards
ties_named [] units name h = inl h
ties_named (card ∷ cards) units name h = elim (ties_named cards (tied_by card units) name h) [
  | inl t ↦ elim (target_put units.ties card.unit t.0 (tied_to (Set card.set)) name t.1) [
    | inl was ↦ inl (t.0, was)
    | inr now ↦ inr (inl (let same : card.set ≡ name = cc (now) in same))
  ]
  | inr later ↦ inr (inr later)
]

no_set : (a b : Bool) (name : List ℕ) → Some (if a then Data else if b then Spool else Untied) ≡ Some (Set name) → ⊥
no_set true b name h = cc (h)
no_set false true name h = cc (h)
no_set false false name h = cc (h)

none_first : (numbers : List ℕ) (u : ℕ) (name : List ℕ) → slice_get (map (λ t. t.target) (map first_tie numbers)) u ≡ Some (Set name) → ⊥
none_first [] u name h = cc (h)
none_first (n ∷ numbers) zero name h = no_set (n == 5) (n == 6) name h
none_first (n ∷ numbers) (suc u) name h = none_first numbers u name h

module _ (deck : JobDeck) (name : List ℕ) where
  all_named : TiedTo (with_ties deck.ties (first_units deck.lines)) name → IsNamedOn name deck.ties
  all_named h = elim (ties_named deck.ties (first_units deck.lines) name h) [
    | inl t ↦ absurd (none_first (range_with_len 0 100) t.0 name t.1)
    | inr named ↦ named
  ]

  named_by : (found : Option Account) (program : Option Program) (x : SlotState) → slot_by deck found program ≡ Some x → TiedTo x.units name → IsNamedOn name deck.ties
  named_by None program x h t = absurd cc
  named_by (Some account) None x h t = absurd cc
  named_by (Some account) (Some program) x h t =
      let units : with_ties deck.ties (first_units deck.lines) ≡ x.units = cc (h) in
      all_named (subst (λ (u : UnitState). TiedTo u name) (sym units) t)

  new_named : (accounts : List Account) (x : SlotState) → slot_in accounts deck ≡ Some x → TiedTo x.units name → IsNamedOn name deck.ties
  new_named accounts x h t = named_by (find_account accounts deck.account) (program_in (statements_of deck.lines)) x h t

loaded_seat : (refusal : Option LoadError) (n : Option ℕ) (slot : Option SlotState) (slots : List (Option SlotState)) (s : ℕ) (x : SlotState)
    → seat_at s (loaded_by refusal n slot slots).1 ≡ Some x → (seat_at s slots ≡ Some x) ⊎ ((n ≡ Some s) × (slot ≡ Some x))
loaded_seat (Some refusal) n slot slots s x h = inl h
loaded_seat None (Some n) slot slots s x h = elim (seat_then n s slot slots x h) [
  | inl was ↦ inl was
  | inr now ↦ inr (ap (λ (i : ℕ). Some i) (sym now.0), now.1)
]
loaded_seat None None slot slots s x h = inl h

-- JOBS IN SLOTS, AND CARDS THAT ARE STILL TO COME

-- a job is tied to none that the card's job names
abbrev Clear : SlotState → Asked → Type 0
Clear x (Commands command) = Unit {0}
Clear x (Enters job) = (name : List ℕ) → TiedTo x.units name → ¬ IsNamedOn name job.ties
Clear x (Gives turn) = Unit {0}
Clear x Drains = Unit {0}

record Fits (w : SchedulerState) (asked : List Asked) : Type 0 where
  pub apart : Independent w
  pub clear : (s : ℕ) (x : SlotState) → job_in s w ≡ Some x → AllByRecursion (Clear x) asked

tied_too : (units others : UnitState) (name : List ℕ) → targets units ≡ targets others → TiedTo units name → TiedTo others name
tied_too units others name e h = (h.0, ap (λ (l : List Target). slice_get l h.0) (sym e) ∙ h.1)

module _ (x y : SlotState) (e : targets x.units ≡ targets y.units) where
  one_clear : (a : Asked) → Clear y a → Clear x a
  one_clear (Commands command) h = tt
  one_clear (Enters job) h = λ name t. h name (tied_too x.units y.units name e t)
  one_clear (Gives turn) h = tt
  one_clear Drains h = tt

  all_clear : (asked : List Asked) → AllByRecursion (Clear y) asked → AllByRecursion (Clear x) asked
  all_clear [] h = tt
  all_clear (a ∷ asked) h = (one_clear a h.0, all_clear asked h.1)

-- turns
still_fits : (asked : List Asked) (v w : SchedulerState) → Follows v w → Fits w asked → Fits v asked
still_fits asked v w follows fits = record {
  apart = λ s t slot other ne here there name tied tied_there.
      let y = follows.was s slot here in
      let z = follows.was t other there in
      fits.apart s t y.0 z.0 ne y.1 z.1 name (tied_too slot.units y.0.units name y.2 tied) (tied_too other.units z.0.units name z.2 tied_there);
  clear = λ s x here.
      let y = follows.was s x here in
      all_clear x y.0 y.2 asked (fits.clear s y.0 y.1);
}

-- a job that is loaded
module _ (accounts : List Account) (k : ℕ) (job : OpenJob) (asked : List Asked) (w : SchedulerState) (fits : Fits w (Enters job ∷ asked)) (shares : AllByRecursion (SharesNone job) asked) where
  abbrev deck : JobDeck
  deck = job_deck_of k job

  abbrev after : SchedulerState
  after = scheduler w.sets (job_loaded accounts deck w.slots).1

  abbrev Seat : ℕ → SlotState → Type 0
  Seat s x = (job_in s w ≡ Some x) ⊎ ((first_free w.slots ≡ Some s) × (slot_in accounts deck ≡ Some x))

  seat : (s : ℕ) (x : SlotState) → job_in s after ≡ Some x → Seat s x
  seat s x h = loaded_seat (load_refusal accounts deck w.slots) (first_free w.slots) (slot_in accounts deck) w.slots s x h

  named : (x : SlotState) → slot_in accounts deck ≡ Some x → (name : List ℕ) → TiedTo x.units name → IsNamedOn name job.ties
  named x h name t = new_named deck name accounts x h t

  shares_one : (x : SlotState) → slot_in accounts deck ≡ Some x → (a : Asked) → SharesNone job a → Clear x a
  shares_one x h (Commands command) none = tt
  shares_one x h (Enters other) none = λ name t. none name (named x h name t)
  shares_one x h (Gives turn) none = tt
  shares_one x h Drains none = tt

  shares_all : (x : SlotState) → slot_in accounts deck ≡ Some x → (cards : List Asked) → AllByRecursion (SharesNone job) cards → AllByRecursion (Clear x) cards
  shares_all x h [] none = tt
  shares_all x h (a ∷ cards) none = (shares_one x h a none.0, shares_all x h cards none.1)

  one_slot : (s t : ℕ) → first_free w.slots ≡ Some s → first_free w.slots ≡ Some t → s ≡ t
  one_slot s t h g = (let both : Some s ≡ Some t = sym h ∙ g in cc (both))

  both_apart : (s t : ℕ) (x y : SlotState) → ¬ (s ≡ t) → Seat s x → Seat t y → (name : List ℕ) → TiedTo x.units name → ¬ TiedTo y.units name
  both_apart s t x y ne (inl here) (inl there) name = fits.apart s t x y ne here there name
  both_apart s t x y ne (inl here) (inr there) name = λ tied tied_there. (fits.clear s x here).0 name tied (named y there.1 name tied_there)
  both_apart s t x y ne (inr here) (inl there) name = λ tied tied_there. (fits.clear t y there).0 name tied_there (named x here.1 name tied)
  both_apart s t x y ne (inr here) (inr there) name = absurd (ne (one_slot s t here.0 there.0))

  clear_by : (s : ℕ) (x : SlotState) → Seat s x → AllByRecursion (Clear x) asked
  clear_by s x (inl was) = (fits.clear s x was).1
  clear_by s x (inr now) = shares_all x now.1 asked shares

  loaded_fits : Fits after asked
  loaded_fits = record {
    apart = λ s t slot other ne here there name. both_apart s t slot other ne (seat s slot here) (seat t other there) name;
    clear = λ s x here. clear_by s x (seat s x here);
  }

others_fit : (a : Asked) (asked : List Asked) (w : SchedulerState) → Fits w (a ∷ asked) → Fits w asked
others_fit a asked w fits = record { apart = fits.apart; clear = λ s x here. (fits.clear s x here).1 }

played_fits : (asked : List Asked) (k : ℕ) (m : Marks) (w : SystemState) → NameApart asked → Fits w.scheduler asked → Independent (played (events_of k asked) m w).after.scheduler
played_fits [] k m w apart fits = fits.apart
played_fits (Commands command ∷ asked) k m w apart fits =
    let p = happened (Serve command) m w in
    played_fits asked k p.marks p.after apart (record { apart = fits.apart; clear = λ s x here. (fits.clear s x here).1 })
played_fits (Enters job ∷ asked) k m w apart fits =
    let p = happened (Load (job_deck_of k job)) m w in
    let made = (room m w.scheduler).after in
    let fits' = still_fits (Enters job ∷ asked) made w.scheduler (until_follows has_free_slot (rounds (turns_left w.scheduler.slots) (length w.scheduler.slots)) m w.scheduler) fits in
    played_fits asked (suc k) p.marks p.after apart.1 (loaded_fits w.accounts k job asked made fits' apart.0)
played_fits (Gives turn ∷ asked) k m w apart fits =
    let p = happened (Give turn.slot turn.count) m w in
    played_fits asked k p.marks p.after apart
    (still_fits asked p.after.scheduler w.scheduler (until_follows never (replicate turn.count turn.slot) m w.scheduler) (others_fit (Gives turn) asked w.scheduler fits))
played_fits (Drains ∷ asked) k m w apart fits =
    let p = happened Drain m w in
    played_fits asked k p.marks p.after apart
    (still_fits asked p.after.scheduler w.scheduler (until_follows is_done (rounds (turns_left w.scheduler.slots) (length w.scheduler.slots)) m w.scheduler) (others_fit Drains asked w.scheduler fits))

pub apart_by_their_cards : ApartByTheirCards
apart_by_their_cards options m bytes before apart =
    let run_state = run_state_of options bytes in
    let n = options.slots.number in
    played_fits before 1 m run_state.system apart (record {
      apart = λ s t slot other ne here. absurd (no_job_at_first n s slot here);
      clear = λ s x here. absurd (no_job_at_first n s x here);
    })
