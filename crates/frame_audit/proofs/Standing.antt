-- Events leave systems beside each other that stood so: one over all data sets, one over those alone whose names pass.
use Rattle.std.proofs.Common.{◌≡◌, ℕ, zero, suc, ◌+◌, ◌≤◌, nat_eq, Bool, true, false, List, [], ◌∷◌, Option, Some, None, Result, refl, sym, ap, ◌∙◌, subst, inl, inr, ◌⊎◌, map, slice_get, is_some, is_none, replicate, arith}
use Rattle.std.{specs.Prelude.{◌||◌, option_map, if◌then◌else◌}, proofs.lemmas.Option.{slice_get-map}, specs.Cmp.Lexicographic.{pointwise, bytes_decides}}
use Rattle.mon_monitor.proofs.Common.{range_with_len, list_all, Account, find_account, Program, statements_of, Set, Data, Spool, Untied, Target, Tie, UnitState, tied_to, first_tie, UnitCard, JobDeck, LoadError, SlotState, seat_at, first_free, first_units, with_ties, tied_by, program_in, load_refusal, slot_in, loaded_by, job_loaded, slot_by, Sets, Marks, never, is_done, has_free_slot, room, SystemState, Event, Serve, Load, Give, Drain, happened}
use Rattle.mon_monitor.proofs.{Requests.{get_after_set}, Turning.{seat_after}}
use Rattle.frame_laws.specs.Naming.{tied_by_cards, event_names, event_makes}
use Rattle.frame_laws.proofs.{Serving.{Passes, answered_beside}, Turning.{SchedulersStand, PastBeside, until_beside, rounds_beside}}

pub record Stand (p : List ℕ → Bool) (rest : Sets) (n : ℕ) (whole alone : SystemState) : Type 0 where
  pub accounts : whole.accounts ≡ alone.accounts
  pub scheduler : SchedulersStand p rest n whole.scheduler alone.scheduler

-- THE TIES OF A JOB THAT IS LOADED

-- the tie of a unit that is tied to a set
tie_of : (ties : List Tie) (u : ℕ) (name : List ℕ) → slice_get (map (λ tie. tie.target) ties) u ≡ Some (Set name)
    → (tie : Tie) × (slice_get ties u ≡ Some tie) × (tie.target ≡ Set name)
tie_of [] u name h = absurd cc
tie_of (tie ∷ ties) zero name h = (tie, refl, cc (h))
tie_of (tie ∷ ties) (suc u) name h = tie_of ties u name h

-- before any card ties one, no unit is tied to a set
no_set : {X : Type 0} (a b : Bool) (name : List ℕ) → (if a then Data else if b then Spool else Untied) ≡ Set name → X
no_set true b name h = absurd cc
no_set false true name h = absurd cc
no_set false false name h = absurd cc

none_at_first : {X : Type 0} (l : List ℕ) (u : ℕ) (name : List ℕ) → slice_get (map (λ tie. tie.target) (map first_tie l)) u ≡ Some (Set name) → X
none_at_first [] u name h = absurd cc
none_at_first (x ∷ l) zero name h = no_set (nat_eq x 5) (nat_eq x 6) name (cc (h))
none_at_first (x ∷ l) (suc u) name h = none_at_first l u name h

pub of_first : (a b : Bool) → a ≡ true → (a || b) ≡ true
of_first true b h = refl
of_first false b h = absurd (let same : true ≡ false = sym h in cc)

pub of_second : (a b : Bool) → b ≡ true → (a || b) ≡ true
of_second true b h = refl
of_second false b h = h

module _ (p : List ℕ → Bool) where
  ties_pass : (cards : List UnitCard) (units : UnitState) → ((name : List ℕ) → tied_by_cards cards name ≡ true → p name ≡ true) → Passes p units → Passes p (with_ties cards units)
  ties_pass [] units covers h = h
  ties_pass (card ∷ cards) units covers h =
      ties_pass cards (tied_by card units) (λ name e. covers name (of_second (pointwise nat_eq card.set name) (tied_by_cards cards name) e)) one
    where
      one : Passes p (tied_by card units)
      one name (u, is) =
          let tie = tie_of (tied_by card units).ties u name is in
          elim (get_after_set units.ties card.unit u (tied_to (Set card.set)) tie.0 tie.1) [
            | inl was ↦ h name (u, tied_so u name tie.0 was tie.2)
            | inr now ↦ covers name (of_first (pointwise nat_eq card.set name) (tied_by_cards cards name) ((bytes_decides card.set name).1 (named name (sym (ap (λ (t : Tie). t.target) now) ∙ tie.2))))
          ]
        where
          named : (name : List ℕ) → Set card.set ≡ Set name → card.set ≡ name
          named name e = cc (e)

          tied_so : (u : ℕ) (name : List ℕ) (tie : Tie) → slice_get units.ties u ≡ Some tie → tie.target ≡ Set name → slice_get (map (λ t. t.target) units.ties) u ≡ Some (Set name)
          tied_so u name tie was is = slice_get-map (λ (t : Tie). t.target) units.ties u ∙ ap (option_map (λ (t : Tie). t.target)) was ∙ ap (λ (t : Target). Some t) is

  loaded_passes : (deck : JobDeck) → ((name : List ℕ) → tied_by_cards deck.ties name ≡ true → p name ≡ true) → (found : Option Account) (o : Option Program) (slot : SlotState)
      → slot_by deck found o ≡ Some slot → Passes p slot.units
  loaded_passes deck covers None o slot h = absurd cc
  loaded_passes deck covers (Some account) None slot h = absurd cc
  loaded_passes deck covers (Some account) (Some program) slot h =
      let units : with_ties deck.ties (first_units deck.lines) ≡ slot.units = cc (h) in
      subst (Passes p) units (ties_pass deck.ties (first_units deck.lines) covers (λ name tied. none_at_first (range_with_len 0 100) tied.0 name tied.1))

loaded_seats : (refusal : Option LoadError) (n : Option ℕ) (slot : Option SlotState) (slots : List (Option SlotState)) (s : ℕ) (x : SlotState)
    → seat_at s (loaded_by refusal n slot slots).1 ≡ Some x → (seat_at s slots ≡ Some x) ⊎ (slot ≡ Some x)
loaded_seats (Some refusal) n slot slots s x h = inl h
loaded_seats None (Some n) slot slots s x h = seat_after n s slot slots x h
loaded_seats None None slot slots s x h = inl h

-- EVENTS

same_room : (p : List ℕ → Bool) (rest : Sets) (n k : ℕ) (whole alone : SystemState) → n ≡ k → Stand p rest n whole alone → Stand p rest k whole alone
same_room p rest n k whole alone same h = subst (λ (i : ℕ). Stand p rest i whole alone) same h

module _ (p : List ℕ → Bool) (rest : Sets) where
  pub room_beside : (n : ℕ) (m : Marks) (w v : SystemState) → Stand p rest n w v → PastBeside p rest n (room m w.scheduler) (room m v.scheduler)
  room_beside n m w v h =
      rounds_beside p rest n has_free_slot (λ w v e. ap (λ (l : List (Option SlotState)). is_some (first_free l)) e) m w.scheduler v.scheduler h.scheduler

  loads_beside : (n : ℕ) (deck : JobDeck) → ((name : List ℕ) → tied_by_cards deck.ties name ≡ true → p name ≡ true) → (m : Marks) (w v : SystemState) → Stand p rest n w v
      → Stand p rest n (happened (Load deck) m w).after (happened (Load deck) m v).after
  loads_beside n deck covers m w v h =
      let made = room_beside n m w v h in
      let a = (room m w.scheduler).after in
      let b = (room m v.scheduler).after in
      let same : job_loaded w.accounts deck a.slots ≡ job_loaded v.accounts deck b.slots =
      ap (λ (l : List Account). job_loaded l deck a.slots) h.accounts ∙ ap (job_loaded v.accounts deck) made.after.slots in
      record {
        accounts = h.accounts;
        scheduler = record {
          slots = ap (λ (r : Result ℕ LoadError × List (Option SlotState)). r.1) same;
          sets = made.after.sets;
          tied = λ s x is. elim (loaded_seats (load_refusal w.accounts deck a.slots) (first_free a.slots) (slot_in w.accounts deck) a.slots s x is) [
            | inl was ↦ made.after.tied s x was
            | inr now ↦ loaded_passes p deck covers (find_account w.accounts deck.account) (program_in (statements_of deck.lines)) x now
          ];
        };
      }

  -- what an event leaves, and the marks behind it
  pub after_event : (n : ℕ) (event : Event) (m : Marks) (w v : SystemState) → ((name : List ℕ) → event_names event name ≡ true → p name ≡ true)
      → n + event_makes event ≤ 1000 → Stand p rest n w v
      → Stand p rest (n + event_makes event) (happened event m w).after (happened event m v).after × ((happened event m w).marks ≡ (happened event m v).marks)
  after_event n (Serve command) m w v covers fits h = (
    subst (λ (l : List Account). Stand p rest (n + event_makes (Serve command)) (happened (Serve command) m w).after
        (happened (Serve command) m (record { accounts = l; scheduler = v.scheduler })).after) h.accounts
        (let one = answered_beside p rest w.accounts command n w.scheduler.sets v.scheduler.sets covers fits h.scheduler.sets in
        record { accounts = refl; scheduler = record { slots = h.scheduler.slots; sets = one.sets; tied = h.scheduler.tied } }),
    refl,
  )
  after_event n (Give slot count) m w v covers fits h =
      let past = until_beside p rest n never (λ w v e. refl) (replicate count slot) m w.scheduler v.scheduler h.scheduler in
      (same_room p rest n (n + 0) _ _ (omega arith) (record { accounts = h.accounts; scheduler = past.after }), past.marks)
  after_event n Drain m w v covers fits h =
      let past = rounds_beside p rest n is_done (λ w v e. ap (λ (l : List (Option SlotState)). list_all is_none l) e) m w.scheduler v.scheduler h.scheduler in
      (same_room p rest n (n + 0) _ _ (omega arith) (record { accounts = h.accounts; scheduler = past.after }), past.marks)
  after_event n (Load deck) m w v covers fits h =
      (same_room p rest n (n + 0) _ _ (omega arith) (loads_beside n deck covers m w v h), (room_beside n m w v h).marks)
