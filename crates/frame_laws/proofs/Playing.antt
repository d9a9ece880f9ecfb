-- Events over all data sets, and over those alone whose names pass.
use Rattle.std.proofs.Common.{◌≡◌, ℕ, zero, suc, ◌+◌, ◌≤◌, nat_eq, Bool, true, false, not, List, [], ◌∷◌, ◌++◌, length, Option, Some, None, Result, refl, sym, ap, ◌∙◌, subst, inl, inr, ◌⊎◌, map, slice_get, is_some, is_none, replicate, arith}
use Rattle.std.{specs.Prelude.{◌||◌, option_map, if◌then◌else◌}, proofs.lemmas.Option.{slice_get-map}, specs.Cmp.Lexicographic.{pointwise, bytes_decides}}
use Rattle.mon_monitor.proofs.Common.{range_with_len, list_all, Account, find_account, statements_of, Program, Set, Data, Spool, Untied, Target, Tie, UnitState, tied_to, first_tie, UnitCard, JobDeck, JobEnd, LoadError, SlotState, seat_at, first_free, first_units, with_ties, tied_by, program_in, load_refusal, slot_in, loaded_by, job_loaded, slot_by, Sets, Marks, Past, never, is_done, has_free_slot, room, SystemState, first_system, with_scheduler, Event, Serve, Load, Give, Drain, Printout, OfCommand, Played, of_turns, of_loading, then_played, happened, played, printed}
use Rattle.mon_command.specs.Commanded.{Answer}
use Rattle.mon_monitor.proofs.{Parts.{of_load, and_played}, Shorthand.{of_ends}, Requests.{get_after_set}, Turning.{seat_after}}
use Rattle.frame_laws.specs.{Naming.{of_names, tied_by_cards, event_names, event_makes, speak_of, makes}, Laws.{TextsAreFramed}}
use Rattle.frame_laws.proofs.{Serving.{Passes, answered_beside}, Turning.{SchedulersStand, PastBeside, until_beside, rounds_beside}}

record PlayedAlike (p : List ℕ → Bool) (rest : Sets) (n : ℕ) (whole alone : Played) : Type 0 where
  pub printouts : whole.printouts ≡ alone.printouts
  pub marks : whole.marks ≡ alone.marks
  pub accounts : whole.after.accounts ≡ alone.after.accounts
  pub after : SchedulersStand p rest n whole.after.scheduler alone.after.scheduler

-- systems that stand beside each other
record Stand (p : List ℕ → Bool) (rest : Sets) (n : ℕ) (whole alone : SystemState) : Type 0 where
  pub accounts : whole.accounts ≡ alone.accounts
  pub scheduler : SchedulersStand p rest n whole.scheduler alone.scheduler

-- THE TIES OF A JOB THAT IS LOADED

-- the tie of a unit that is tied to a set
tie_of : (ties : List Tie) (u : ℕ) (name : List ℕ) → slice_get (map (λ tie. tie.target) ties) u ≡ Some (Set name)
    → (tie : Tie) × (slice_get ties u ≡ Some tie) × (tie.target ≡ Set name)
tie_of [] u name h = absurd cc
tie_of (tie ∷ ties) zero name h = (tie, refl, cc (h))
tie_of (tie ∷ ties) (suc u) name h = tie_of ties u name h

-- before any card ties one, no unit is tied to a set
no_set : {X : Type 0} (a b : Bool) (name : List ℕ) → (if a then Data else if b then Spool else Untied) ≡ Set name → X
no_set true b name h = absurd cc
no_set false true name h = absurd cc
no_set false false name h = absurd cc

none_at_first : {X : Type 0} (l : List ℕ) (u : ℕ) (name : List ℕ) → slice_get (map (λ tie. tie.target) (map first_tie l)) u ≡ Some (Set name) → X
none_at_first [] u name h = absurd cc
none_at_first (x ∷ l) zero name h = no_set (nat_eq x 5) (nat_eq x 6) name (cc (h))
none_at_first (x ∷ l) (suc u) name h = none_at_first l u name h

of_first : (a b : Bool) → a ≡ true → (a || b) ≡ true
of_first true b h = refl
of_first false b h = absurd (let same : true ≡ false = sym h in cc)

of_second : (a b : Bool) → b ≡ true → (a || b) ≡ true
of_second true b h = refl
of_second false b h = h

module _ (p : List ℕ → Bool) where
  ties_pass : (cards : List UnitCard) (units : UnitState) → ((name : List ℕ) → tied_by_cards cards name ≡ true → p name ≡ true) → Passes p units → Passes p (with_ties cards units)
  ties_pass [] units covers h = h
  ties_pass (card ∷ cards) units covers h =
      ties_pass cards (tied_by card units) (λ name e. covers name (of_second (pointwise nat_eq card.set name) (tied_by_cards cards name) e)) one
    where
      one : Passes p (tied_by card units)
      one name (u, is) =
          let tie = tie_of (tied_by card units).ties u name is in
          elim (get_after_set units.ties card.unit u (tied_to (Set card.set)) tie.0 tie.1) [
            | inl was ↦ h name (u, tied_so u name tie.0 was tie.2)
            | inr now ↦ covers name (of_first (pointwise nat_eq card.set name) (tied_by_cards cards name) ((bytes_decides card.set name).1 (named name (sym (ap (λ (t : Tie). t.target) now) ∙ tie.2))))
          ]
        where
          named : (name : List ℕ) → Set card.set ≡ Set name → card.set ≡ name
          named name e = cc (e)

          tied_so : (u : ℕ) (name : List ℕ) (tie : Tie) → slice_get units.ties u ≡ Some tie → tie.target ≡ Set name → slice_get (map (λ t. t.target) units.ties) u ≡ Some (Set name)
          tied_so u name tie was is = slice_get-map (λ (t : Tie). t.target) units.ties u ∙ ap (option_map (λ (t : Tie). t.target)) was ∙ ap (λ (t : Target). Some t) is

  loaded_passes : (deck : JobDeck) → ((name : List ℕ) → tied_by_cards deck.ties name ≡ true → p name ≡ true) → (found : Option Account) (o : Option Program) (slot : SlotState)
      → slot_by deck found o ≡ Some slot → Passes p slot.units
  loaded_passes deck covers None o slot h = absurd cc
  loaded_passes deck covers (Some account) None slot h = absurd cc
  loaded_passes deck covers (Some account) (Some program) slot h =
      let units : with_ties deck.ties (first_units deck.lines) ≡ slot.units = cc (h) in
      subst (Passes p) units (ties_pass deck.ties (first_units deck.lines) covers (λ name tied. none_at_first (range_with_len 0 100) tied.0 name tied.1))

loaded_seats : (refusal : Option LoadError) (n : Option ℕ) (slot : Option SlotState) (slots : List (Option SlotState)) (s : ℕ) (x : SlotState)
    → seat_at s (loaded_by refusal n slot slots).1 ≡ Some x → (seat_at s slots ≡ Some x) ⊎ (slot ≡ Some x)
loaded_seats (Some refusal) n slot slots s x h = inl h
loaded_seats None (Some n) slot slots s x h = seat_after n s slot slots x h
loaded_seats None None slot slots s x h = inl h

-- EVENTS

same_room : (p : List ℕ → Bool) (rest : Sets) (n k : ℕ) (whole alone : Played) → n ≡ k → PlayedAlike p rest n whole alone → PlayedAlike p rest k whole alone
same_room p rest n k whole alone same h = subst (λ (i : ℕ). PlayedAlike p rest i whole alone) same h

module _ (p : List ℕ → Bool) (rest : Sets) where
  turns_print : (n : ℕ) (w v : SystemState) → Stand p rest n w v → (x y : Past) → PastBeside p rest n x y → PlayedAlike p rest n (of_turns w x) (of_turns v y)
  turns_print n w v h x y past = record {
    printouts = ap (λ (l : List (ℕ × JobEnd)). of_ends (map (λ e. e.1) l)) past.ends;
    marks = past.marks;
    accounts = h.accounts;
    after = past.after;
  }

  then_alike : (n k : ℕ) (next : Marks → SystemState → Played) (x y : Played) → PlayedAlike p rest n x y
      → ((m : Marks) → PlayedAlike p rest k (next m x.after) (next m y.after)) → PlayedAlike p rest k (then_played x next) (then_played y next)
  then_alike n k next x y h later =
      subst (λ (m : Marks). PlayedAlike p rest k (then_played x next) (and_played y.printouts (next m y.after))) h.marks
      (record {
        printouts = ap (λ (l : List Printout). l ++ (next x.marks x.after).printouts) h.printouts ∙ ap (λ (l : List Printout). y.printouts ++ l) (later x.marks).printouts;
        marks = (later x.marks).marks;
        accounts = (later x.marks).accounts;
        after = (later x.marks).after;
      })

  loads_beside : (n : ℕ) (deck : JobDeck) → ((name : List ℕ) → tied_by_cards deck.ties name ≡ true → p name ≡ true) → (m : Marks) (w v : SystemState) → Stand p rest n w v
      → PlayedAlike p rest n (of_loading deck m w) (of_loading deck m v)
  loads_beside n deck covers m w v h =
      let same : job_loaded w.accounts deck w.scheduler.slots ≡ job_loaded v.accounts deck v.scheduler.slots =
      ap (λ (l : List Account). job_loaded l deck w.scheduler.slots) h.accounts ∙ ap (job_loaded v.accounts deck) h.scheduler.slots in
      record {
        printouts = ap (λ (r : Result ℕ LoadError × List (Option SlotState)). of_load deck r.0) same;
        marks = refl;
        accounts = h.accounts;
        after = record {
          slots = ap (λ (r : Result ℕ LoadError × List (Option SlotState)). r.1) same;
          sets = h.scheduler.sets;
          tied = λ s x is. elim (loaded_seats (load_refusal w.accounts deck w.scheduler.slots) (first_free w.scheduler.slots) (slot_in w.accounts deck) w.scheduler.slots s x is) [
            | inl was ↦ h.scheduler.tied s x was
            | inr now ↦ loaded_passes p deck covers (find_account w.accounts deck.account) (program_in (statements_of deck.lines)) x now
          ];
        };
      }

  happened_beside : (n : ℕ) (event : Event) (m : Marks) (w v : SystemState) → ((name : List ℕ) → event_names event name ≡ true → p name ≡ true)
      → n + event_makes event ≤ 1000 → Stand p rest n w v
      → PlayedAlike p rest (n + event_makes event) (happened event m w) (happened event m v)
  happened_beside n (Serve command) m w v covers room h =
      subst (λ (l : List Account). PlayedAlike p rest (n + event_makes (Serve command)) (happened (Serve command) m w)
      (happened (Serve command) m (record { accounts = l; scheduler = v.scheduler }))) h.accounts
      (let one = answered_beside p rest w.accounts command n w.scheduler.sets v.scheduler.sets covers room h.scheduler.sets in
      record {
        printouts = ap (λ (answer : Answer). OfCommand (printed command answer) ∷ []) one.answer;
        marks = refl;
        accounts = refl;
        after = record { slots = h.scheduler.slots; sets = one.sets; tied = h.scheduler.tied };
      })
  happened_beside n (Give slot count) m w v covers room h =
      same_room p rest n (n + 0) _ _ (omega arith)
      (turns_print n w v h _ _ (until_beside p rest n never (λ w v e. refl) (replicate count slot) m w.scheduler v.scheduler h.scheduler))
  happened_beside n Drain m w v covers room h =
      same_room p rest n (n + 0) _ _ (omega arith)
      (turns_print n w v h _ _ (rounds_beside p rest n is_done (λ w v e. ap (list_all is_none) e) m w.scheduler v.scheduler h.scheduler))
  happened_beside n (Load deck) m w v covers fits h =
      let made = turns_print n w v h (room m w.scheduler) (room m v.scheduler)
      (rounds_beside p rest n has_free_slot (λ w v e. ap (λ (l : List (Option SlotState)). is_some (first_free l)) e) m w.scheduler v.scheduler h.scheduler) in
      same_room p rest n (n + 0) _ _ (omega arith)
      (then_alike n n (of_loading deck) (of_turns w (room m w.scheduler)) (of_turns v (room m v.scheduler)) made
      (λ k. loads_beside n deck covers k (with_scheduler w (room m w.scheduler).after) (with_scheduler v (room m v.scheduler).after) (record { accounts = made.accounts; scheduler = made.after })))

  played_beside : (n : ℕ) (events : List Event) (m : Marks) (w v : SystemState) → ((name : List ℕ) → speak_of events name ≡ true → p name ≡ true) → n + makes events ≤ 1000 → Stand p rest n w v
      → PlayedAlike p rest (n + makes events) (played events m w) (played events m v)
  played_beside n [] m w v covers room h = same_room p rest n (n + 0) _ _ (omega arith) (record { printouts = refl; marks = refl; accounts = h.accounts; after = h.scheduler })
  played_beside n (event ∷ events) m w v covers room h =
      let one = happened_beside n event m w v (λ name e. covers name (of_first (event_names event name) (speak_of events name) e)) (omega (arith, room)) h in
      same_room p rest (n + event_makes event + makes events) (n + makes (event ∷ events)) _ _ (omega arith)
      (then_alike (n + event_makes event) (n + event_makes event + makes events) (played events) (happened event m w) (happened event m v) one
      (λ k. played_beside (n + event_makes event) events k (happened event m w).after (happened event m v).after
      (λ name e. covers name (of_second (event_names event name) (speak_of events name) e)) (omega (arith, room))
      (record { accounts = one.accounts; scheduler = one.after })))

no_job : (slots s : ℕ) (slot : SlotState) → seat_at s (replicate slots None) ≡ Some slot → ⊥
no_job slots zero slot h = cc (h)
no_job zero (suc s) slot h = cc (h)
no_job (suc slots) (suc zero) slot h = cc (h)
no_job (suc slots) (suc (suc s)) slot h = no_job slots (suc s) slot h

pub texts_are_framed : TextsAreFramed
texts_are_framed slots accounts events m sets p covers room =
    let all = played_beside p (of_names (λ name. not (p name)) sets) (length sets) events m (first_system slots accounts sets) (first_system slots accounts (of_names p sets)) covers room
    (record {
      accounts = refl;
      scheduler = record {
        slots = refl;
        sets = record { own = refl; others = refl; few = omega arith };
        tied = λ s slot is. absurd (no_job slots s slot is);
      };
    }) in
    record {
      printouts = sym all.printouts;
      marks = sym all.marks;
      slots = sym all.after.slots;
      own = all.after.sets.own;
      others = all.after.sets.others;
    }
