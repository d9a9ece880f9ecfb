-- Events one after the other, and what marks have to do with them.
use Rattle.std.proofs.Common.{◌≡◌, ◌≢◌, ℕ, Bool, true, false, List, [], ◌∷◌, ◌++◌, length, Option, Some, None, Result, Ok, Err, refl, ap, sym, ◌∙◌, inl, inr, append_assoc, map, option_map, is_some, replicate}
use Rattle.mon_monitor.proofs.Common.{AllByRecursion, option_or, SyntaxError, ProgramText, statements_of, syntax_refusal, Account, find_account, UnitError, JobDeck, JobEnd, LoadError, NoSlot, NoAccount, Cards, Syntax, SlotState, SchedulerState, first_free, Marks, Past, turn_as, until, never, rounds, turns_left, is_done, has_free_slot, room, NoneByMemory, MarksEndJobs, RoomIsMade, cards_refused, missing, program_refusal, job_refusal, loaded_by, slot_in, seat_length, either_way, until_stops, until_goes, until_length, SystemState, with_scheduler, Event, Serve, Load, Give, Drain, Printout, printouts_text, Played, loading, of_turns, happened, played, CardByCard, PrintedInOrder, NotByMemory, AsUnmarked, PlayedUnmarked, LoadHasRoom, AccountsStay, SlotsStay}
use Rattle.mon_monitor.proofs.{Parts.{of_load, and_played}, Playing.{printouts_append}, Shorthand.{of_ends}}

pub card_by_card : CardByCard
card_by_card [] F m w = refl
card_by_card (e ∷ E) F m w =
    let p = happened e m w in
    let q = played E p.marks p.after in
    let r = played F q.marks q.after in
    ap (and_played p.printouts) (card_by_card E F p.marks p.after)
    ∙ ap (λ (l : List Printout). let x : Played = record { printouts = l; after = r.after; marks = r.marks } in x) (sym (append_assoc p.printouts q.printouts r.printouts))

pub printed_in_order : PrintedInOrder
printed_in_order E F m w =
    let p = played E m w in
    ap (λ (x : Played). printouts_text x.printouts) (card_by_card E F m w) ∙ printouts_append p.printouts (played F p.marks p.after).printouts

-- MARKS

not_memory : (ends : List (ℕ × JobEnd)) → AllByRecursion NotByMemory (of_ends (map (λ e. e.1) ends)) → NoneByMemory ends
not_memory [] h = tt
not_memory (e ∷ ends) h = (h.0, not_memory ends h.1)

parted : (xs ys : List Printout) → AllByRecursion NotByMemory (xs ++ ys) → AllByRecursion NotByMemory xs × AllByRecursion NotByMemory ys
parted [] ys h = (tt, h)
parted (x ∷ xs) ys h = let rest = parted xs ys h.1 in ((h.0, rest.0), rest.1)

-- of no marks none are left
until_none : (stop : SchedulerState → Bool) (E : List ℕ) (w : SchedulerState) → (until stop E [] w).marks ≡ []
until_none stop [] w = refl
until_none stop (s ∷ E) w = elim (either_way (stop w)) [
  | inl h ↦ ap (λ (p : Past). p.marks) (until_stops stop (s ∷ E) [] w h)
  | inr h ↦ ap (λ (p : Past). p.marks) (until_goes stop s E [] w h) ∙ until_none stop E (turn_as None s w).1
]

happened_none : (e : Event) (w : SystemState) → (happened e [] w).marks ≡ []
happened_none (Serve command) w = refl
happened_none (Load deck) w = until_none has_free_slot (rounds (turns_left w.scheduler.slots) (length w.scheduler.slots)) w.scheduler
happened_none (Give s n) w = until_none never (replicate n s) w.scheduler
happened_none Drain w = until_none is_done (rounds (turns_left w.scheduler.slots) (length w.scheduler.slots)) w.scheduler

module _ (law : MarksEndJobs) where
  turns_unmarked : (stop : SchedulerState → Bool) (E : List ℕ) (m : Marks) (w : SystemState) → AllByRecursion NotByMemory (of_turns w (until stop E m w.scheduler)).printouts
      → AsUnmarked (of_turns w (until stop E m w.scheduler)) (of_turns w (until stop E [] w.scheduler))
  turns_unmarked stop E m w none =
      let k = law stop w.scheduler E m (not_memory (until stop E m w.scheduler).ends none) in
      record { printouts = ap (λ (l : List (ℕ × JobEnd)). of_ends (map (λ e. e.1) l)) k.0; after = ap (with_scheduler w) k.1 }

  entered_unmarked : (deck : JobDeck) (m : Marks) (w : SystemState) → AllByRecursion NotByMemory (happened (Load deck) m w).printouts
      → AsUnmarked (happened (Load deck) m w) (happened (Load deck) [] w)
  entered_unmarked deck m w none =
      let p = of_turns w (room m w.scheduler) in
      let q = of_turns w (room [] w.scheduler) in
      let parts = parted p.printouts (of_load deck (loading deck p.after).0) none in
      let a = turns_unmarked has_free_slot (rounds (turns_left w.scheduler.slots) (length w.scheduler.slots)) m w parts.0 in
      record {
        printouts = ap (λ (l : List Printout). l ++ of_load deck (loading deck p.after).0) a.printouts ∙ ap (λ (v : SystemState). q.printouts ++ of_load deck (loading deck v).0) a.after;
        after = ap (λ (v : SystemState). (loading deck v).1) a.after;
      }

  happened_unmarked : (e : Event) (m : Marks) (w : SystemState) → AllByRecursion NotByMemory (happened e m w).printouts → AsUnmarked (happened e m w) (happened e [] w)
  happened_unmarked (Serve command) m w none = record { printouts = refl; after = refl }
  happened_unmarked (Load deck) m w none = entered_unmarked deck m w none
  happened_unmarked (Give s n) m w none = turns_unmarked never (replicate n s) m w none
  happened_unmarked Drain m w none = turns_unmarked is_done (rounds (turns_left w.scheduler.slots) (length w.scheduler.slots)) m w none

  pub played_unmarked : PlayedUnmarked
  played_unmarked [] m w none = record { printouts = refl; after = refl }
  played_unmarked (e ∷ E) m w none =
      let p = happened e m w in
      let q = happened e [] w in
      let parts = parted p.printouts (played E p.marks p.after).printouts none in
      let a = happened_unmarked e m w parts.0 in
      let b = played_unmarked E p.marks p.after parts.1 in
      let same : played E [] p.after ≡ played E q.marks q.after =
      ap (λ (v : SystemState). played E [] v) a.after ∙ ap (λ (k : Marks). played E k q.after) (sym (happened_none e w)) in
      record {
        printouts =
            ap (λ (l : List Printout). l ++ (played E p.marks p.after).printouts) a.printouts
            ∙ ap (λ (l : List Printout). q.printouts ++ l) (b.printouts ∙ ap (λ (x : Played). x.printouts) same);
        after = b.after ∙ ap (λ (x : Played). x.after) same;
      }

-- ROOM

mapped_not : (o : Option SyntaxError) → option_map Syntax o ≢ Some NoSlot
mapped_not None h = let k : None ≡ Some NoSlot = h in cc (k)
mapped_not (Some e) h = let k : Some (Syntax e) ≡ Some NoSlot = h in cc (k)

program_not : (said : Result ProgramText SyntaxError) → program_refusal said ≢ Some NoSlot
program_not (Ok cards) h = mapped_not (syntax_refusal cards) h
program_not (Err e) h = let k : Some (Syntax e) ≡ Some NoSlot = h in cc (k)

-- no deck is refused for want of a slot
deck_not : (f : Option Account) (t : Option UnitError) (said : Result ProgramText SyntaxError)
    → option_or (missing NoAccount f) (option_or (option_map Cards t) (program_refusal said)) ≢ Some NoSlot
deck_not None t said h = let k : Some NoAccount ≡ Some NoSlot = h in cc (k)
deck_not (Some a) (Some u) said h = let k : Some (Cards u) ≡ Some NoSlot = h in cc (k)
deck_not (Some a) None said h = program_not said h

answer_not : (o : Option ℕ) (d : Option LoadError) (slot : Option SlotState) (slots : List (Option SlotState)) → is_some o ≡ true → d ≢ Some NoSlot
    → (loaded_by (option_or (missing NoSlot o) d) o slot slots).0 ≢ Err NoSlot
answer_not None d slot slots h g e = absurd cc
answer_not (Some n) None slot slots h g e = let k : Ok n ≡ Err NoSlot = e in cc (k)
answer_not (Some n) (Some r) slot slots h g e = g (let k : Err r ≡ Err NoSlot = e in cc (k))

pub load_has_room : RoomIsMade → LoadHasRoom
load_has_room law deck m w some =
    let v = with_scheduler w (room m w.scheduler).after in
    answer_not (first_free v.scheduler.slots) (job_refusal v.accounts deck) (slot_in v.accounts deck) v.scheduler.slots (law w.scheduler m some)
    (deck_not (find_account v.accounts deck.account) (cards_refused deck.ties (replicate 100 false)) (statements_of deck.lines))

-- WHAT STAYS

-- no event changes the account table
pub event_accounts : (e : Event) (m : Marks) (w : SystemState) → (happened e m w).after.accounts ≡ w.accounts
event_accounts (Serve command) m w = refl
event_accounts (Load deck) m w = refl
event_accounts (Give s n) m w = refl
event_accounts Drain m w = refl

pub accounts_stay : AccountsStay
accounts_stay [] m w = refl
accounts_stay (e ∷ E) m w = accounts_stay E (happened e m w).marks (happened e m w).after ∙ event_accounts e m w

loaded_length : (r : Option LoadError) (n : Option ℕ) (slot : Option SlotState) (slots : List (Option SlotState)) → length (loaded_by r n slot slots).1 ≡ length slots
loaded_length (Some r) n slot slots = refl
loaded_length None (Some n) slot slots = seat_length n slot slots
loaded_length None None slot slots = refl

event_slots : (e : Event) (m : Marks) (w : SystemState) → length (happened e m w).after.scheduler.slots ≡ length w.scheduler.slots
event_slots (Serve command) m w = refl
event_slots (Load deck) m w =
    loaded_length _ _ _ (room m w.scheduler).after.slots ∙ until_length has_free_slot (rounds (turns_left w.scheduler.slots) (length w.scheduler.slots)) m w.scheduler
event_slots (Give s n) m w = until_length never (replicate n s) m w.scheduler
event_slots Drain m w = until_length is_done (rounds (turns_left w.scheduler.slots) (length w.scheduler.slots)) m w.scheduler

pub slots_stay : SlotsStay
slots_stay [] m w = refl
slots_stay (e ∷ E) m w = slots_stay E (happened e m w).marks (happened e m w).after ∙ event_slots e m w
