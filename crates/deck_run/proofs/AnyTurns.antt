-- Decks that differ in the turns behind their other cards.
use Rattle.std.proofs.Common.{◌≡◌, ℕ, suc, Bool, true, false, List, [], ◌∷◌, ◌++◌, length, map, flat_map, None, inl, inr, refl, sym, ap, subst, ◌∙◌, arith, if◌then◌else◌, append_assoc}
use Rattle.std.specs.{List.{AllByRecursion}, Str.Lines.{lines}, Prelude.{drop, replicate}}
use Rattle.std.proofs.lemmas.List.{Concat.{flat_map-append}, Sorted.{IsPermutation-map}}
use Rattle.mon_catalogue.specs.Sets.{Sets, NamesDiffer}
use Rattle.mon_access.specs.declared.account.Account.{Account}
use Rattle.job_end.specs.{declared.job_end.JobEnd.{JobEnd}, Printouts.{printout}}
use Rattle.scheduler.specs.{States.{SchedulerState, job_in}, Turns.{ends_by, turns}, inner.Parts.{ends_then}}
use Rattle.scheduler.specs.Marks.{Marks, mark_of, turn_as, Past, nothing, until, never, marked, rounds, turns_left, is_done, has_free_slot}
use Rattle.scheduler.proofs.Past.{either_way, until_stops, until_goes, until_append, unmarked}
use Rattle.mon_monitor.specs.{SystemStates.{SystemState, with_scheduler, first_system}, Events.{Event, Serve, Load, Give, Drain}, Isolation.{CommandsAgree}}
use Rattle.mon_monitor.specs.{Printouts.{Printout, OfJob, printout_text, printouts_text}, Played.{Played, of_turns, then_played, happened, played}}
use Rattle.mon_monitor.specs.{Laws.{CardByCard, DrainEmpties}, Schedules.{EndsAsAlone, AllEnded, AnySchedule}}
use Rattle.mon_monitor.proofs.{Parts.{and_played}, Playing.{ends_text}, Shorthand.{of_ends}}
use Rattle.deck_syntax.specs.{Decks.{Asked, Commands, Enters, Gives, Drains, Ending, Stopped}, Laws.{ReadingSpells}, Sections.{deck_of}}
use Rattle.deck_driver.specs.{declared.options.Options.{Options}, RunStates.{RunState, events_of, events_in, played_run_state}, Printouts.{closing, output_of}}
use Rattle.deck_driver.proofs.Verdicts.{at_end}
use Rattle.deck_run.specs.{Runs.{run_state_of, catalogue_after}, Laws.{done, jobs_in}, Schedules.{GivesTurns, EndsInTurns, done_before, AnyTurns}}
use Rattle.deck_run.proofs.{Ordered.{output_with, is_run, events_both}, Rearranged.{same_ends}, Staying.{played_names}}

-- TURNS ALONE ARE TURNS OF THE SLOTS IN SOME ORDER

some_turns : (stop : SchedulerState → Bool) (w : SchedulerState) (E : List ℕ) (m : Marks) → (F : List ℕ) × (until stop E m w ≡ marked F m w)
some_turns stop w [] m = ([], refl)
some_turns stop w (s ∷ E) m = elim (either_way (stop w)) [
  | inl h ↦ ([], until_stops stop (s ∷ E) m w h)
  | inr h ↦
      let t = turn_as (mark_of m) s w in
      let rest = some_turns stop t.1 E (drop 1 m) in
      (s ∷ rest.0, until_goes stop s E m w h ∙ ap (ends_then (ends_by s t.0)) rest.1)
]

abbrev IsTurns : Event → Type 0
IsTurns (Serve command) = ⊥
IsTurns (Load deck) = ⊥
IsTurns (Give slot count) = Unit {0}
IsTurns Drain = Unit {0}

record AsTurns (p : Played) (w : SystemState) : Type 0 where
  pub order : List ℕ
  pub is : p ≡ of_turns w (marked order [] w.scheduler)

printouts_both : (xs ys : List (ℕ × JobEnd)) → of_ends (map (λ e. e.1) (xs ++ ys)) ≡ of_ends (map (λ e. e.1) xs) ++ of_ends (map (λ e. e.1) ys)
printouts_both [] ys = refl
printouts_both (x ∷ xs) ys = ap (λ (l : List Printout). OfJob x.1 ∷ l) (printouts_both xs ys)

-- some turns, and then others
then_turns : (p : Played) (next : Marks → SystemState → Played) (w : SystemState) → AsTurns p w → ((v : SystemState) → AsTurns (next [] v) v) → AsTurns (then_played p next) w
then_turns p next w first rest =
    let F = first.order in
    let one = marked F [] w.scheduler in
    let v = with_scheduler w one.after in
    let more = rest v in
    let none : one.marks ≡ [] = (unmarked w.scheduler F).marks in
    let two = marked more.order [] one.after in
    record {
      order = F ++ more.order;
      is =
          ap (λ (x : Played). then_played x next) first.is
          ∙ ap (λ (m : Marks). and_played (of_turns w one).printouts (next m v)) none
          ∙ ap (and_played (of_turns w one).printouts) more.is
          ∙ sym (
          ap (of_turns w) (until_append never F more.order [] w.scheduler)
          ∙ ap (λ (m : Marks). of_turns w (ends_then one.ends (until never more.order m one.after))) none
          ∙ ap (λ (l : List Printout). let x : Played = record { printouts = l; after = with_scheduler w two.after; marks = two.marks } in x) (printouts_both one.ends two.ends)
          );
    }

one_event : (event : Event) (w : SystemState) → IsTurns event → AsTurns (happened event [] w) w
one_event (Serve command) w own = absurd own
one_event (Load deck) w own = absurd own
one_event (Give slot count) w own = record { order = replicate count slot; is = refl }
one_event Drain w own =
    let some = some_turns is_done w.scheduler (rounds (turns_left w.scheduler.slots) (length w.scheduler.slots)) [] in
    record { order = some.0; is = ap (of_turns w) some.1 }

as_turns : (E : List Event) → AllByRecursion IsTurns E → (w : SystemState) → AsTurns (played E [] w) w
as_turns [] own w = record { order = []; is = refl }
as_turns (event ∷ E) own w = then_turns (happened event [] w) (played E) w (one_event event w own.0) (as_turns E own.1)

-- turns that end all jobs
record Settled (p : Played) (w : SystemState) : Type 0 where
  pub order : List ℕ
  pub printouts : p.printouts ≡ of_ends (map (λ e. e.1) (turns order w.scheduler).ends)
  pub scheduler : p.after.scheduler ≡ (turns order w.scheduler).after
  pub ended : AllEnded (turns order w.scheduler).after

module _ (card_by_card : CardByCard) (drains : DrainEmpties) where
  settled : (E : List Event) → AllByRecursion IsTurns (E ++ Drain ∷ []) → (w : SystemState) → Settled (played (E ++ Drain ∷ []) [] w) w
  settled E own w =
      let all = played (E ++ Drain ∷ []) [] w in
      let some = as_turns (E ++ Drain ∷ []) own w in
      let plain = unmarked w.scheduler some.order in
      let first = played E [] w in
      let scheduler : all.after.scheduler ≡ (turns some.order w.scheduler).after = ap (λ (p : Played). p.after.scheduler) some.is ∙ plain.after in
      record {
        order = some.order;
        printouts = ap (λ (p : Played). p.printouts) some.is ∙ ap (λ (l : List (ℕ × JobEnd)). of_ends (map (λ e. e.1) l)) plain.ends;
        scheduler = scheduler;
        ended = λ s.
            ap (λ (v : SchedulerState). job_in s v) (sym scheduler)
            ∙ ap (λ (p : Played). job_in s p.after.scheduler) (card_by_card E (Drain ∷ []) [] w)
            ∙ drains first.marks first.after s;
      }

-- WITHOUT MARKS NONE ARE LEFT

none_of : (b : Bool) (p q : Past) → p.marks ≡ [] → q.marks ≡ [] → (if b then p else q).marks ≡ []
none_of true p q f g = f
none_of false p q f g = g

until_none : (stop : SchedulerState → Bool) (E : List ℕ) (w : SchedulerState) → (until stop E [] w).marks ≡ []
until_none stop [] w = refl
until_none stop (s ∷ E) w =
    let t = turn_as None s w in
    none_of (stop w) (nothing [] w) (ends_then (ends_by s t.0) (until stop E [] t.1)) refl (until_none stop E t.1)

event_none : (event : Event) (w : SystemState) → (happened event [] w).marks ≡ []
event_none (Serve command) w = refl
event_none (Load deck) w = until_none has_free_slot (rounds (turns_left w.scheduler.slots) (length w.scheduler.slots)) w.scheduler
event_none (Give slot count) w = until_none never (replicate count slot) w.scheduler
event_none Drain w = until_none is_done (rounds (turns_left w.scheduler.slots) (length w.scheduler.slots)) w.scheduler

played_none : (E : List Event) (w : SystemState) → (played E [] w).marks ≡ []
played_none [] w = refl
played_none (event ∷ E) w =
    let p = happened event [] w in
    ap (λ (m : Marks). (played E m p.after).marks) (event_none event w) ∙ played_none E p.after

-- A DECK THAT ENDS IN TURNS

turn_events : (k : ℕ) (cards : List Asked) → AllByRecursion GivesTurns cards → AllByRecursion IsTurns (events_of k cards ++ Drain ∷ [])
turn_events k [] own = (tt, tt)
turn_events k (Commands command ∷ cards) own = absurd own.0
turn_events k (Enters job ∷ cards) own = absurd own.0
turn_events k (Gives turn ∷ cards) own = (tt, turn_events k cards own.1)
turn_events k (Drains ∷ cards) own = (tt, turn_events k cards own.1)

-- it prints what these turns print behind the other cards
record Prints (options : Options) (bytes : List ℕ) (earlier : Played) : Type 0 where
  pub order : List ℕ
  pub output : output_of options [] bytes ≡ printouts_text earlier.printouts
      ++ (flat_map printout (map (λ e. e.1) (turns order earlier.after.scheduler).ends) ++ closing (catalogue_after options [] bytes) Stopped)
  pub sets : catalogue_after options [] bytes ≡ (turns order earlier.after.scheduler).after.sets
  pub ended : AllEnded (turns order earlier.after.scheduler).after

module _ (card_by_card : CardByCard) (drains : DrainEmpties) (options : Options) (bytes : List ℕ) (run : options.check ≡ false) (before others : List Asked)
    (is : EndsInTurns (deck_of (lines bytes)) before others) where
  abbrev run_state : RunState
  run_state = run_state_of options bytes

  abbrev earlier : Played
  earlier = done_before options bytes before

  abbrev cards_behind : List Event
  cards_behind = events_of (suc (jobs_in before)) others

  abbrev behind : List Event
  behind = cards_behind ++ Drain ∷ []

  abbrev last : Played
  last = played behind [] earlier.after

  all_events : events_in 0 run_state ≡ events_of 1 before ++ behind
  all_events =
      ap (λ (asked : List Asked). events_of 1 asked ++ at_end run_state.cards.ending) is.asked
      ∙ ap (λ (e : Ending). events_of 1 (before ++ others) ++ at_end e) is.stops
      ∙ ap (λ (es : List Event). es ++ Drain ∷ []) (events_both before others 1 (suc (jobs_in before)) (omega arith))
      ∙ append_assoc (events_of 1 before) cards_behind (Drain ∷ [])

  whole : played_run_state 0 [] run_state ≡ and_played earlier.printouts last
  whole =
      ap (λ (es : List Event). played es [] run_state.system) all_events
      ∙ card_by_card (events_of 1 before) behind [] run_state.system
      ∙ ap (λ (m : Marks). and_played earlier.printouts (played behind m earlier.after)) (played_none (events_of 1 before) run_state.system)

  prints : Prints options bytes earlier
  prints =
      let end = settled card_by_card drains cards_behind (turn_events (suc (jobs_in before)) others is.only_turns) earlier.after in
      let ends = map (λ e. e.1) (turns end.order earlier.after.scheduler).ends in
      let catalogue = closing (catalogue_after options [] bytes) Stopped in
      record {
        order = end.order;
        output =
            is_run options [] bytes run
            ∙ ap (λ (e : Ending). output_with (played_run_state 0 [] run_state) e) is.stops
            ∙ ap (λ (p : Played). printouts_text p.printouts ++ catalogue) whole
            ∙ ap (λ (t : List ℕ). t ++ catalogue) (flat_map-append printout_text earlier.printouts last.printouts)
            ∙ append_assoc (printouts_text earlier.printouts) (printouts_text last.printouts) catalogue
            ∙ ap (λ (printouts : List Printout). printouts_text earlier.printouts ++ (printouts_text printouts ++ catalogue)) end.printouts
            ∙ ap (λ (t : List ℕ). printouts_text earlier.printouts ++ (t ++ catalogue)) (ends_text ends);
        sets = ap (λ (p : Played). p.after.scheduler.sets) whole ∙ ap (λ (v : SchedulerState). v.sets) end.scheduler;
        ended = end.ended;
      }

pub any_turns : CardByCard → DrainEmpties → CommandsAgree → AnySchedule → EndsAsAlone → ReadingSpells → AnyTurns
any_turns card_by_card drains commands any_schedule ends_as_alone spells options bytes others before one_turns other_turns run differ apart =
    let deck = deck_of (lines bytes) in
    let other = deck_of (lines others) in
    let slots = options.slots.number in
    let earlier = done_before options bytes before in
    let w = earlier.after.scheduler in
    let same : done_before options others before ≡ earlier =
    ap (λ (accounts : List Account). done 0 before [] (first_system slots accounts other.catalogue)) (sym differ.accounts)
    ∙ ap (λ (sets : Sets). done 0 before [] (first_system slots deck.accounts sets)) (sym differ.catalogue) in
    let one = prints card_by_card drains options bytes run before one_turns differ.here in
    let two = subst (Prints options others) same (prints card_by_card drains options others run before other_turns differ.there) in
    let names : NamesDiffer w.sets =
    played_names commands (events_of 1 before) [] (first_system slots deck.accounts deck.catalogue) ((spells (lines bytes) deck).1 (refl, differ.here.stops)).text_is.1.0 in
    let outcome = any_schedule w apart names one.order two.order one.ended two.ended in
    record {
      ends = map (λ e. e.1) (turns one.order w).ends;
      other_ends = map (λ e. e.1) (turns two.order w).ends;
      here = one.output;
      there = two.output;
      same = IsPermutation-map (λ e. e.1) (turns one.order w).ends (turns two.order w).ends (same_ends (turns one.order w).ends (turns two.order w).ends outcome.ends);
      alone = ends_as_alone w apart one.order;
      catalogue = one.sets ∙ outcome.sets ∙ sym two.sets;
    }
