-- What an account may not see does not show in what one call answers for it.
use Rattle.std.proofs.Common.{◌≡◌, ℕ, List, Option, Result, Ok, Err, ap, sym, ◌∙◌, subst, IfOk, IfErr, OnOk, OnErr}
use Rattle.mon_monitor.proofs.Common.{Stop, IfRefused, Account, Sets, Command, commanded, JobDeck, LoadError, Slots, slots_in, SlotState, SchedulerState, scheduler, job_loaded, Standing, TurnOr, SystemState, with_scheduler, with_sets, loading, Agree, turning, CommandIsolated, LoadIsolated, TurnIsolated, system, Turned}
use Rattle.mon_text.specs.declared.stop.Stop.TheVariants.{Refused, Memory}
use Rattle.mon_monitor.proofs.{Turning.{turns_agree}, Commands.{commands_agree}, Loading.{loads_agree}}

-- a command
command_shows_none : (command : Command) (w w' : SystemState) (told : List ℕ) → told ≡ (commanded w.accounts w.scheduler.sets command).printout
    → w' ≡ with_sets w (commanded w.accounts w.scheduler.sets command).sets → CommandIsolated command w told w'
command_shows_none command w w' told said is = record {
  same = λ account v agree own.
      let one = commands_agree account w v agree command own in
      record {
        answer = sym one.printout ∙ sym said;
        after = subst (λ (x : SystemState). Agree account x (with_sets v (commanded v.accounts v.scheduler.sets command).sets)) (sym is) one.after;
      };
}

pub command_isolated : {E : Type 0} (r : Result (List ℕ) E) (command : Command) (w w' : SystemState)
    → IfOk r (λ told. told ≡ (commanded w.accounts w.scheduler.sets command).printout)
    → OnOk r (w' ≡ with_sets w (commanded w.accounts w.scheduler.sets command).sets)
    → IfOk r (λ told. CommandIsolated command w told w')
command_isolated (Ok told) command w w' said is = command_shows_none command w w' told said is
command_isolated (Err e) command w w' said is = tt

-- a load
load_shows_none : (deck : JobDeck) (w w' : SystemState) (told : Result ℕ LoadError) → loading deck w ≡ (told, w') → LoadIsolated deck w told w'
load_shows_none deck w w' told is = record {
  same = λ account v agree own.
      let one = loads_agree account w v agree deck own in
      record {
        answer = sym one.answer ∙ ap (λ (l : Result ℕ LoadError × SystemState). l.0) is;
        after = subst (λ (x : SystemState). Agree account x (loading deck v).1) (ap (λ (l : Result ℕ LoadError × SystemState). l.1) is) one.after;
      };
}

pub load_isolated : {E : Type 0} (r : Result ℕ E) (deck : JobDeck) (w w' : SystemState) → IfOk r (λ n. loading deck w ≡ (Ok n, w'))
    → IfOk r (λ n. LoadIsolated deck w (Ok n) w')
load_isolated (Ok n) deck w w' is = load_shows_none deck w w' (Ok n) is
load_isolated (Err e) deck w w' is = tt

-- a refusal
module _ (deck : JobDeck) (accounts : List Account) (sets : Sets) (old new : Slots) where
  abbrev Refuses : LoadError → Type 0
  Refuses refusal = job_loaded accounts deck (slots_in old) ≡ (Err refusal, slots_in old)

  abbrev Shows : LoadError → Type 0
  Shows refusal = LoadIsolated deck (system accounts (scheduler sets (slots_in old))) (Err refusal) (system accounts (scheduler sets (slots_in new)))

  refused_shows_none : (stop : Stop LoadError) → IfRefused Refuses stop → new ≡ old → IfRefused Shows stop
  refused_shows_none (Refused refusal) is same =
      load_shows_none deck (system accounts (scheduler sets (slots_in old))) (system accounts (scheduler sets (slots_in new))) (Err refusal)
      (ap (λ (l : Result ℕ LoadError × List (Option SlotState)). let x : Result ℕ LoadError × SystemState = (l.0, system accounts (scheduler sets l.1)) in x) is
      ∙ ap (λ (s : Slots). let x : Result ℕ LoadError × SystemState = (Err refusal, system accounts (scheduler sets (slots_in s))) in x) (sym same))
  refused_shows_none Memory is same = tt

  pub refusal_isolated : (r : Result ℕ (Stop LoadError)) → IfErr r (IfRefused Refuses) → OnErr r (new ≡ old) → IfErr r (IfRefused Shows)
  refusal_isolated (Ok n) is same = tt
  refusal_isolated (Err stop) is same = refused_shows_none stop is same

-- a turn
pub turn_isolated : (s : ℕ) (w w' : SystemState) (told : Turned) (a b : Standing) → TurnOr s w.scheduler told w'.scheduler a b → w'.accounts ≡ w.accounts → TurnIsolated s w told w'
turn_isolated s w w' told a b h same =
    let is : turning h.mark s w ≡ (told, w') =
    ap (λ (t : Turned × SchedulerState). let x : Turned × SystemState = (t.0, with_scheduler w t.1) in x) h.is
    ∙ ap (λ (a : List Account). let x : Turned × SystemState = (told, system a w'.scheduler) in x) (sym same) in
    record {
      mark = h.mark;
      is = is;
      same = λ account v agree.
          let one = turns_agree account w v agree h.mark s in
          record {
            answer = sym one.answer ∙ ap (λ (t : Turned × SystemState). t.0) is;
            after = subst (λ (x : SystemState). Agree account x (turning h.mark s v).1) (ap (λ (t : Turned × SystemState). t.1) is) one.after;
          };
    }
