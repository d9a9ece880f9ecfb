-- What each text of a round prints (own): it is run alone, with all slots empty, over the data sets that the text before it
-- left. Its jobs are numbered behind those of the texts before it.
use Rattle.std.specs.Prelude.{ℕ, suc, ◌+◌, List, [], ◌∷◌, ◌++◌}
use Rattle.mon_access.specs.declared.account.Account.{Account}
use Rattle.mon_catalogue.specs.Sets.{Sets}
use Rattle.scheduler.specs.Marks.{Marks}
use Rattle.mon_monitor.specs.SystemStates.{first_system}
use Rattle.mon_monitor.specs.Events.{Event}
use Rattle.mon_monitor.specs.Printouts.{printouts_text}
use Rattle.mon_monitor.specs.Played.{Played, played}
use Rattle.deck_syntax.specs.Decks.{Drains}
use Rattle.deck_driver.specs.RunStates.{events_of}
use Rattle.deck_run.specs.Laws.{jobs_in}
use Rattle.preflight.specs.Rounds.{Handed}

-- all that a text asks for, behind so many jobs; and then its jobs come to their ends
abbrev pub text_events : ℕ → Handed → List Event
text_events jobs text = events_of (suc jobs) (text.asked ++ Drains ∷ [])

-- what that does, with so many slots
abbrev pub text_played : ℕ → List Account → ℕ → Marks → Sets → Handed → Played
text_played slots accounts jobs m sets text = played (text_events jobs text) m (first_system slots accounts sets)

-- what each text prints, and the data sets that the last one leaves
pub record Delivered : Type 0 where
  pub printed : List (List ℕ)
  pub sets : Sets

abbrev pub and_delivered : List ℕ → Delivered → Delivered
and_delivered text later = record { printed = text ∷ later.printed; sets = later.sets }

abbrev pub delivered : ℕ → List Account → ℕ → Marks → Sets → List Handed → Delivered
delivered slots accounts jobs m sets [] = record { printed = []; sets = sets }
delivered slots accounts jobs m sets (text ∷ texts) =
    let here = text_played slots accounts jobs m sets text in
    and_delivered (printouts_text here.printouts) (delivered slots accounts (jobs + jobs_in text.asked) here.marks here.after.scheduler.sets texts)
