-- What one submission does to a site (own): its text is run alone, with four slots and as long as memory lasts, over the data sets that
-- the changes so far came to, for the accounts of the operator's table. Its jobs are numbered behind those that ran before.
use Rattle.std.specs.Prelude.{ℕ, ◌+◌, List, [], ◌∷◌, Option, Some, None, Result, Ok, Err}
use Rattle.std.specs.Option.{option_map_or}
use Rattle.std.specs.Str.Lines.{lines}
use Rattle.mon_access.specs.declared.account.Account.{Account}
use Rattle.mon_monitor.specs.SystemStates.{first_system}
use Rattle.mon_monitor.specs.Printouts.{printouts_text}
use Rattle.mon_monitor.specs.Played.{Played}
use Rattle.mon_monitor.specs.Audit.{audit_of}
use Rattle.deck_syntax.specs.Decks.{Asked}
use Rattle.deck_syntax.specs.Sections.{Closed}
use Rattle.deck_run.specs.Laws.{jobs_in}
use Rattle.preflight.specs.Examined.{Verdict, Admits, Refuses}
use Rattle.preflight.specs.inner.Reading.{examined}
use Rattle.preflight.specs.Rounds.{Handed}
use Rattle.site_plan.specs.Tables.{table_of}
use Rattle.rounds.specs.Delivery.{text_events, text_played}
use Rattle.ledger_text.specs.Records.{Said}
use Rattle.ledger_sets.specs.Changes.{run_changes, change_text}
use Rattle.ledger_sets.specs.Applying.{Site, with_sets, with_jobs, no_site, after_changes}

-- how many jobs of a text have turns by turns
abbrev pub slots : ℕ
slots = 4

-- ---- the text as the ledger has it: its account on the first line, and behind it its own lines

abbrev pub admitted : List ℕ → List (List ℕ) → Verdict → Option Handed
admitted own ls (Admits asked) = Some (record { own = own; lines = ls; asked = asked })
admitted own ls (Refuses n why) = None

abbrev pub handed_in : List (List ℕ) → Option Handed
handed_in [] = None
handed_in (own ∷ ls) = admitted own ls (examined own 1 Closed ls)

abbrev pub text_in : List ℕ → Option Handed
text_in file = handed_in (lines file)

-- ---- what it comes to over a site

abbrev pub good_of : {A E : Type 0} → Result A E → Option A
good_of (Ok x) = Some x
good_of (Err e) = None

abbrev pub accounts_of : Site → Option (List Account)
accounts_of site = good_of (table_of site.accounts)

-- what it does
abbrev pub ran_over : Site → List Account → Handed → Played
ran_over site accounts text = text_played slots accounts site.jobs [] site.sets text

-- the lines of its audit
abbrev pub lines_over : Site → List Account → Handed → List ℕ
lines_over site accounts text = audit_of (text_events site.jobs text) [] (first_system slots accounts site.sets)

-- how many jobs ran behind it
abbrev pub jobs_behind : Site → Handed → ℕ
jobs_behind site text = site.jobs + jobs_in text.asked

-- what it changes
abbrev pub changes_over : Site → List Account → Handed → List Said
changes_over site accounts text =
    let left = ran_over site accounts text in
    run_changes (jobs_behind site text) (lines_over site accounts text) site.sets left.after.scheduler.sets

-- what it prints, and the text of what it changes
abbrev pub step_over : Site → List Account → Handed → List ℕ × List ℕ
step_over site accounts text =
    let left = ran_over site accounts text in
    (printouts_text left.printouts, change_text (changes_over site accounts text))

-- only what it asks for counts, and not how that is written
abbrev pub step_asked : Site → List Account → List Asked → List ℕ × List ℕ
step_asked site accounts asked = step_over site accounts (record { own = []; lines = []; asked = asked })

-- the site behind it
abbrev pub site_after : Site → List Account → Handed → Site
site_after site accounts text =
    let left = ran_over site accounts text in
    with_jobs (with_sets site left.after.scheduler.sets) (jobs_behind site text)

-- ---- THE STEP. Where the changes are none of a site, its table gives no accounts, or the text is none that its account may hand in,
-- nothing is printed and nothing changes: a machine says then that it can't tell.

abbrev pub nothing : List ℕ × List ℕ
nothing = ([], [])

abbrev pub step_for : Site → List ℕ → List Account → List ℕ × List ℕ
step_for site file accounts = option_map_or (step_over site accounts) (text_in file) nothing

abbrev pub step_at : List ℕ → Site → List ℕ × List ℕ
step_at file site = option_map_or (step_for site file) (accounts_of site) nothing

abbrev pub site_step : List ℕ → List (List ℕ) → List ℕ × List ℕ
site_step file behind = option_map_or (step_at file) (after_changes behind no_site) nothing
