-- A text that was played over a state is the step of that state.
use Rattle.std.proofs.Common.{◌≡◌, ℕ, ◌+◌, List, [], ◌∷◌, ◌++◌, Option, Some, sym, ap, ◌∙◌, subst}
use Rattle.std.specs.{Option.{option_map_or}, Str.Lines.{lines}}
use Rattle.mon_access.specs.declared.account.Account.{Account}
use Rattle.mon_catalogue.specs.Sets.{Sets}
use Rattle.mon_monitor.specs.{SystemStates.{SystemState, first_system}, Printouts.{printouts_text}, Played.{played}, Audit.{audit_of}}
use Rattle.deck_syntax.specs.{Decks.{Asked}, Sections.{Closed}}
use Rattle.deck_run.specs.Laws.{jobs_in}
use Rattle.preflight.specs.{Examined.{IsSubmission, Admits}, inner.Reading.{examined}, declared.submission.Submission.{Submission}}
use Rattle.preflight.{specs.Submissions.{IsAdmitted, lines_of}, proofs.Exactly.{admits_exactly}}
use Rattle.ledger_sets.specs.{Applying.{Site}, Changes.{run_changes, change_text}}
use Rattle.ledger_machine.{specs.Running.{asked_events, asked_ahead}, proofs.Going.{ahead}}
use Rattle.ledger_machine.specs.Steps.{slots, admitted, handed_in, accounts_of, step_over, step_asked, step_for, step_at, nothing}

-- ---- the text

-- an account may hand it in, and it asks for what its lines ask for
pub may_hand_in : (kept : Submission) (own text : List ℕ) (asked : List Asked) → IsAdmitted kept asked → kept.account ≡ own → lines_of kept ≡ lines text
    → examined own 1 Closed (lines text) ≡ Admits (asked_ahead Closed (lines text))
may_hand_in kept own text asked is account same =
    let admits = (admits_exactly own (lines text) asked).1
    (subst (λ (ls : List (List ℕ)). IsSubmission own ls asked) same (subst (λ (a : List ℕ). IsSubmission a (lines_of kept) asked) account is.is)) in
    admits ∙ ap Admits (ahead own (lines text) 1 Closed asked admits)

-- it asks for what its lines ask for
pub asks_ahead : (kept : Submission) (asked : List Asked) → IsAdmitted kept asked → asked ≡ asked_ahead Closed (lines_of kept)
asks_ahead kept asked is = ahead kept.account (lines_of kept) 1 Closed asked ((admits_exactly kept.account (lines_of kept) asked).1 is.is)

-- so the step of its file is this
pub step_is : (file line own text : List ℕ) (site : Site) (accounts : List Account) → lines file ≡ line ∷ lines text → own ≡ line
    → examined own 1 Closed (lines text) ≡ Admits (asked_ahead Closed (lines text)) → accounts_of site ≡ Some accounts
    → step_at file site ≡ step_asked site accounts (asked_ahead Closed (lines text))
step_is file line own text site accounts parts same admits known =
    ap (λ (o : Option (List Account)). option_map_or (step_for site file) o nothing) known
    ∙ ap (λ (ls : List (List ℕ)). option_map_or (step_over site accounts) (handed_in ls) nothing) parts
    ∙ ap (λ (name : List ℕ). option_map_or (step_over site accounts) (admitted line (lines text) (examined name 1 Closed (lines text))) nothing) (sym same)
    ∙ ap (λ v. option_map_or (step_over site accounts) (admitted line (lines text) v) nothing) admits

-- ---- the change

pub step_so : (site : Site) (accounts : List Account) (asked : List Asked) (jobs' : ℕ) (w w' : SystemState) (before after told told' change : List ℕ) (sets : Sets)
    → w ≡ first_system slots accounts site.sets → before ≡ [] → told ≡ []
    → after ≡ before ++ printouts_text (played (asked_events site.jobs asked) [] w).printouts → (played (asked_events site.jobs asked) [] w).after ≡ w'
    → told' ≡ told ++ audit_of (asked_events site.jobs asked) [] w → site.jobs + jobs_in asked ≡ jobs' → sets ≡ w'.scheduler.sets
    → change ≡ change_text (run_changes jobs' told' site.sets sets) → step_asked site accounts asked ≡ (after, change)
step_so site accounts asked jobs' w w' before after told told' change sets first none silent put leaves tells counted left changes =
    let events = asked_events site.jobs asked in
    let start = first_system slots accounts site.sets in
    let printed : printouts_text (played events [] start).printouts ≡ after =
    sym (put ∙ ap (λ (t : List ℕ). t ++ printouts_text (played events [] w).printouts) none ∙ ap (λ (v : SystemState). printouts_text (played events [] v).printouts) first) in
    let lines : audit_of events [] start ≡ told' =
    sym (tells ∙ ap (λ (t : List ℕ). t ++ audit_of events [] w) silent ∙ ap (λ (v : SystemState). audit_of events [] v) first) in
    let sets_are : (played events [] start).after.scheduler.sets ≡ sets =
    ap (λ (v : SystemState). (played events [] v).after.scheduler.sets) (sym first) ∙ ap (λ (v : SystemState). v.scheduler.sets) leaves ∙ sym left in
    ap (λ (t : List ℕ). (t, change_text (run_changes (site.jobs + jobs_in asked) (audit_of events [] start) site.sets (played events [] start).after.scheduler.sets))) printed
    ∙ ap (λ (l : List ℕ). (after, change_text (run_changes (site.jobs + jobs_in asked) l site.sets (played events [] start).after.scheduler.sets))) lines
    ∙ ap (λ (n : ℕ). (after, change_text (run_changes n told' site.sets (played events [] start).after.scheduler.sets))) counted
    ∙ ap (λ (s : Sets). (after, change_text (run_changes jobs' told' site.sets s))) sets_are
    ∙ ap (λ (t : List ℕ). (after, t)) (sym changes)
