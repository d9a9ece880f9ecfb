-- One text over a site, and texts one after the other.
use Rattle.std.proofs.Common.{◌≡◌, ℕ, List, [], ◌∷◌, ◌++◌, Option, Some, None, Result, Ok, refl, sym, ap, ◌∙◌, subst, map}
use Rattle.std.specs.Option.{option_map_or, option_and_then}
use Rattle.mon_access.specs.declared.account.Account.{Account}
use Rattle.scheduler.specs.Marks.{Marks}
use Rattle.mon_monitor.specs.SystemStates.{first_system}
use Rattle.preflight.specs.Rounds.{Handed}
use Rattle.site_plan.specs.{declared.table.TableFault.{TableFault}, Tables.{table_of}}
use Rattle.rounds.specs.Delivery.{text_events, Delivered, delivered}
use Rattle.ledger_run.specs.Meaning.{machine_of}
use Rattle.ledger_sets.specs.{Applying.{Site, no_site, after_change, after_changes}, Laws.{RunsLead}}
use Rattle.ledger_stretches.specs.Stretches.{Course, and_printed, run_all}
use Rattle.ledger_machine.specs.Steps.{slots, text_in, good_of, ran_over, lines_over, jobs_behind, step_over, site_after, nothing, step_for, step_at, site_step}
use Rattle.ledger_machine.proofs.Unmarked.{played_none}
use Rattle.ledger_machine.specs.{Decks.{StandsAt, AreFiles, site_behind, IsWritten, AreWritten}, Laws.{StepsAreTexts, course}}

step_is : (behind : List (List ℕ)) (file : List ℕ) (site : Site) (accounts : List Account) (text : Handed) → after_changes behind no_site ≡ Some site
    → table_of site.accounts ≡ Ok accounts → text_in file ≡ Some text → site_step file behind ≡ step_over site accounts text
step_is behind file site accounts text is gives text_is =
    ap (λ (o : Option Site). option_map_or (step_at file) o nothing) is
    ∙ ap (λ (r : Result (List Account) (ℕ × TableFault)). option_map_or (step_for site file) (good_of r) nothing) gives
    ∙ ap (λ (o : Option Handed). option_map_or (step_over site accounts) o nothing) text_is

changes_both : (xs ys : List (List ℕ)) (site : Site) → after_changes (xs ++ ys) site ≡ option_and_then (after_changes ys) (after_changes xs site)
changes_both [] ys site = refl
changes_both (x ∷ xs) ys site = by (changes_both xs ys) (after_change x site)
  where
    by : ((s : Site) → after_changes (xs ++ ys) s ≡ option_and_then (after_changes ys) (after_changes xs s)) → (o : Option Site)
        → option_and_then (after_changes (xs ++ ys)) o ≡ option_and_then (after_changes ys) (option_and_then (after_changes xs) o)
    by h None = refl
    by h (Some s) = h s

-- one change more
pub leads_on : (behind : List (List ℕ)) (change : List ℕ) (site next : Site) → after_changes behind no_site ≡ Some site → after_change change site ≡ Some next
    → after_changes (behind ++ change ∷ []) no_site ≡ Some next
leads_on behind change site next is leads =
    changes_both behind (change ∷ []) no_site
    ∙ ap (λ (o : Option Site). option_and_then (after_changes (change ∷ [])) o) is
    ∙ ap (λ (o : Option Site). option_and_then (after_changes []) o) leads

module _ (runs_lead : RunsLead) where
  stands : (behind : List (List ℕ)) (site : Site) (accounts : List Account) (text : Handed) → StandsAt behind site accounts → IsWritten site accounts text
      → StandsAt (behind ++ (step_over site accounts text).1 ∷ []) (site_after site accounts text) accounts
  stands behind site accounts text at written =
      record {
        is =
            leads_on behind (step_over site accounts text).1 site (site_after site accounts text) at.is
            (runs_lead site (jobs_behind site text) (lines_over site accounts text) (ran_over site accounts text).after.scheduler.sets
            at.stored at.printable written.stored written.printable written.small);
        gives = at.gives;
        stored = written.stored;
        printable = written.printable;
      }

  pub steps_are_texts : StepsAreTexts
  steps_are_texts behind file site accounts text at text_is = record {
    is = step_is behind file site accounts text at.is at.gives text_is;
    stands = λ written. stands behind site accounts text at written;
    ran = λ left. stands behind site accounts text at
        ((left.leaves site at.is).written accounts text (ap good_of at.gives) text_is);
  }

  -- these files were run
  pub record Went (site : Site) (accounts : List Account) (texts : List Handed) (files : List (ℕ × List ℕ)) (behind : List (List ℕ)) : Type 0 where
    pub each : map (λ out. out.1) (course files behind).printed ≡ (delivered slots accounts site.jobs [] site.sets texts).printed
    pub sets : (delivered slots accounts site.jobs [] site.sets texts).sets ≡ (site_behind site accounts texts).sets
    pub stands : StandsAt (course files behind).state (site_behind site accounts texts) accounts

  pub went : (files : List (ℕ × List ℕ)) (texts : List Handed) (behind : List (List ℕ)) (site : Site) (accounts : List Account) → StandsAt behind site accounts
      → AreFiles files texts → AreWritten site accounts texts → Went site accounts texts files behind
  went [] [] behind site accounts at are written = record { each = refl; sets = refl; stands = at }
  went [] (text ∷ texts) behind site accounts at are written = absurd are
  went (file ∷ files) [] behind site accounts at are written = absurd are
  went (file ∷ files) (text ∷ texts) behind site accounts at are written =
      let left = ran_over site accounts text in
      let told = step_over site accounts text in
      let next = behind ++ told.1 ∷ [] in
      let after = site_after site accounts text in
      let later = went files texts next after accounts (stands behind site accounts text at written.0) are.1 written.1 in
      let is : course (file ∷ files) behind ≡ and_printed (file.0, told.0) (course files next) =
      ap (λ (t : List ℕ × List ℕ). and_printed (file.0, t.0) (run_all (machine_of site_step) files (behind ++ t.1 ∷ [])))
      (step_is behind file.1 site accounts text at.is at.gives are.0) in
      let marks : delivered slots accounts after.jobs left.marks after.sets texts ≡ delivered slots accounts after.jobs [] after.sets texts =
      ap (λ (m : Marks). delivered slots accounts after.jobs m after.sets texts) (played_none (text_events site.jobs text) (first_system slots accounts site.sets)) in
      record {
        each =
            ap (λ (c : Course (List ℕ) (List (List ℕ))). map (λ out. out.1) c.printed) is
            ∙ ap (λ (l : List (List ℕ)). told.0 ∷ l) (later.each ∙ sym (ap (λ (d : Delivered). d.printed) marks));
        sets = ap (λ (d : Delivered). d.sets) marks ∙ later.sets;
        stands =
            subst (λ (state : List (List ℕ)). StandsAt state (site_behind after accounts texts) accounts)
            (sym (ap (λ (c : Course (List ℕ) (List (List ℕ))). c.state) is)) later.stands;
      }
