-- A text over the data sets that are enough for it does what it does over all.
use Rattle.std.proofs.Common.{◌≡◌, ℕ, ◌+◌, Bool, List, [], ◌∷◌, ap, ◌∙◌, subst}
use Rattle.mon_access.specs.declared.account.Account.{Account}
use Rattle.mon_catalogue.specs.{Sets.{Sets}, Stored.{IsStored, ArePrintable}}
use Rattle.mon_monitor.specs.{SystemStates.{SystemState, first_system}, Events.{Event}, Printouts.{Printout, printouts_text}, Played.{played}, Audit.{audit_of}}
use Rattle.deck_syntax.specs.Decks.{Asked}
use Rattle.deck_run.specs.Laws.{jobs_in}
use Rattle.frame_laws.specs.Naming.{of_names}
use Rattle.ledger_text.specs.Records.{Said, Audit}
use Rattle.ledger_sets.specs.{declared.part.Which.{Which}, declared.part.Which.TheVariants.{All, Named}, Parts.{has, those_of}}
use Rattle.ledger_sets.specs.{Applying.{Site, with_sets}, Changes.{changes_between, change_text}, Laws.{AreSmall}}
use Rattle.ledger_sets.proofs.Copying.{all_of}
use Rattle.ledger_frames.specs.{Needs.{StaysWithin, AreEnough, happens_behind}, Laws.{DoesTheSame, SomeAreEnough}}
use Rattle.ledger_machine.specs.{Steps.{slots, step_asked}, Written.{IsWrittenAsked}}

module _ (law : SomeAreEnough) (site : Site) (accounts : List Account) (asked : List Asked) (stored : IsStored site.sets) where
  abbrev events : List Event
  events = happens_behind site.jobs asked

  abbrev wide : SystemState
  wide = first_system slots accounts site.sets

  module _ (p : List ℕ → Bool) (within : StaysWithin asked p) where
    abbrev narrow : SystemState
    narrow = first_system slots accounts (of_names p site.sets)

    same : DoesTheSame p site.sets events [] wide narrow
    same = law slots accounts events [] site.sets p (within.named site.jobs) (within.none_made site.jobs) stored

    over_some : step_asked (with_sets site (of_names p site.sets)) accounts asked ≡ step_asked site accounts asked
    over_some =
        ap (λ (l : List Printout). (
          printouts_text l,
          change_text (Audit (site.jobs + jobs_in asked) (audit_of events [] narrow)
              ∷ changes_between (of_names p site.sets) (played events [] narrow).after.scheduler.sets),
        )) same.printouts
        ∙ ap (λ (t : List ℕ). (
          printouts_text (played events [] wide).printouts,
          change_text (Audit (site.jobs + jobs_in asked) t
              ∷ changes_between (of_names p site.sets) (played events [] narrow).after.scheduler.sets),
        )) same.told
        ∙ ap (λ (l : List Said). (printouts_text (played events [] wide).printouts, change_text (Audit (site.jobs + jobs_in asked) (audit_of events [] wide) ∷ l)))
        same.changes

    from_some : ArePrintable site.sets → IsWrittenAsked (with_sets site (of_names p site.sets)) accounts asked → IsWrittenAsked site accounts asked
    from_some printable w = record {
      stored = same.stored w.stored;
      printable = same.printable printable w.printable;
      small =
          subst (λ (l : List Said). AreSmall (Audit (site.jobs + jobs_in asked) (audit_of events [] wide) ∷ l)) same.changes
          (subst (λ (t : List ℕ). AreSmall (Audit (site.jobs + jobs_in asked) t
          ∷ changes_between (of_names p site.sets) (played events [] narrow).after.scheduler.sets)) same.told w.small);
    }

  pub step_alike : (which : Which) → AreEnough asked which → step_asked (with_sets site (those_of which site.sets)) accounts asked ≡ step_asked site accounts asked
  step_alike All enough = ap (λ (s : Sets). step_asked (with_sets site s) accounts asked) (all_of site.sets)
  step_alike (Named names) enough = over_some (has (Named names)) enough

  pub written_alike : (which : Which) → AreEnough asked which → ArePrintable site.sets
      → IsWrittenAsked (with_sets site (those_of which site.sets)) accounts asked → IsWrittenAsked site accounts asked
  written_alike All enough printable w = subst (λ (s : Sets). IsWrittenAsked (with_sets site s) accounts asked) (all_of site.sets) w
  written_alike (Named names) enough printable w = from_some (has (Named names)) enough printable w
