-- A part as a deck by itself: its texts do what they do behind other jobs, with other numbers.
use Rattle.std.proofs.Common.{◌≡◌, ℕ, suc, ◌+◌, Bool, true, false, List, [], ◌∷◌, ◌++◌, refl, sym, ap, ap₂, ◌∙◌, subst, map}
use Rattle.std.specs.Prelude.{if◌then◌else◌, ◌==◌, filter}
use Rattle.mon_access.specs.declared.account.Account.{Account}
use Rattle.mon_catalogue.specs.Sets.{Sets}
use Rattle.scheduler.specs.Marks.{Marks}
use Rattle.mon_monitor.specs.{SystemStates.{first_system}, Events.{Event}, Printed.{given_back}, Printouts.{Printout, printouts_text}}
use Rattle.deck_run.specs.Laws.{jobs_in}
use Rattle.preflight.specs.Rounds.{Handed}
use Rattle.parts_laws.specs.{Picking.{part_of}, Runs.{Numbered, Split}, Threads.{threaded}}
use Rattle.frame_audit.specs.Texts.{audited_texts}
use Rattle.rounds.specs.{Delivery.{text_events, text_played, delivered}, InParts.{numbered}, Laws.{EachItsPart}}
use Rattle.job_numbers.specs.{Numbers.{printout_as}, Laws.{IsTheSame}, Alone.{texts_of_part, jobs_before, jobs_ahead, printed_behind, PartsRunAlone}}
use Rattle.job_numbers.proofs.Telling.{numbers_are_told, texts_are_numbered}

module _ (slots : ℕ) (accounts : List Account) where
  -- the printouts of texts, each with jobs that are numbered from 1, and the data sets that the last one leaves
  abbrev pub alone : Marks → Sets → List Handed → List (List Printout)
  alone m sets [] = []
  alone m sets (text ∷ texts) = let here = text_played slots accounts 0 m sets text in here.printouts ∷ alone here.marks here.after.scheduler.sets texts

  abbrev left : Marks → Sets → List Handed → Sets
  left m sets [] = sets
  left m sets (text ∷ texts) = let here = text_played slots accounts 0 m sets text in left here.marks here.after.scheduler.sets texts

  same : (jobs : ℕ) (m : Marks) (sets : Sets) (text : Handed)
      → IsTheSame (λ n. jobs + n) (text_events 0 text) (text_events jobs text) m (first_system slots accounts sets)
  same jobs m sets text =
      subst (λ (es : List Event). IsTheSame (λ n. jobs + n) (text_events 0 text) es m (first_system slots accounts sets)) (sym (texts_are_numbered jobs text))
      (numbers_are_told (λ n. jobs + n) slots accounts (text_events 0 text) m sets)

  abbrev printed_as : ℕ → List Printout → List ℕ
  printed_as jobs printouts = printouts_text (map (printout_as (λ n. jobs + n)) printouts)

  deliver_alone : (jobs : ℕ) (m : Marks) (sets : Sets) (texts : List Handed)
      → ((delivered slots accounts jobs m sets texts).printed ≡ printed_behind (jobs_ahead jobs texts) (alone m sets texts))
      × ((delivered slots accounts jobs m sets texts).sets ≡ left m sets texts)
  deliver_alone jobs m sets [] = (refl, refl)
  deliver_alone jobs m sets (text ∷ texts) =
      let t = text_played slots accounts 0 m sets text in
      let u = text_played slots accounts jobs m sets text in
      let is = same jobs m sets text in
      let after = jobs + jobs_in text.asked in
      let later = deliver_alone after t.marks t.after.scheduler.sets texts in (
        ap (λ (ps : List Printout). printouts_text ps ∷ (delivered slots accounts after u.marks u.after.scheduler.sets texts).printed) is.printouts
            ∙ ap₂ (λ (k : Marks) (s : Sets). printed_as jobs t.printouts ∷ (delivered slots accounts after k s texts).printed) is.marks is.sets
            ∙ ap (λ (l : List (List ℕ)). printed_as jobs t.printouts ∷ l) later.0,
        ap₂ (λ (k : Marks) (s : Sets). (delivered slots accounts after k s texts).sets) is.marks is.sets ∙ later.1,
      )

  module _ (split : Split (List ℕ)) (k : ℕ) where
    abbrev one : ℕ → ℕ → Handed → Numbered (List Event)
    one n jobs text = record { number = n; text = text_events jobs text }

    abbrev own : List (Numbered (List Event)) → List (Numbered (List Event))
    own texts = filter (λ t. split.of_text t.number == k) texts

    abbrev told : List (Numbered (List Event)) → Marks → Sets → List (List ℕ)
    told texts m sets = map (λ e. printouts_text e.1.printouts) (threaded (audited_texts slots accounts) texts m sets).printed

    abbrev leaves : List (Numbered (List Event)) → Marks → Sets → Sets
    leaves texts m sets = (threaded (audited_texts slots accounts) texts m sets).sets

    part_alone : (n jobs : ℕ) (texts : List Handed) (m : Marks) (sets : Sets)
        → (told (own (numbered n jobs texts)) m sets ≡ printed_behind (jobs_before split k n jobs texts) (alone m sets (texts_of_part split k n texts)))
        × (leaves (own (numbered n jobs texts)) m sets ≡ left m sets (texts_of_part split k n texts))
    part_alone n jobs [] m sets = (refl, refl)
    part_alone n jobs (text ∷ texts) m sets = by (split.of_text n == k) (part_alone (suc n) (jobs + jobs_in text.asked) texts)
      where
        by : (b : Bool)
            → ((m : Marks) (sets : Sets) → (told (own (numbered (suc n) (jobs + jobs_in text.asked) texts)) m sets
            ≡ printed_behind (jobs_before split k (suc n) (jobs + jobs_in text.asked) texts) (alone m sets (texts_of_part split k (suc n) texts)))
            × (leaves (own (numbered (suc n) (jobs + jobs_in text.asked) texts)) m sets ≡ left m sets (texts_of_part split k (suc n) texts)))
            → (told (if b then one n jobs text ∷ own (numbered (suc n) (jobs + jobs_in text.asked) texts) else own (numbered (suc n) (jobs + jobs_in text.asked) texts)) m sets
            ≡ printed_behind (if b then jobs ∷ jobs_before split k (suc n) (jobs + jobs_in text.asked) texts else jobs_before split k (suc n) (jobs + jobs_in text.asked) texts)
            (alone m sets (if b then text ∷ texts_of_part split k (suc n) texts else texts_of_part split k (suc n) texts)))
            × (leaves (if b then one n jobs text ∷ own (numbered (suc n) (jobs + jobs_in text.asked) texts) else own (numbered (suc n) (jobs + jobs_in text.asked) texts)) m sets
            ≡ left m sets (if b then text ∷ texts_of_part split k (suc n) texts else texts_of_part split k (suc n) texts))
        by false rest = rest m sets
        by true rest =
            let t = text_played slots accounts 0 m sets text in
            let u = text_played slots accounts jobs m sets text in
            let is = same jobs m sets text in
            let others = own (numbered (suc n) (jobs + jobs_in text.asked) texts) in
            let later = rest t.marks t.after.scheduler.sets in (
              ap (λ (ps : List Printout). printouts_text ps ∷ told others u.marks u.after.scheduler.sets) is.printouts
                  ∙ ap₂ (λ (i : Marks) (s : Sets). printed_as jobs t.printouts ∷ told others i s) is.marks is.sets
                  ∙ ap (λ (l : List (List ℕ)). printed_as jobs t.printouts ∷ l) later.0,
              ap₂ (λ (i : Marks) (s : Sets). leaves others i s) is.marks is.sets ∙ later.1,
            )

pub parts_run_alone : EachItsPart → PartsRunAlone
parts_run_alone each_its_part options accounts split handed sets marks k head submissions table run good =
    let slots = options.slots.number in
    let mine = part_of split.of_name k sets in
    let texts = texts_of_part split k 0 handed in
    let own_run = deliver_alone slots accounts 0 (marks k) mine texts in
    let in_round = part_alone slots accounts split k 0 0 handed (marks k) mine in
    record {
      alone = alone slots accounts (marks k) mine texts;
      own =
          (each_its_part options (marks k) head submissions table accounts mine texts run good).parts
          ∙ ap₂ (λ (printed : List (List ℕ)) (s : Sets). printed ++ given_back s ∷ []) own_run.0 (own_run.1 ∙ sym in_round.1);
      whole = in_round.0;
    }
