-- A round in parts: what the parts wrote, joined, is what the round writes.
use Rattle.std.proofs.Common.{◌≡◌, ℕ, suc, ◌+◌, nat_eq, false, List, [], ◌∷◌, ◌++◌, refl, sym, ap, ap₂, ◌∙◌, flat_map}
use Rattle.std.specs.{Prelude.{◌==◌, codes}, List.{AllByRecursion, IsDistinct, concat}, Cmp.Lexicographic.{pointwise, bytes_decides}}
use Rattle.std.proofs.lemmas.{Bool.Decides.{nat_tests}, Map.Keys.{IsDistinct-cons, IsDistinct-from_apart}, List.Concat.{flat_map-append}}
use Rattle.std.proofs.Common.{◌<◌, arith}
use Rattle.mon_access.specs.declared.account.Account.{Account}
use Rattle.mon_catalogue.specs.{Sets.{Sets}, Text.{set_lines, catalogue_lines, catalogue_text}}
use Rattle.scheduler.specs.Marks.{Marks}
use Rattle.audit.specs.RunEnds.{stopped_line}
use Rattle.mon_monitor.specs.{Printouts.{printouts_text}, Laws.{CardByCard, DrainEmpties, AccountsStay, SlotsStay}}
use Rattle.deck_run.specs.Laws.{jobs_in}
use Rattle.preflight.specs.{Rounds.{Handed}, Laws.{NeverRefused}}
use Rattle.parts_laws.{specs.Picking.{Decides}, specs.Runs.{numbers}, specs.Threads.{threaded}, proofs.Picking.{itself}, proofs.Running.{equal}}
use Rattle.parts.specs.{Splits.{goes}, Joining.{printed_in, left_in}}
use Rattle.frame_audit.specs.{Texts.{Telling, audited_texts}, Laws.{TextsRunInParts}}
use Rattle.rounds.specs.{Delivery.{text_played, delivered}, InParts.{numbered}, Laws.{EachItsPart}}
use Rattle.round_parts.specs.{Outputs.{part, set_text}, Laws.{SplitsAreLawful, JoinedIsOutput, places, names_behind}}
use Rattle.round_parts.proofs.{Spoken.{go_read}, Picked.{picked_texts}, Audited.{round_told}}

-- THE PLACES OF TEXTS

behind : (k n jobs : ℕ) (texts : List Handed) → k < n → AllByRecursion (λ l. (k == l) ≡ false) (numbers (numbered n jobs texts))
behind k n jobs [] less = tt
behind k n jobs (text ∷ texts) less = (grind (arith, nat_tests, less), behind k (suc n) (jobs + jobs_in text.asked) texts (omega (arith, less)))

pub differ : (n jobs : ℕ) (texts : List Handed) → IsDistinct (λ n m. n == m) (numbers (numbered n jobs texts))
differ n jobs [] = IsDistinct-from_apart (λ n m. n == m) [] (λ i j d lt le. absurd (omega (arith, lt, le)))
differ n jobs (text ∷ texts) =
    IsDistinct-cons (λ n m. n == m) n (numbers (numbered (suc n) (jobs + jobs_in text.asked) texts)) (behind n (suc n) (jobs + jobs_in text.asked) texts (omega arith))
    (differ (suc n) (jobs + jobs_in text.asked) texts)

pub splits_are_lawful : TextsRunInParts → SplitsAreLawful
splits_are_lawful texts_run_in_parts slots accounts told texts handed sets are accepted room marks =
    texts_run_in_parts slots accounts (goes told) (numbered 0 0 handed) sets (go_read (goes told) 0 0 texts handed are accepted) room (differ 0 0 handed) marks

-- WHAT IS WRITTEN

numbers_decide : Decides (λ n m. n == m)
numbers_decide = record { itself = itself; alike = equal }

names_decide : Decides (pointwise nat_eq)
names_decide = record { itself = λ k. (bytes_decides k k).1 refl; alike = λ k l h. (bytes_decides k l).0 h }

sets_written : (sets : Sets) → flat_map (λ e. set_text e.0 e.1) sets ≡ catalogue_text sets
sets_written [] = refl
sets_written (named ∷ sets) =
    ap (λ (t : List ℕ). set_text named.0 named.1 ++ t) (sets_written sets) ∙ sym (flat_map-append (λ line. line ++ 10 ∷ []) (set_lines named) (catalogue_lines sets))

module _ (slots : ℕ) (accounts : List Account) where
  prints : (n jobs : ℕ) (m : Marks) (sets : Sets) (texts : List Handed)
      → flat_map (λ e. printouts_text e.1.printouts) (threaded (audited_texts slots accounts) (numbered n jobs texts) m sets).printed
      ≡ concat (delivered slots accounts jobs m sets texts).printed
  prints n jobs m sets [] = refl
  prints n jobs m sets (text ∷ texts) =
      let here = text_played slots accounts jobs m sets text in
      ap (λ (t : List ℕ). printouts_text here.printouts ++ t) (prints (suc n) (jobs + jobs_in text.asked) here.marks here.after.scheduler.sets texts)

  leaves : (n jobs : ℕ) (m : Marks) (sets : Sets) (texts : List Handed)
      → (threaded (audited_texts slots accounts) (numbered n jobs texts) m sets).sets ≡ (delivered slots accounts jobs m sets texts).sets
  leaves n jobs m sets [] = refl
  leaves n jobs m sets (text ∷ texts) =
      let here = text_played slots accounts jobs m sets text in
      leaves (suc n) (jobs + jobs_in text.asked) here.marks here.after.scheduler.sets texts

pub joined_is_output : TextsRunInParts → EachItsPart → NeverRefused → CardByCard → DrainEmpties → AccountsStay → SlotsStay → JoinedIsOutput
joined_is_output texts_run_in_parts each_its_part never_refused card_by_card drain_empties accounts_stay slots_stay
    options head submissions table accounts sets handed told texts marks outputs audited run good are accepted room wrote =
    let slots = options.slots.number in
    let split = goes told in
    let whole = splits_are_lawful texts_run_in_parts slots accounts told texts handed sets are accepted room marks in
    let mine = threaded (audited_texts slots accounts) (numbered 0 0 handed) whole.all sets in
    let d = delivered slots accounts 0 whole.all sets handed in
    let printed =
    picked_texts (λ n m. n == m) numbers_decide (λ (n : ℕ) (t : Telling). printouts_text t.printouts) split.of_text (printed_in outputs)
    (λ k. (part slots accounts split handed sets marks k).printed) wrote.printed (places handed)
    ∙ ap (λ (l : List (ℕ × Telling)). flat_map (λ e. printouts_text e.1.printouts) l) whole.told ∙ prints slots accounts 0 0 whole.all sets handed in
    let left =
    picked_texts (pointwise nat_eq) names_decide set_text split.of_name (left_in outputs) (λ k. (part slots accounts split handed sets marks k).sets) wrote.left
    (names_behind accounts handed sets)
    ∙ ap (λ (l : Sets). flat_map (λ e. set_text e.0 e.1) l) (whole.sets_are ∙ leaves slots accounts 0 0 whole.all sets handed) ∙ sets_written d.sets in
    let told_all =
    picked_texts (λ n m. n == m) numbers_decide (λ (n : ℕ) (t : Telling). t.audit) split.of_text (printed_in audited)
    (λ k. (part slots accounts split handed sets marks k).printed) wrote.audited (places handed)
    ∙ ap (λ (l : List (ℕ × Telling)). flat_map (λ e. e.1.audit) l) whole.told in
    record {
      all = whole.all;
      output =
          ap₂ (λ (t s : List ℕ). t ++ (codes "$CATALOGUE 2\n" ++ s)) printed left
          ∙ sym (each_its_part options whole.all head submissions table accounts sets handed run good).output;
      audit =
          ap (λ (t : List ℕ). t ++ stopped_line) told_all
          ∙ sym (round_told never_refused card_by_card drain_empties accounts_stay slots_stay options whole.all head submissions table accounts sets handed run good);
    }
