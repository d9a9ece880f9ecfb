-- A round in parts: its texts are those that run one after the other, by their numbers.
use Rattle.std.proofs.Common.{◌≡◌, ℕ, zero, suc, ◌+◌, ◌<◌, nat_eq, false, List, [], ◌∷◌, map, refl, sym, ap, ◌∙◌, arith}
use Rattle.std.specs.{Prelude.{◌==◌}, List.{AllByRecursion, IsDistinct}}
use Rattle.std.proofs.lemmas.{Bool.Decides.{nat_tests}, Map.Keys.{IsDistinct-cons, IsDistinct-from_apart}}
use Rattle.mon_access.specs.declared.account.Account.{Account}
use Rattle.mon_catalogue.specs.{declared.data_set.DataSet.{DataSet}, Sets.{Sets}}
use Rattle.scheduler.specs.Marks.{Marks}
use Rattle.mon_monitor.specs.Printouts.{Printout, printouts_text}
use Rattle.deck_run.specs.Laws.{jobs_in}
use Rattle.preflight.specs.Rounds.{Handed}
use Rattle.parts_laws.specs.{Runs.{Ran, numbers}, Threads.{threaded}}
use Rattle.frame_laws.specs.{Texts.{texts_of}, Laws.{TextsRunInParts}}
use Rattle.rounds.specs.{Delivery.{text_played, delivered}, InParts.{numbered, RoundsRunInParts}}

behind : (k n jobs : ℕ) (texts : List Handed) → k < n → AllByRecursion (λ l. (k == l) ≡ false) (numbers (numbered n jobs texts))
behind k n jobs [] less = tt
behind k n jobs (text ∷ texts) less = (grind (arith, nat_tests, less), behind k (suc n) (jobs + jobs_in text.asked) texts (omega (arith, less)))

differ : (n jobs : ℕ) (texts : List Handed) → IsDistinct (λ n m. n == m) (numbers (numbered n jobs texts))
differ n jobs [] = IsDistinct-from_apart (λ n m. n == m) [] (λ i j d lt le. absurd (omega (arith, lt, le)))
differ n jobs (text ∷ texts) =
    IsDistinct-cons (λ n m. n == m) n (numbers (numbered (suc n) (jobs + jobs_in text.asked) texts)) (behind n (suc n) (jobs + jobs_in text.asked) texts (omega arith))
    (differ (suc n) (jobs + jobs_in text.asked) texts)

module _ (slots : ℕ) (accounts : List Account) where
  abbrev told : Ran (List ℕ) DataSet (List Printout) → List (List ℕ)
  told r = map (λ e. printouts_text e.1) r.printed

  prints : (n jobs : ℕ) (m : Marks) (sets : Sets) (texts : List Handed)
      → told (threaded (texts_of slots accounts) (numbered n jobs texts) m sets) ≡ (delivered slots accounts jobs m sets texts).printed
  prints n jobs m sets [] = refl
  prints n jobs m sets (text ∷ texts) =
      let here = text_played slots accounts jobs m sets text in
      ap (λ (l : List (List ℕ)). printouts_text here.printouts ∷ l) (prints (suc n) (jobs + jobs_in text.asked) here.marks here.after.scheduler.sets texts)

  leaves : (n jobs : ℕ) (m : Marks) (sets : Sets) (texts : List Handed)
      → (threaded (texts_of slots accounts) (numbered n jobs texts) m sets).sets ≡ (delivered slots accounts jobs m sets texts).sets
  leaves n jobs m sets [] = refl
  leaves n jobs m sets (text ∷ texts) =
      let here = text_played slots accounts jobs m sets text in
      leaves (suc n) (jobs + jobs_in text.asked) here.marks here.after.scheduler.sets texts

pub rounds_run_in_parts : TextsRunInParts → RoundsRunInParts
rounds_run_in_parts texts_run_in_parts slots accounts split texts sets go ready marks =
    let all = texts_run_in_parts slots accounts split (numbered 0 0 texts) sets go ready (differ 0 0 texts) marks in
    record {
      all = all.all;
      printed = ap (map (λ e. printouts_text e.1)) all.printed ∙ prints slots accounts 0 0 all.all sets texts;
      sets_are = all.sets_are ∙ leaves slots accounts 0 0 all.all sets texts;
    }
