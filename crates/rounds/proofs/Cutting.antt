-- The output of a round, cut where the printouts of its texts end.
use Rattle.std.proofs.Common.{◌≡◌, ℕ, ◌+◌, ◌-◌, false, List, [], ◌∷◌, ◌++◌, length, take, drop, flat_map, refl, sym, ap, ap₂, ◌∙◌, arith, append_assoc, append-nil, length-append, take_at, drop_at}
use Rattle.std.specs.{Prelude.{codes}, List.{concat}, Str.Lines.{lines}}
use Rattle.mon_access.specs.declared.account.Account.{Account}
use Rattle.mon_catalogue.specs.{Sets.{Sets}, Text.{text_of}}
use Rattle.scheduler.specs.Marks.{Marks}
use Rattle.mon_monitor.specs.{Printouts.{printouts_text}, Laws.{CardByCard, DrainEmpties, AccountsStay, SlotsStay}}
use Rattle.deck_syntax.specs.{Decks.{Stopped}, Sections.{deck_of}}
use Rattle.deck_driver.specs.{declared.options.Options.{Options}, RunStates.{sets_after}, Printouts.{closing, output_of}}
use Rattle.deck_run.specs.Runs.{run_state_of}
use Rattle.preflight.specs.{declared.submission.Submission.{Submission}, Rounds.{Handed, AreHanded, round_lines, round_deck}, Laws.{NeverRefused}}
use Rattle.rounds.specs.{Delivery.{delivered}, Compositions.{with_fence, round_text, AreAdmitted, IsGoodRound, ends_of, cut_at}, Laws.{EachItsPart}}
use Rattle.rounds.proofs.Heads.{head_lines, front_lines, head_is, stop_behind, text_behind, text_both, cut_deck, front_reads}
use Rattle.rounds.proofs.Reaching.{Place, Reached, served_at, next, start, handed_both, reached_none, reached_more, cut_output, whole_output}

-- where parts end that stand one after the other, from this place on
abbrev pub offsets : ℕ → List (List ℕ) → List ℕ
offsets n [] = []
offsets n (part ∷ parts) = (n + length part) ∷ offsets (n + length part) parts

pub cut_all : (before : List ℕ) (parts : List (List ℕ)) (last : List ℕ)
    → cut_at (length before) (offsets (length before) parts) (before ++ (concat parts ++ last)) ≡ parts ++ last ∷ []
cut_all before [] last = ap (λ (t : List ℕ). t ∷ []) (drop_at before last (length before) refl)
cut_all before (part ∷ parts) last =
    let rest = concat parts ++ last in
    let whole : before ++ ((part ++ concat parts) ++ last) ≡ before ++ (part ++ rest) = ap (λ (t : List ℕ). before ++ t) (append_assoc part (concat parts) last) in
    let long : length (before ++ part) ≡ length before + length part = length-append before part in
    let width : length before + length part - length before ≡ length part = omega arith in
    let here : take (length before + length part - length before) (drop (length before) (before ++ ((part ++ concat parts) ++ last))) ≡ part =
    ap₂ (λ (n : ℕ) (t : List ℕ). take n (drop (length before) t)) width whole
    ∙ ap (λ (t : List ℕ). take (length part) t) (drop_at before (part ++ rest) (length before) refl)
    ∙ take_at part rest (length part) refl in
    let later : cut_at (length before + length part) (offsets (length before + length part) parts) (before ++ ((part ++ concat parts) ++ last)) ≡ parts ++ last ∷ [] =
    ap₂ (λ (n : ℕ) (t : List ℕ). cut_at n (offsets n parts) t) (sym long) (whole ∙ sym (append_assoc before part rest))
    ∙ cut_all (before ++ part) parts last in
    ap₂ (λ (t : List ℕ) (ts : List (List ℕ)). t ∷ ts) here later

module _ (never_refused : NeverRefused) (card_by_card : CardByCard) (drain_empties : DrainEmpties) (accounts_stay : AccountsStay) (slots_stay : SlotsStay)
    (options : Options) (m : Marks) (run : options.check ≡ false) (table : List (List ℕ)) (accounts : List Account) (sets : Sets) where
  abbrev slots : ℕ
  slots = options.slots.number

  -- what the round still prints behind some texts
  pub record Parted (front : List ℕ) (submissions : List Submission) (texts : List Handed) (at : Place) (before : List ℕ) : Type 0 where
    pub ends : ends_of options m front submissions ≡ offsets (length before) (delivered slots accounts at.jobs at.marks at.sets texts).printed
    pub output : output_of options m (round_text front submissions)
        ≡ before ++ (concat (delivered slots accounts at.jobs at.marks at.sets texts).printed ++ closing (delivered slots accounts at.jobs at.marks at.sets texts).sets Stopped)
    pub left : sets_after 0 m (run_state_of options (round_text front submissions)) ≡ (delivered slots accounts at.jobs at.marks at.sets texts).sets

  module _ (good : IsGoodRound (text_of (front_lines table sets [])) [] table accounts sets []) where
    parted : (submissions : List Submission) (texts : List Handed) → AreAdmitted submissions texts
        → (done : List Handed) (at : Place) (before front : List ℕ) → AreHanded done → front ≡ text_of (front_lines table sets done)
        → Reached slots accounts m sets done at before → Parted front submissions texts at before
    parted [] [] are done at before front handed is so_far =
        let bytes : round_text front [] ≡ text_of (round_lines table sets done) =
        ap (λ (t : List ℕ). t ++ codes "$STOP\n") (append-nil front ∙ is) ∙ sym (text_both (front_lines table sets done) (codes "$STOP" ∷ []))
        ∙ ap (λ (ls : List (List ℕ)). text_of ls) (stop_behind table sets done) in
        let never = never_refused table accounts sets done good.begins.table_is good.begins.names_differ good.begins.stored good.begins.printable handed in
        let deck : deck_of (lines (round_text front [])) ≡ round_deck accounts sets done =
        ap (λ (t : List ℕ). deck_of (lines t)) bytes ∙ ap deck_of never.2 ∙ never.1 in
        let all = whole_output slots accounts m sets card_by_card drain_empties accounts_stay slots_stay options done at before (round_text front []) run refl deck so_far in
        record { ends = refl; output = all.0; left = all.1 }
    parted [] (text ∷ texts) are done at before front handed is so_far = absurd are
    parted (submission ∷ submissions) [] are done at before front handed is so_far = absurd are
    parted (submission ∷ submissions) (text ∷ texts) (text_is, admitted, are) done at before front handed is so_far =
        let here = served_at slots accounts m sets at text in
        let part = printouts_text here.printouts in
        let both = handed_both done text handed admitted in
        let reached = reached_more slots accounts m sets card_by_card drain_empties accounts_stay slots_stay done text at before so_far in
        let front' = front ++ with_fence submission in
        let is' : front' ≡ text_of (front_lines table sets (done ++ text ∷ [])) =
        ap₂ (λ (f t : List ℕ). f ++ (t ++ codes "$DRAIN\n")) is text_is ∙ sym (text_behind table sets done text) in
        let cut = cut_deck table accounts sets good.begins.table_is good.begins.names_differ good.begins.stored good.begins.printable (done ++ text ∷ []) both in
        let reads = front_reads table accounts sets good.begins.table_is good.begins.names_differ good.begins.stored good.begins.printable (done ++ text ∷ []) both in
        let output : output_of options m front' ≡ before ++ part =
        cut_output slots accounts m sets card_by_card drain_empties accounts_stay slots_stay options (done ++ text ∷ []) (next slots accounts m sets at text) (before ++ part) front' cut.0 run refl
        (ap (λ (t : List ℕ). deck_of (lines t)) is' ∙ ap deck_of reads ∙ cut.1) reached in
        let later = parted submissions texts are (done ++ text ∷ []) (next slots accounts m sets at text) (before ++ part) front' both is' reached in
        let d = delivered slots accounts (next slots accounts m sets at text).jobs (next slots accounts m sets at text).marks (next slots accounts m sets at text).sets texts in
        let long : length (output_of options m front') ≡ length before + length part = ap length output ∙ length-append before part in
        let bytes : round_text front (submission ∷ submissions) ≡ round_text front' submissions =
        ap (λ (t : List ℕ). t ++ codes "$STOP\n") (sym (append_assoc front (with_fence submission) (flat_map with_fence submissions))) in record {
          ends =
              ap₂ (λ (n : ℕ) (ns : List ℕ). n ∷ ns) long (later.ends ∙ ap (λ (n : ℕ). offsets n d.printed) (length-append before part));
          output =
              ap (λ (t : List ℕ). output_of options m t) bytes ∙ later.output
              ∙ append_assoc before part (concat d.printed ++ closing d.sets Stopped)
              ∙ ap (λ (t : List ℕ). before ++ t) (sym (append_assoc part (concat d.printed) (closing d.sets Stopped)));
          left = ap (λ (t : List ℕ). sets_after 0 m (run_state_of options t)) bytes ∙ later.left;
        }

pub each_its_part : NeverRefused → CardByCard → DrainEmpties → AccountsStay → SlotsStay → EachItsPart
each_its_part never_refused card_by_card drain_empties accounts_stay slots_stay options m head submissions table accounts sets texts run good =
    let alone : IsGoodRound (text_of (front_lines table sets [])) [] table accounts sets [] = record {
      begins = record {
        head_is = ap (λ (ls : List (List ℕ)). text_of ls) (append-nil (head_lines table sets)) ∙ sym (head_is table sets);
        table_is = good.begins.table_is;
        names_differ = good.begins.names_differ;
        stored = good.begins.stored;
        printable = good.begins.printable;
      };
      texts_are = tt;
    } in
    let slots = options.slots.number in
    let d = delivered slots accounts 0 m sets texts in
    let front : head ≡ text_of (front_lines table sets []) = good.begins.head_is ∙ head_is table sets ∙ ap (λ (ls : List (List ℕ)). text_of ls) (sym (append-nil (head_lines table sets))) in
    let all =
    parted never_refused card_by_card drain_empties accounts_stay slots_stay options m run table accounts sets alone submissions texts good.texts_are [] (start slots accounts m sets) [] head tt front
    (reached_none slots accounts m sets) in record {
      output = all.output;
      parts =
          ap₂ (λ (ends : List ℕ) (t : List ℕ). cut_at 0 ends t) all.ends all.output ∙ cut_all [] d.printed (closing d.sets Stopped);
      left = all.left;
    }
