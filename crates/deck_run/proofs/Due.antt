-- What is due when a read fails: a line that is longer than any may be is refused wherever it stands, and prints nothing;
-- so what comes of such a line behind bytes that were read is what is due for their whole lines.
use Rattle.std.proofs.Common.{◌≡◌, ℕ, zero, suc, ◌+◌, ◌<◌, ◌==◌, ◌&&◌, Bool, true, false, cond, if◌then◌else◌, not, List, [], ◌∷◌, ◌++◌, length, map, Option, Some, None, ◌⊎◌, inl, inr, take, drop, refl, sym, ap, ◌∙◌, arith, append_assoc, append-nil, length-append}
use borrow.Author.Tests.{ne_eqb}
use Rattle.std.specs.{List.{slice_split, onto_first}, Str.Lines.{lines, lines_of_parts, strip_carriage_return}, Option.{option_or}}
use Rattle.std.proofs.lemmas.List.{length-map, take-append-drop, Splits.{slice_split-cons_no, slice_split-cons_yes}, Folds.{list_all-append}}
use Rattle.mon_text.{specs.Lines.{is_blank_line, words}, specs.Feeding.{has_no_end}, proofs.Cutting.{last_line}, specs.Characters.{is_line_feed}}
use Rattle.mon_access.specs.declared.account.Account.{Account}
use Rattle.mon_catalogue.specs.Progress as progress
use Rattle.mon_catalogue.specs.{Progress.{Progress, step}, Sets.{Sets}}
use Rattle.deck_lines.specs.declared.deck_error.DeckError.{DeckError, TheVariants.{LineTooLong, Truncated}}
use Rattle.deck_lines.specs.Refusing.{line_refusal, is_dollar_line}
use Rattle.deck_syntax.specs.{declared.job.OpenJob.{OpenJob}, declared.request.Request.{Request}, Laws.{Decides}, inner.Parts.{version_in}}
use Rattle.deck_syntax.specs.{Decks.{Deck, Cards, Commands, Enters, Gives, Drains, Ending, Stopped, Refused}, Jobs.{job_line_refusal, ends_job, after_job_line}}
use Rattle.deck_syntax.specs.Requests.{opened, set_acl_of, with_line, list_line_refusal, stream_refusal, request_on}
use Rattle.deck_syntax.proofs.{Standing.{refusals_stand}, Shorthand.{goes_on, deck_goes_on}}
use Rattle.deck_syntax.specs.declared.request.Request.TheVariants as request
use Rattle.scheduler.specs.Marks.{Marks}
use Rattle.deck_syntax.specs.Sections.{Open, Closed, InList, InJob, asked_then, requested, stream_section, sets_of, ends_catalogue, catalogue_refusal, catalogue_section, accounts_refusal, table_after, accounts_section, opening_refusal, opening_section, deck_of}
use Rattle.mon_device.{specs.Devices.{holding}, proofs.Holding.{holding-nothing}, specs.Putting.{Standing, Puts}, proofs.Putting.{puts_same}}
use Rattle.deck_driver.specs.declared.{options.Counts.{Counts}, options.Options.{Options}, feed.DeckFeed.{DeckFeed}}
use Rattle.deck_driver.specs.{declared.section.Section.{Section}, declared.section.DeckState.{DeckState}, RunStates.{RunState, opening, all_counted}}
use Rattle.deck_driver.specs.{Printouts.{answer_to, output_of}, Abstraction.{outcome_from, audit_told}, inner.Counting.{lines_ended}}
use Rattle.deck_driver.specs.Feeds.{outcome, outcome_of, error_at, is_reading, concluded, sets_left, Outcome, Conclusion, Good, Bad, more as after}
use Rattle.deck_driver.specs.Audits.{told_to, told_from, audit_for}
use Rattle.deck_driver.proofs.{Verdicts.{verdict}, Following.{told_refused, too_long, list_too_long, long_refused, outcome_refused}}
use Rattle.deck_driver.specs.declared.section.DeckState.TheVariants as state
use Rattle.deck_run.{specs.Runs.{deck_ending, run_state_of, whole_lines, HasAnswered, HasPrinted, HasBrokenOff}, proofs.Running.{Opens, Tells}}
use Rattle.deck_run.specs.inner.Writing.{Held, Runs, Stands, BrokeAt}

-- ---- a deck that is refused prints the same wherever and for whatever that is

abbrev blunt_ending : Ending → Ending
blunt_ending Stopped = Stopped
blunt_ending (Refused n code) = Refused 0 Truncated

abbrev blunt_cards : Cards → Cards
blunt_cards c = record { asked = c.asked; ending = blunt_ending c.ending }

abbrev blunt : Deck → Deck
blunt d = record { accounts = d.accounts; catalogue = d.catalogue; cards = blunt_cards d.cards }

same_answer : (check : Bool) (slots : ℕ) (m : Marks) (d : Deck) → answer_to check 0 m (opening slots (blunt d)) ≡ answer_to check 0 m (opening slots d)
same_answer true slots m d = by d.cards.ending
  where
    by : (ending : Ending) → verdict (blunt_ending ending) ≡ verdict ending
    by Stopped = refl
    by (Refused n code) = refl
same_answer false slots m d = by d.cards.ending
  where
    ending_so : Ending → RunState
    ending_so ending = opening slots (record { accounts = d.accounts; catalogue = d.catalogue; cards = record { asked = d.cards.asked; ending = ending } })

    by : (ending : Ending) → answer_to false 0 m (ending_so (blunt_ending ending)) ≡ answer_to false 0 m (ending_so ending)
    by Stopped = refl
    by (Refused n code) = refl

-- and tells an audit the same
same_told : (check : Bool) (slots : ℕ) (m : Marks) (d : Deck) → told_to check 0 m (opening slots (blunt d)) ≡ told_to check 0 m (opening slots d)
same_told true slots m d = refl
same_told false slots m d = by d.cards.ending
  where
    ending_so : Ending → RunState
    ending_so ending = opening slots (record { accounts = d.accounts; catalogue = d.catalogue; cards = record { asked = d.cards.asked; ending = ending } })

    by : (ending : Ending) → told_to false 0 m (ending_so (blunt_ending ending)) ≡ told_to false 0 m (ending_so ending)
    by Stopped = refl
    by (Refused n code) = refl

goes_on_same : (r : Option DeckError) (n : ℕ) (c d : Cards) → blunt_cards c ≡ blunt_cards d → blunt_cards (goes_on r n c) ≡ blunt_cards (goes_on r n d)
goes_on_same None n c d same = same
goes_on_same (Some code) n c d same = refl

requested_same : (r : Request) (f g : Open → Cards) → ((pending : Open) → blunt_cards (f pending) ≡ blunt_cards (g pending)) → blunt_cards (requested r f) ≡ blunt_cards (requested r g)
requested_same request.Nothing f g same = same Closed
requested_same (request.Asks command) f g same = ap (asked_then (Commands command)) (same Closed)
requested_same (request.OpensList account name) f g same = same (InList (opened account name))
requested_same (request.OpensJob job) f g same = same (InJob job)
requested_same (request.Turns turn) f g same = ap (asked_then (Gives turn)) (same Closed)
requested_same request.Drains f g same = ap (asked_then Drains) (same Closed)
requested_same request.Stops f g same = refl

deck_goes_on_same : (r : Option DeckError) (n : ℕ) (accounts : List Account) (c d : Deck) → blunt c ≡ blunt d → blunt (deck_goes_on r n accounts c) ≡ blunt (deck_goes_on r n accounts d)
deck_goes_on_same None n accounts c d same = same
deck_goes_on_same (Some code) n accounts c d same = refl

either_cards : (b : Bool) (c d e f : Cards) → blunt_cards c ≡ blunt_cards d → blunt_cards e ≡ blunt_cards f → blunt_cards (if b then c else e) ≡ blunt_cards (if b then d else f)
either_cards true c d e f first second = first
either_cards false c d e f first second = second

either_deck : (b : Bool) (c d e f : Deck) → blunt c ≡ blunt d → blunt e ≡ blunt f → blunt (if b then c else e) ≡ blunt (if b then d else f)
either_deck true c d e f first second = first
either_deck false c d e f first second = second

-- ---- one more line that is too long

first_refused : (refusal later : Option DeckError) → refusal ≡ Some LineTooLong → option_or refusal later ≡ Some LineTooLong
first_refused refusal later e = ap (λ r. option_or r later) e

module _ (last : List ℕ) (long : 5000 < length last) where
  job_too_long : (job : OpenJob) → job_line_refusal job last ≡ Some LineTooLong
  job_too_long job = first_refused _ _ (too_long 200 last (omega arith) long)

  stream_same : (ls : List (List ℕ)) (n : ℕ) (pending : Open) → blunt_cards (stream_section n pending (ls ++ last ∷ [])) ≡ blunt_cards (stream_section n pending ls)
  stream_same [] n Closed =
      ap (λ r. blunt_cards (goes_on (option_or r (stream_refusal last)) n (requested (request_on last) (λ pending. stream_section (n + 1) pending [])))) (too_long 200 last (omega arith) long)
  stream_same [] n (InList list) =
      ap (λ r. blunt_cards (goes_on r n (if is_dollar_line last then asked_then (Commands (set_acl_of list)) (stream_section (n + 1) Closed []) else stream_section (n + 1) (InList (with_line list last)) []))) (list_too_long last long)
  stream_same [] n (InJob job) =
      ap (λ r. blunt_cards (goes_on r n (if ends_job last then asked_then (Enters job) (stream_section (n + 1) Closed []) else stream_section (n + 1) (InJob (after_job_line job last)) []))) (job_too_long job)
  stream_same (line ∷ ls) n Closed =
      goes_on_same (option_or (line_refusal 200 line) (stream_refusal line)) n _ _
      (requested_same (request_on line) (λ pending. stream_section (n + 1) pending (ls ++ last ∷ [])) (λ pending. stream_section (n + 1) pending ls) (λ pending. stream_same ls (n + 1) pending))
  stream_same (line ∷ ls) n (InList list) =
      goes_on_same (list_line_refusal line) n _ _
      (either_cards (is_dollar_line line) _ _ _ _ (ap (asked_then (Commands (set_acl_of list))) (stream_same ls (n + 1) Closed)) (stream_same ls (n + 1) (InList (with_line list line))))
  stream_same (line ∷ ls) n (InJob job) =
      goes_on_same (job_line_refusal job line) n _ _
      (either_cards (ends_job line) _ _ _ _ (ap (asked_then (Enters job)) (stream_same ls (n + 1) Closed)) (stream_same ls (n + 1) (InJob (after_job_line job line))))

  catalogue_same : (ls : List (List ℕ)) (n : ℕ) (accounts : List Account) (p : Progress) → blunt (catalogue_section n accounts p (ls ++ last ∷ [])) ≡ blunt (catalogue_section n accounts p ls)
  catalogue_same [] n accounts p =
      ap (λ r. blunt (deck_goes_on (option_or r (catalogue_refusal p last)) n accounts
      (if ends_catalogue p last then record { accounts = accounts; catalogue = sets_of p; cards = stream_section (n + 1) Closed [] } else catalogue_section (n + 1) accounts (step p last) [])))
      (too_long 5000 last (omega arith) long)
  catalogue_same (line ∷ ls) n accounts p =
      deck_goes_on_same (option_or (line_refusal 5000 line) (catalogue_refusal p line)) n accounts _ _
      (either_deck (ends_catalogue p line) _ _ _ _ (ap (λ (c : Cards). record { accounts = accounts; catalogue = sets_of p; cards = c }) (stream_same ls (n + 1) Closed)) (catalogue_same ls (n + 1) accounts (step p line)))

  accounts_same : (ls : List (List ℕ)) (n : ℕ) (accounts : List Account) → blunt (accounts_section n accounts (ls ++ last ∷ [])) ≡ blunt (accounts_section n accounts ls)
  accounts_same [] n accounts =
      ap (λ r. blunt (deck_goes_on (option_or r (accounts_refusal accounts last)) n accounts
      (if is_dollar_line last then catalogue_section (n + 1) accounts (progress.SetDue (version_in (words last)) 0 []) [] else accounts_section (n + 1) (table_after accounts last) [])))
      (too_long 200 last (omega arith) long)
  accounts_same (line ∷ ls) n accounts =
      deck_goes_on_same (option_or (line_refusal 200 line) (accounts_refusal accounts line)) n accounts _ _
      (either_deck (is_dollar_line line) _ _ _ _ (catalogue_same ls (n + 1) accounts (progress.SetDue (version_in (words line)) 0 [])) (accounts_same ls (n + 1) (table_after accounts line)))

  opening_same : (ls : List (List ℕ)) (n : ℕ) → blunt (opening_section n (ls ++ last ∷ [])) ≡ blunt (opening_section n ls)
  opening_same [] n =
      ap (λ r. blunt (deck_goes_on (option_or r (opening_refusal last)) n [] (if is_blank_line last then opening_section (n + 1) [] else accounts_section (n + 1) [] [])))
      (too_long 200 last (omega arith) long)
  opening_same (line ∷ ls) n =
      deck_goes_on_same (option_or (line_refusal 200 line) (opening_refusal line)) n [] _ _
      (either_deck (is_blank_line line) _ _ _ _ (opening_same ls (n + 1)) (accounts_same ls (n + 1) []))

  pub answer_same : (options : Options) (m : Marks) (ls : List (List ℕ))
      → (let before = opening options.slots.number (deck_of ls) in
      answer_to options.check 0 m (opening options.slots.number (deck_of (ls ++ last ∷ []))) ≡ answer_to options.check 0 m before)
  answer_same options m ls =
      let slots = options.slots.number in
      sym (same_answer options.check slots m (deck_of (ls ++ last ∷ [])))
      ∙ ap (λ (d : Deck). answer_to options.check 0 m (opening slots d)) (opening_same ls 1)
      ∙ same_answer options.check slots m (deck_of ls)

  pub told_same : (options : Options) (m : Marks) (ls : List (List ℕ))
      → (let before = opening options.slots.number (deck_of ls) in
      told_to options.check 0 m (opening options.slots.number (deck_of (ls ++ last ∷ []))) ≡ told_to options.check 0 m before)
  told_same options m ls =
      let slots = options.slots.number in
      sym (same_told options.check slots m (deck_of (ls ++ last ∷ [])))
      ∙ ap (λ (d : Deck). told_to options.check 0 m (opening slots d)) (opening_same ls 1)
      ∙ same_told options.check slots m (deck_of ls)

-- ---- bytes that make such a line behind any others

abbrev is_empty : List (List ℕ) → Bool
is_empty [] = true
is_empty (x ∷ xs) = false

-- the lines of bytes, but for what follows their last LF
record Parted (bytes more : List ℕ) : Type 0 where
  parts : List (List ℕ)
  last : List ℕ
  long : 5000 < length last
  all : slice_split is_line_feed (bytes ++ more) ≡ parts ++ last ∷ []
  whole : slice_split is_line_feed (whole_lines bytes) ≡ parts ++ [] ∷ []
  none : is_empty parts ≡ has_no_end bytes
  count : length parts ≡ lines_ended bytes

no_end_split : (bytes : List ℕ) → has_no_end bytes ≡ true → slice_split is_line_feed bytes ≡ bytes ∷ []
no_end_split [] inside = refl
no_end_split (c ∷ cs) inside = by (is_line_feed c) refl inside (no_end_split cs)
  where
    by : (b : Bool) → is_line_feed c ≡ b → (not (is_line_feed c) && has_no_end cs) ≡ true → (has_no_end cs ≡ true → slice_split is_line_feed cs ≡ cs ∷ []) → slice_split is_line_feed (c ∷ cs) ≡ (c ∷ cs) ∷ []
    by false e rest later = slice_split-cons_no is_line_feed c cs e ∙ ap (onto_first c) (later (ap (λ b. not b && has_no_end cs) (sym e) ∙ rest))
    by true e rest later = let no : false ≡ true = ap (λ b. not b && has_no_end cs) (sym e) ∙ rest in cc

no_part : (parts : List (List ℕ)) → is_empty parts ≡ true → parts ≡ []
no_part [] none = refl
no_part (p ∷ ps) none = cc

record SomeParts (parts : List (List ℕ)) : Type 0 where
  first : List ℕ
  others : List (List ℕ)
  are : parts ≡ first ∷ others

some_part : (parts : List (List ℕ)) → is_empty parts ≡ false → SomeParts parts
some_part [] some = cc
some_part (p ∷ ps) some = record { first = p; others = ps; are = refl }

parted : (bytes more : List ℕ) → has_no_end more ≡ true → 5000 < length more → Parted bytes more
parted [] more inside long = record { parts = []; last = more; long = long; all = no_end_split more inside; whole = refl; none = refl; count = refl }
parted (c ∷ cs) more inside long = by (is_line_feed c) refl (has_no_end cs) refl (parted cs more inside long)
  where
    kept : Bool → List ℕ
    kept b = if b then [] else c ∷ whole_lines cs

    by : (feed : Bool) → is_line_feed c ≡ feed → (open_end : Bool) → has_no_end cs ≡ open_end → Parted cs more → Parted (c ∷ cs) more
    by true feed open_end is p =
        let no : has_no_end (c ∷ cs) ≡ false = ap (λ b. not b && has_no_end cs) feed in
        record {
          parts = [] ∷ p.parts;
          last = p.last;
          long = p.long;
          all = slice_split-cons_yes is_line_feed c (cs ++ more) feed ∙ ap (λ ps. [] ∷ ps) p.all;
          whole = ap (λ b. slice_split is_line_feed (kept b)) no ∙ slice_split-cons_yes is_line_feed c (whole_lines cs) feed ∙ ap (λ ps. [] ∷ ps) p.whole;
          none = sym no;
          count = let one = ap (λ b. if b then lines_ended cs + 1 else lines_ended cs) feed in omega (arith, p.count, one);
        }
    by false feed true is p =
        let yes : has_no_end (c ∷ cs) ≡ true = ap (λ b. not b && has_no_end cs) feed ∙ is in
        let nothing = no_part p.parts (p.none ∙ is) in
        record {
          parts = [];
          last = c ∷ p.last;
          long = omega (arith, p.long);
          all = slice_split-cons_no is_line_feed c (cs ++ more) feed ∙ ap (onto_first c) (p.all ∙ ap (λ ps. ps ++ p.last ∷ []) nothing);
          whole = ap (λ b. slice_split is_line_feed (kept b)) yes;
          none = sym yes;
          count = let same = ap (λ b. if b then lines_ended cs + 1 else lines_ended cs) feed in omega (arith, p.count, ap length nothing, same);
        }
    by false feed false is p =
        let no : has_no_end (c ∷ cs) ≡ false = ap (λ b. not b && has_no_end cs) feed ∙ is in
        let some = some_part p.parts (p.none ∙ is) in
        record {
          parts = (c ∷ some.first) ∷ some.others;
          last = p.last;
          long = p.long;
          all = slice_split-cons_no is_line_feed c (cs ++ more) feed ∙ ap (onto_first c) (p.all ∙ ap (λ ps. ps ++ p.last ∷ []) some.are);
          whole =
              ap (λ b. slice_split is_line_feed (kept b)) no
              ∙ slice_split-cons_no is_line_feed c (whole_lines cs) feed
              ∙ ap (onto_first c) (p.whole ∙ ap (λ ps. ps ++ [] ∷ []) some.are);
          none = sym no;
          count = let same = ap (λ b. if b then lines_ended cs + 1 else lines_ended cs) feed in omega (arith, p.count, ap length some.are, same);
        }

lines_end : (parts : List (List ℕ)) (last : List ℕ) → lines_of_parts (parts ++ last ∷ []) ≡ map strip_carriage_return parts ++ (if length last == 0 then [] else last ∷ [])
lines_end [] last = refl
lines_end (p ∷ []) last = refl
lines_end (p ∷ q ∷ ps) last = ap (λ ls. strip_carriage_return p ∷ ls) (lines_end (q ∷ ps) last)

-- ---- how a deck comes out at such a line

bad_before : (counts : Counts) (c : Conclusion) (n : ℕ) (code : DeckError) → after counts c ≡ Bad n code → c ≡ Bad n code
bad_before counts (Good others sets) n code e = cc
bad_before counts (Bad m other) n code e = e

abbrev place_in : Conclusion → ℕ
place_in (Good counts sets) = 0
place_in (Bad n code) = n

-- what comes of one line
abbrev of_line : Options → ℕ → Marks → DeckState → ℕ → List ℕ → Outcome
of_line options jobs m s k line = outcome options jobs m s k (line ∷ [])

refused_at_line : (options : Options) (jobs : ℕ) (m : Marks) (section : Section) (k : ℕ) (line : List ℕ) → 5000 < length line → (of_line options jobs m (state.Reading section) k line).conclusion ≡ Bad k LineTooLong
refused_at_line options jobs m section k line over =
    ap (λ (o : Outcome). o.conclusion)
    (ap (outcome_of options.check jobs m) (long_refused options.slots.number section k line [] over) ∙ outcome_refused options.check options.slots.number jobs m section k LineTooLong)

refused_there : (options : Options) (jobs : ℕ) (m : Marks) (s : DeckState) (k : ℕ) (line : List ℕ) → 5000 < length line → error_at s ≡ None → (n : ℕ) (code : DeckError)
    → (of_line options jobs m s k line).conclusion ≡ Bad n code → (is_reading s ≡ true) × (n ≡ k)
refused_there options jobs m (state.Reading section) k line over sound n code bad = (refl, ap place_in (sym bad ∙ refused_at_line options jobs m section k line over))
refused_there options jobs m (state.Stopped w) k line over sound n code bad = cc
refused_there options jobs m (state.Refused i other) k line over sound n code bad = cc
refused_there options jobs m state.NoMemory k line over sound n code bad = cc

never_good : (options : Options) (jobs : ℕ) (m : Marks) (s : DeckState) (k : ℕ) (line : List ℕ) → 5000 < length line → is_reading s ≡ true → (counts others : Counts) (sets : Sets)
    → after counts (of_line options jobs m s k line).conclusion ≡ Good others sets → ⊥
never_good options jobs m (state.Reading section) k line over reading counts others sets good =
    let never : Bad k LineTooLong ≡ Good others sets = sym (ap (after counts) (refused_at_line options jobs m section k line over)) ∙ good in cc
never_good options jobs m (state.Stopped w) k line over reading counts others sets good = cc
never_good options jobs m (state.Refused i code) k line over reading counts others sets good = cc
never_good options jobs m state.NoMemory k line over reading counts others sets good = cc

was_stopped : (e : Ending) → blunt_ending e ≡ Stopped → e ≡ Stopped
was_stopped Stopped same = refl
was_stopped (Refused n code) same = cc

-- ---- what is due

module _ (more : List ℕ) (inside : has_no_end more ≡ true) (long : 5000 < length more) where
  -- behind any bytes there is one line more than their whole lines
  pub one_line_more : (bytes : List ℕ) → (last : List ℕ) × (5000 < length last) × (lines (bytes ++ more) ≡ lines (whole_lines bytes) ++ last ∷ []) × (length (lines (whole_lines bytes)) ≡ lines_ended bytes)
  one_line_more bytes =
      let p = parted bytes more inside long in
      let full : (length p.last == 0) ≡ false = ne_eqb (length p.last) 0 (omega (arith, p.long)) in
      let whole : map strip_carriage_return p.parts ≡ lines (whole_lines bytes) =
      sym (append-nil (map strip_carriage_return p.parts)) ∙ sym (lines_end p.parts []) ∙ ap lines_of_parts (sym p.whole) in (
        p.last,
        p.long,
        ap lines_of_parts p.all
            ∙ lines_end p.parts p.last
            ∙ ap (λ b. map strip_carriage_return p.parts ++ (if b then [] else p.last ∷ [])) full
            ∙ ap (λ ls. ls ++ p.last ∷ []) whole,
        omega (arith, ap length whole, length-map p.parts strip_carriage_return, p.count),
      )

  -- and a feed prints nothing of it
  silent_line : (options : Options) (jobs : ℕ) (m : Marks) (s : DeckState) (n : ℕ) (line : List ℕ) → 5000 < length line → (of_line options jobs m s n line).written ≡ []
  silent_line options jobs m (state.Reading section) n line over =
      ap (λ (o : Outcome). o.written)
      (ap (outcome_of options.check jobs m) (long_refused options.slots.number section n line [] over) ∙ outcome_refused options.check options.slots.number jobs m section n LineTooLong)
  silent_line options jobs m (state.Stopped w) n line over = refl
  silent_line options jobs m (state.Refused i code) n line over = refl
  silent_line options jobs m state.NoMemory n line over = refl

  -- and tells nothing
  untold_line : (options : Options) (jobs : ℕ) (m : Marks) (s : DeckState) (n : ℕ) (line : List ℕ) → 5000 < length line → told_from options jobs m s n (line ∷ []) ≡ []
  untold_line options jobs m (state.Reading section) n line over =
      ap (told_to options.check jobs m) (long_refused options.slots.number section n line [] over) ∙ told_refused options.check options.slots.number jobs m section n LineTooLong
  untold_line options jobs m (state.Stopped w) n line over = refl
  untold_line options jobs m (state.Refused i code) n line over = refl
  untold_line options jobs m state.NoMemory n line over = refl

  -- the line that a feed has then
  one_last : (f : DeckFeed) → lines (f.line ++ more) ≡ (f.line ++ more) ∷ []
  one_last f =
      let line = f.line ++ more in
      let full : (length line == 0) ≡ false = ne_eqb (length line) 0 (omega (arith, long, length-append f.line more)) in
      last_line line (list_all-append (λ b. not (is_line_feed b)) f.line more ∙ ap (λ b. b && has_no_end more) f.unended ∙ inside) ∙ ap (λ b. cond b [] (line ∷ [])) full

  too_many : (f : DeckFeed) → 5000 < length (f.line ++ more)
  too_many f = omega (arith, long, length-append f.line more)

  silent : (m : Marks) (f : DeckFeed) → (outcome_from m f more).written ≡ []
  silent m f =
      ap (λ ls. (outcome f.options f.counts.jobs m f.state (f.lines_taken + 1) ls).written) (one_last f)
      ∙ silent_line f.options f.counts.jobs m f.state (f.lines_taken + 1) (f.line ++ more) (too_many f)

  pub untold : (m : Marks) (f : DeckFeed) → audit_told m f more ≡ []
  untold m f =
      ap (told_from f.options f.counts.jobs m f.state (f.lines_taken + 1)) (one_last f)
      ∙ untold_line f.options f.counts.jobs m f.state (f.lines_taken + 1) (f.line ++ more) (too_many f)

  -- how it comes out
  last_conclusion : (m : Marks) (f : DeckFeed) → (outcome_from m f more).conclusion ≡ after f.counts (of_line f.options f.counts.jobs m f.state (f.lines_taken + 1) (f.line ++ more)).conclusion
  last_conclusion m f = ap (λ ls. after f.counts (outcome f.options f.counts.jobs m f.state (f.lines_taken + 1) ls).conclusion) (one_last f)

  module _ (options : Options) (held now : Option (List ℕ)) (start f : DeckFeed) (given : List ℕ) (a b : Standing) (begin : Opens options start) (tells : Tells options start)
      (stands : Stands held now [] start f given a b) where
    abbrev whole : List (List ℕ)
    whole = lines (whole_lines given)

    abbrev longer : Deck
    longer = deck_of (lines (given ++ more))

    -- the marks of the turns so far
    abbrev so_far : Marks
    so_far = stands.served.marks ++ []

    abbrev concluded_so : Ending → Conclusion
    concluded_so ending = concluded (all_counted longer.cards.asked) (sets_left options.check 0 so_far (run_state_of options (given ++ more))) ending

    printed : now ≡ holding held (output_of options so_far (whole_lines given))
    printed =
        let one = one_line_more given in
        sym (holding-nothing now)
        ∙ ap (holding now) (sym (silent [] f))
        ∙ ap (λ (h : Held). h.bytes) (stands.served.is [] more)
        ∙ ap (λ (o : Outcome). holding held o.written) (begin so_far (given ++ more))
        ∙ ap (λ ls. holding held (answer_to options.check 0 so_far (opening options.slots.number (deck_of ls)))) one.2
        ∙ ap (holding held) (answer_same one.0 one.1 options so_far whole)

    put : Puts a b (audit_for options so_far (whole_lines given))
    put =
        let one = one_line_more given in
        puts_same a b stands.served.audit (audit_for options so_far (whole_lines given))
        (sym (append-nil stands.served.audit)
        ∙ ap (λ (l : List ℕ). stands.served.audit ++ l) (sym (untold [] f))
        ∙ sym (stands.served.tells [] more)
        ∙ tells so_far (given ++ more)
        ∙ ap (λ ls. told_to options.check 0 so_far (opening options.slots.number (deck_of ls))) one.2
        ∙ told_same one.0 one.1 options so_far whole)
        stands.served.audited

    comes_out : (outcome_from [] f more).conclusion ≡ concluded_so longer.cards.ending
    comes_out = ap (λ (h : Held). h.conclusion) (stands.served.is [] more) ∙ ap (λ (o : Outcome). o.conclusion) (begin so_far (given ++ more))

    -- a line that was read whole was not refused
    never_refused : (n : ℕ) (code : DeckError) → deck_ending (whole_lines given) ≡ Refused n code → Decides n whole → ⊥
    never_refused n code refused decides =
        let one = one_line_more given in
        let apart : whole ++ one.0 ∷ [] ≡ take n whole ++ (drop n whole ++ one.0 ∷ []) =
        ap (λ ls. ls ++ one.0 ∷ []) (sym (take-append-drop n whole)) ∙ append_assoc (take n whole) (drop n whole) (one.0 ∷ []) in
        let same : longer ≡ deck_of whole = ap deck_of (one.2 ∙ apart) ∙ decides.whatever_follows (drop n whole ++ one.0 ∷ []) in
        let bad : (outcome_from [] f more).conclusion ≡ Bad n code = comes_out ∙ ap concluded_so (ap (λ (d : Deck). d.cards.ending) same ∙ refused) in
        let at = refused_there f.options f.counts.jobs [] f.state (f.lines_taken + 1) (f.line ++ more) (too_many f) stands.sound n code
        (bad_before f.counts _ n code (sym (last_conclusion [] f) ∙ bad)) in
        let count = (stands.counted at.0).1 in
        absurd (omega (arith, count, at.1, decides.within, one.3))

    answered : HasAnswered options held now given a b
    answered = record { written = (so_far, printed, put); unrefused = λ n code refused. by n code refused (refusals_stand whole n code refused) }
      where
        by : (n : ℕ) (code : DeckError) → deck_ending (whole_lines given) ≡ Refused n code → Decides n whole ⊎ ((n ≡ length whole + 1) × (code ≡ Truncated)) → code ≡ Truncated
        by n code refused (inl decides) = absurd (never_refused n code refused decides)
        by n code refused (inr last) = last.1

    -- where a deck is still read, its `$STOP` was not
    not_stopped : is_reading f.state ≡ true → deck_ending (whole_lines given) ≡ Stopped → ⊥
    not_stopped reading stopped =
        let one = one_line_more given in
        let blunt_same : blunt_ending longer.cards.ending ≡ Stopped =
        ap (λ ls. blunt_ending (deck_of ls).cards.ending) one.2 ∙ ap (λ (d : Deck). d.cards.ending) (opening_same one.0 one.1 whole 1) ∙ ap blunt_ending stopped in
        let good : (outcome_from [] f more).conclusion ≡ concluded_so Stopped = comes_out ∙ ap concluded_so (was_stopped longer.cards.ending blunt_same) in
        never_good f.options f.counts.jobs [] f.state (f.lines_taken + 1) (f.line ++ more) (too_many f) reading f.counts _ _ (sym (last_conclusion [] f) ∙ good)

pub long_bytes : (n : ℕ) → (bytes : List ℕ) × (length bytes ≡ n) × (has_no_end bytes ≡ true)
long_bytes zero = ([], refl, refl)
long_bytes (suc n) = let rest = long_bytes n in (120 ∷ rest.0, omega (arith, rest.1), rest.2)

module _ (options : Options) (given_by left held now : Option (List ℕ)) (start : DeckFeed) (given : List ℕ) (a b : Standing) (begin : Opens options start) (tells : Tells options start) where
  pub due : (f : DeckFeed) → Runs given_by left held now start f given a b → HasPrinted options given_by left held now a b
  due f runs =
      let bytes = long_bytes 5001 in
      (given, runs.so_far.gives, answered bytes.0 bytes.2 (omega (arith, bytes.1)) options held now start f given a b begin tells runs.stands)

  pub broken_off : (line : ℕ) → BrokeAt given_by left held now start given 1 line a b → HasBrokenOff options line given_by left held now a b
  broken_off line at =
      let bytes = long_bytes 5001 in
      let x = at.run.broke in
      let long : 5000 < length bytes.0 = omega (arith, bytes.1) in
      let one = one_line_more bytes.0 bytes.2 long x.front in (
        given,
        x.front,
        x.back,
        at.run.gives,
        x.are,
        at.run.last,
        (x.mid, answered bytes.0 bytes.2 long options held now start x.feed x.front a x.mid begin tells x.stands, x.more, x.ahead),
        not_stopped bytes.0 bytes.2 long options held now start x.feed x.front a x.mid begin tells x.stands x.reading,
        omega (arith, at.line_is, one.3),
      )
