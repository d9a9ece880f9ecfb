-- A deck that is refused at a line is so whatever follows that line.
use Rattle.std.proofs.Common.{◌≡◌, ℕ, suc, ◌+◌, ◌<◌, ◌⊎◌, inl, inr, Bool, true, false, if◌then◌else◌, List, [], ◌∷◌, ◌++◌, length, take, Option, None, Some, refl, sym, ap, subst, ◌∙◌, arith}
use Rattle.mon_text.specs.Lines.{is_blank_line, words}
use Rattle.mon_access.specs.declared.account.Account.{Account}
use Rattle.mon_catalogue.specs.Progress as progress
use Rattle.mon_catalogue.specs.Progress.{Progress, step}
use Rattle.deck_lines.specs.declared.deck_error.DeckError.{DeckError, TheVariants.{Truncated}}
use Rattle.deck_lines.specs.Refusing.{line_refusal, is_dollar_line}
use Rattle.deck_syntax.specs.{declared.request.Request.{Request}, Decks.{Deck, Cards, Commands, Enters, Gives, Drains, Stopped, Refused}, Spelling.{IsDeck}}
use Rattle.deck_syntax.specs.{Jobs.{job_line_refusal, ends_job, after_job_line}, inner.Parts.{version_in}, Laws.{ending_of, Decides}}
use Rattle.deck_syntax.specs.Requests.{opened, with_line, set_acl_of, stream_refusal, request_on, list_line_refusal}
use Rattle.deck_syntax.proofs.{Complete.{deck_taken}, Shorthand.{goes_on, deck_goes_on}}
use Rattle.deck_syntax.specs.declared.request.Request.TheVariants as request
use Rattle.deck_syntax.specs.Sections.{opening_refusal, accounts_refusal, table_after, sets_of, ends_catalogue, catalogue_refusal, Open, Closed, InList, InJob, asked_then, requested, refused_on_line, stream_section, refused_early, catalogue_section, accounts_section, opening_section, deck_of}
use Rattle.std.specs.Option.{option_or}

-- what lines say from number n on, refused at line k: by a line that is there, or behind the last one
abbrev Stands : {X : Type 0} → (List (List ℕ) → X) → ℕ → List (List ℕ) → ℕ → DeckError → Type 0
Stands says n lines k code =
    ((i : ℕ) × (k ≡ n + i) × (i < length lines) × ((more : List (List ℕ)) → says (take (suc i) lines ++ more) ≡ says lines))
    ⊎ ((k ≡ n + length lines) × (code ≡ Truncated))

module _ {X : Type 0} (n k : ℕ) (code : DeckError) where
  -- at the first of these lines
  at_first : (says : List (List ℕ) → X) (line : List ℕ) (lines : List (List ℕ)) (x : X) → k ≡ n → ((ls : List (List ℕ)) → says (line ∷ ls) ≡ x) → Stands says n (line ∷ lines) k code
  at_first says line lines x same is = inl (0, omega (arith, same), omega arith, λ more. is more ∙ sym (is lines))

  -- behind the first of them
  further : {Y : Type 0} (later : List (List ℕ) → Y) (says : List (List ℕ) → X) (line : List ℕ) (lines : List (List ℕ)) (put : Y → X)
      → ((ls : List (List ℕ)) → says (line ∷ ls) ≡ put (later ls)) → Stands later (n + 1) lines k code → Stands says n (line ∷ lines) k code
  further later says line lines put is (inl (i, place, within, stands)) =
      inl (suc i, omega (arith, place), omega (arith, within), λ more. is (take (suc i) lines ++ more) ∙ ap put (stands more) ∙ sym (is lines))
  further later says line lines put is (inr (place, early)) = inr (omega (arith, place), early)

  -- behind the last
  at_end : (says : List (List ℕ) → X) → k ≡ n → code ≡ Truncated → Stands says n [] k code
  at_end says same early = inr (omega (arith, same), early)

pub place_of : (n k : ℕ) (c code : DeckError) → Refused n c ≡ Refused k code → k ≡ n
place_of n k c code same = cc

code_of : (n k : ℕ) (c code : DeckError) → Refused n c ≡ Refused k code → code ≡ c
code_of n k c code same = cc

pub unasked : {A : Type 0} (k : ℕ) (code : DeckError) → Stopped ≡ Refused k code → A
unasked k code same = cc

-- ---- the stream

module _ (k : ℕ) (code : DeckError) where
  abbrev StreamStands : ℕ → Open → List (List ℕ) → Type 0
  StreamStands n pending lines = Stands (λ ls. stream_section n pending ls) n lines k code

  stream_stands : (lines : List (List ℕ)) (n : ℕ) (pending : Open) → (stream_section n pending lines).ending ≡ Refused k code → StreamStands n pending lines
  stream_stands [] n Closed is = at_end n k code (λ ls. stream_section n Closed ls) (place_of n k Truncated code is) (code_of n k Truncated code is)
  stream_stands [] n (InList list) is = at_end n k code (λ ls. stream_section n (InList list) ls) (place_of n k Truncated code is) (code_of n k Truncated code is)
  stream_stands [] n (InJob job) is = at_end n k code (λ ls. stream_section n (InJob job) ls) (place_of n k Truncated code is) (code_of n k Truncated code is)
  stream_stands (line ∷ lines) n Closed is =
      by (option_or (line_refusal 200 line) (stream_refusal line)) refl is (λ pending. stream_stands lines (n + 1) pending)
    where
      Later : Type 0
      Later = (pending : Open) → (stream_section (n + 1) pending lines).ending ≡ Refused k code → StreamStands (n + 1) pending lines

      rest : Request → List (List ℕ) → Cards
      rest request ls = requested request (λ pending. stream_section (n + 1) pending ls)

      -- what the line asks for, and what is then open
      on : (pending : Open) (put : Cards → Cards) (request : Request) → option_or (line_refusal 200 line) (stream_refusal line) ≡ None → request_on line ≡ request
          → ((ls : List (List ℕ)) → rest request ls ≡ put (stream_section (n + 1) pending ls)) → StreamStands (n + 1) pending lines → StreamStands n Closed (line ∷ lines)
      on pending put request e r is stands =
          further n k code (λ ls. stream_section (n + 1) pending ls) (λ ls. stream_section n Closed ls) line lines put
          (λ ls. ap (λ o. goes_on o n (rest (request_on line) ls)) e ∙ ap (λ q. rest q ls) r ∙ is ls) stands

      asked : (request : Request) → option_or (line_refusal 200 line) (stream_refusal line) ≡ None → request_on line ≡ request → (rest request lines).ending ≡ Refused k code → Later
          → StreamStands n Closed (line ∷ lines)
      asked request.Nothing e r is later = on Closed (λ c. c) request.Nothing e r (λ ls. refl) (later Closed is)
      asked (request.Asks command) e r is later = on Closed (asked_then (Commands command)) (request.Asks command) e r (λ ls. refl) (later Closed is)
      asked (request.OpensList account name) e r is later =
          on (InList (opened account name)) (λ c. c) (request.OpensList account name) e r (λ ls. refl) (later (InList (opened account name)) is)
      asked (request.OpensJob job) e r is later = on (InJob job) (λ c. c) (request.OpensJob job) e r (λ ls. refl) (later (InJob job) is)
      asked (request.Turns turn) e r is later = on Closed (asked_then (Gives turn)) (request.Turns turn) e r (λ ls. refl) (later Closed is)
      asked request.Drains e r is later = on Closed (asked_then Drains) request.Drains e r (λ ls. refl) (later Closed is)
      asked request.Stops e r is later = unasked k code is

      by : (r : Option DeckError) → option_or (line_refusal 200 line) (stream_refusal line) ≡ r → (goes_on r n (rest (request_on line) lines)).ending ≡ Refused k code → Later → StreamStands n Closed (line ∷ lines)
      by (Some c) e is later =
          at_first n k code (λ ls. stream_section n Closed ls) line lines (refused_on_line n c) (place_of n k c code is) (λ ls. ap (λ o. goes_on o n (rest (request_on line) ls)) e)
      by None e is later = asked (request_on line) e refl is later
  stream_stands (line ∷ lines) n (InList list) is = by (list_line_refusal line) refl is (λ pending. stream_stands lines (n + 1) pending)
    where
      Later : Type 0
      Later = (pending : Open) → (stream_section (n + 1) pending lines).ending ≡ Refused k code → StreamStands (n + 1) pending lines

      rest : Bool → List (List ℕ) → Cards
      rest ends ls = if ends then asked_then (Commands (set_acl_of list)) (stream_section (n + 1) Closed ls) else stream_section (n + 1) (InList (with_line list line)) ls

      next : (ends : Bool) → is_dollar_line line ≡ ends → list_line_refusal line ≡ None → (rest ends lines).ending ≡ Refused k code → Later → StreamStands n (InList list) (line ∷ lines)
      next true dollar e is later =
          further n k code (λ ls. stream_section (n + 1) Closed ls) (λ ls. stream_section n (InList list) ls) line lines (asked_then (Commands (set_acl_of list)))
          (λ ls. ap (λ o. goes_on o n (rest (is_dollar_line line) ls)) e ∙ ap (λ b. rest b ls) dollar) (later Closed is)
      next false dollar e is later =
          further n k code (λ ls. stream_section (n + 1) (InList (with_line list line)) ls) (λ ls. stream_section n (InList list) ls) line lines (λ c. c)
          (λ ls. ap (λ o. goes_on o n (rest (is_dollar_line line) ls)) e ∙ ap (λ b. rest b ls) dollar) (later (InList (with_line list line)) is)

      by : (r : Option DeckError) → list_line_refusal line ≡ r → (goes_on r n (rest (is_dollar_line line) lines)).ending ≡ Refused k code → Later → StreamStands n (InList list) (line ∷ lines)
      by (Some c) e is later =
          at_first n k code (λ ls. stream_section n (InList list) ls) line lines (refused_on_line n c) (place_of n k c code is) (λ ls. ap (λ o. goes_on o n (rest (is_dollar_line line) ls)) e)
      by None e is later = next (is_dollar_line line) refl e is later
  stream_stands (line ∷ lines) n (InJob job) is = by (job_line_refusal job line) refl is (λ pending. stream_stands lines (n + 1) pending)
    where
      Later : Type 0
      Later = (pending : Open) → (stream_section (n + 1) pending lines).ending ≡ Refused k code → StreamStands (n + 1) pending lines

      rest : Bool → List (List ℕ) → Cards
      rest ends ls = if ends then asked_then (Enters job) (stream_section (n + 1) Closed ls) else stream_section (n + 1) (InJob (after_job_line job line)) ls

      next : (ends : Bool) → ends_job line ≡ ends → job_line_refusal job line ≡ None → (rest ends lines).ending ≡ Refused k code → Later → StreamStands n (InJob job) (line ∷ lines)
      next true it_ends e is later =
          further n k code (λ ls. stream_section (n + 1) Closed ls) (λ ls. stream_section n (InJob job) ls) line lines (asked_then (Enters job))
          (λ ls. ap (λ o. goes_on o n (rest (ends_job line) ls)) e ∙ ap (λ b. rest b ls) it_ends) (later Closed is)
      next false it_ends e is later =
          further n k code (λ ls. stream_section (n + 1) (InJob (after_job_line job line)) ls) (λ ls. stream_section n (InJob job) ls) line lines (λ c. c)
          (λ ls. ap (λ o. goes_on o n (rest (ends_job line) ls)) e ∙ ap (λ b. rest b ls) it_ends) (later (InJob (after_job_line job line)) is)

      by : (r : Option DeckError) → job_line_refusal job line ≡ r → (goes_on r n (rest (ends_job line) lines)).ending ≡ Refused k code → Later → StreamStands n (InJob job) (line ∷ lines)
      by (Some c) e is later =
          at_first n k code (λ ls. stream_section n (InJob job) ls) line lines (refused_on_line n c) (place_of n k c code is) (λ ls. ap (λ o. goes_on o n (rest (ends_job line) ls)) e)
      by None e is later = next (ends_job line) refl e is later

  -- ---- the catalogue

  catalogue_stands : (lines : List (List ℕ)) (n : ℕ) (accounts : List Account) (p : Progress) → ending_of (catalogue_section n accounts p lines) ≡ Refused k code
      → Stands (λ ls. catalogue_section n accounts p ls) n lines k code
  catalogue_stands [] n accounts p is = at_end n k code (λ ls. catalogue_section n accounts p ls) (place_of n k Truncated code is) (code_of n k Truncated code is)
  catalogue_stands (line ∷ lines) n accounts p is = by (option_or (line_refusal 5000 line) (catalogue_refusal p line)) refl is (catalogue_stands lines (n + 1) accounts (step p line))
    where
      Later : Type 0
      Later = ending_of (catalogue_section (n + 1) accounts (step p line) lines) ≡ Refused k code → Stands (λ ls. catalogue_section (n + 1) accounts (step p line) ls) (n + 1) lines k code

      rest : Bool → List (List ℕ) → Deck
      rest ends ls = if ends then record { accounts = accounts; catalogue = sets_of p; cards = stream_section (n + 1) Closed ls } else catalogue_section (n + 1) accounts (step p line) ls

      next : (ends : Bool) → ends_catalogue p line ≡ ends → option_or (line_refusal 5000 line) (catalogue_refusal p line) ≡ None → ending_of (rest ends lines) ≡ Refused k code → Later
          → Stands (λ ls. catalogue_section n accounts p ls) n (line ∷ lines) k code
      next true ends e is later =
          further n k code (λ ls. stream_section (n + 1) Closed ls) (λ ls. catalogue_section n accounts p ls) line lines (λ (c : Cards). record { accounts = accounts; catalogue = sets_of p; cards = c })
          (λ ls. ap (λ o. deck_goes_on o n accounts (rest (ends_catalogue p line) ls)) e ∙ ap (λ b. rest b ls) ends) (stream_stands lines (n + 1) Closed is)
      next false ends e is later =
          further n k code (λ ls. catalogue_section (n + 1) accounts (step p line) ls) (λ ls. catalogue_section n accounts p ls) line lines (λ d. d)
          (λ ls. ap (λ o. deck_goes_on o n accounts (rest (ends_catalogue p line) ls)) e ∙ ap (λ b. rest b ls) ends) (later is)

      by : (r : Option DeckError) → option_or (line_refusal 5000 line) (catalogue_refusal p line) ≡ r → ending_of (deck_goes_on r n accounts (rest (ends_catalogue p line) lines)) ≡ Refused k code → Later
          → Stands (λ ls. catalogue_section n accounts p ls) n (line ∷ lines) k code
      by (Some c) e is later =
          at_first n k code (λ ls. catalogue_section n accounts p ls) line lines (refused_early n c accounts) (place_of n k c code is) (λ ls. ap (λ o. deck_goes_on o n accounts (rest (ends_catalogue p line) ls)) e)
      by None e is later = next (ends_catalogue p line) refl e is later

  -- ---- the account table

  accounts_stand : (lines : List (List ℕ)) (n : ℕ) (accounts : List Account) → ending_of (accounts_section n accounts lines) ≡ Refused k code
      → Stands (λ ls. accounts_section n accounts ls) n lines k code
  accounts_stand [] n accounts is = at_end n k code (λ ls. accounts_section n accounts ls) (place_of n k Truncated code is) (code_of n k Truncated code is)
  accounts_stand (line ∷ lines) n accounts is = by (option_or (line_refusal 200 line) (accounts_refusal accounts line)) refl is (accounts_stand lines (n + 1) (table_after accounts line))
    where
      Later : Type 0
      Later = ending_of (accounts_section (n + 1) (table_after accounts line) lines) ≡ Refused k code → Stands (λ ls. accounts_section (n + 1) (table_after accounts line) ls) (n + 1) lines k code

      rest : Bool → List (List ℕ) → Deck
      rest ends ls = if ends then catalogue_section (n + 1) accounts (progress.SetDue (version_in (words line)) 0 []) ls else accounts_section (n + 1) (table_after accounts line) ls

      next : (ends : Bool) → is_dollar_line line ≡ ends → option_or (line_refusal 200 line) (accounts_refusal accounts line) ≡ None → ending_of (rest ends lines) ≡ Refused k code → Later
          → Stands (λ ls. accounts_section n accounts ls) n (line ∷ lines) k code
      next true ends e is later =
          further n k code (λ ls. catalogue_section (n + 1) accounts (progress.SetDue (version_in (words line)) 0 []) ls) (λ ls. accounts_section n accounts ls) line lines (λ d. d)
          (λ ls. ap (λ o. deck_goes_on o n accounts (rest (is_dollar_line line) ls)) e ∙ ap (λ b. rest b ls) ends) (catalogue_stands lines (n + 1) accounts (progress.SetDue (version_in (words line)) 0 []) is)
      next false ends e is later =
          further n k code (λ ls. accounts_section (n + 1) (table_after accounts line) ls) (λ ls. accounts_section n accounts ls) line lines (λ d. d)
          (λ ls. ap (λ o. deck_goes_on o n accounts (rest (is_dollar_line line) ls)) e ∙ ap (λ b. rest b ls) ends) (later is)

      by : (r : Option DeckError) → option_or (line_refusal 200 line) (accounts_refusal accounts line) ≡ r → ending_of (deck_goes_on r n accounts (rest (is_dollar_line line) lines)) ≡ Refused k code → Later
          → Stands (λ ls. accounts_section n accounts ls) n (line ∷ lines) k code
      by (Some c) e is later =
          at_first n k code (λ ls. accounts_section n accounts ls) line lines (refused_early n c accounts) (place_of n k c code is) (λ ls. ap (λ o. deck_goes_on o n accounts (rest (is_dollar_line line) ls)) e)
      by None e is later = next (is_dollar_line line) refl e is later

  -- ---- before it

  opening_stands : (lines : List (List ℕ)) (n : ℕ) → ending_of (opening_section n lines) ≡ Refused k code → Stands (λ ls. opening_section n ls) n lines k code
  opening_stands [] n is = at_end n k code (λ ls. opening_section n ls) (place_of n k Truncated code is) (code_of n k Truncated code is)
  opening_stands (line ∷ lines) n is = by (option_or (line_refusal 200 line) (opening_refusal line)) refl is (opening_stands lines (n + 1))
    where
      Later : Type 0
      Later = ending_of (opening_section (n + 1) lines) ≡ Refused k code → Stands (λ ls. opening_section (n + 1) ls) (n + 1) lines k code

      rest : Bool → List (List ℕ) → Deck
      rest blank ls = if blank then opening_section (n + 1) ls else accounts_section (n + 1) [] ls

      next : (blank : Bool) → is_blank_line line ≡ blank → option_or (line_refusal 200 line) (opening_refusal line) ≡ None → ending_of (rest blank lines) ≡ Refused k code → Later
          → Stands (λ ls. opening_section n ls) n (line ∷ lines) k code
      next true blank e is later =
          further n k code (λ ls. opening_section (n + 1) ls) (λ ls. opening_section n ls) line lines (λ d. d)
          (λ ls. ap (λ o. deck_goes_on o n [] (rest (is_blank_line line) ls)) e ∙ ap (λ b. rest b ls) blank) (later is)
      next false blank e is later =
          further n k code (λ ls. accounts_section (n + 1) [] ls) (λ ls. opening_section n ls) line lines (λ d. d)
          (λ ls. ap (λ o. deck_goes_on o n [] (rest (is_blank_line line) ls)) e ∙ ap (λ b. rest b ls) blank) (accounts_stand lines (n + 1) [] is)

      by : (r : Option DeckError) → option_or (line_refusal 200 line) (opening_refusal line) ≡ r → ending_of (deck_goes_on r n [] (rest (is_blank_line line) lines)) ≡ Refused k code → Later
          → Stands (λ ls. opening_section n ls) n (line ∷ lines) k code
      by (Some c) e is later =
          at_first n k code (λ ls. opening_section n ls) line lines (refused_early n c []) (place_of n k c code is) (λ ls. ap (λ o. deck_goes_on o n [] (rest (is_blank_line line) ls)) e)
      by None e is later = next (is_blank_line line) refl e is later

-- ---- the whole deck

never_good : (ls more : List (List ℕ)) (n : ℕ) (code : DeckError) (deck : Deck) → ending_of (deck_of ls) ≡ Refused n code → deck_of more ≡ deck_of ls → IsDeck more deck → ⊥
never_good ls more n code deck refused_on_line same is =
    let bad : Stopped ≡ Refused n code = sym is.ends ∙ ap ending_of (sym (deck_taken more deck is) ∙ same) ∙ refused_on_line in unasked n code bad

pub refusals_stand : (ls : List (List ℕ)) (n : ℕ) (code : DeckError) → ending_of (deck_of ls) ≡ Refused n code → Decides n ls ⊎ ((n ≡ length ls + 1) × (code ≡ Truncated))
refusals_stand ls n code refused_on_line = by (opening_stands n code ls 1 refused_on_line)
  where
    by : Stands deck_of 1 ls n code → Decides n ls ⊎ ((n ≡ length ls + 1) × (code ≡ Truncated))
    by (inr (place, early)) = inr (omega (arith, place), early)
    by (inl (i, place, within, stands)) =
        let here : suc i ≡ n = omega (arith, place) in
        let same = subst (λ (m : ℕ). (more : List (List ℕ)) → deck_of (take m ls ++ more) ≡ deck_of ls) here stands in
        inl (record {
          within = omega (arith, place, within);
          whatever_follows = same;
          never_good = λ more deck is. never_good ls (take n ls ++ more) n code deck refused_on_line (same more) is;
        })
