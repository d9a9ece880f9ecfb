-- Lines that are a good deck are computed to be that deck.
use Rattle.std.proofs.Common.{◌≡◌, ℕ, suc, ◌+◌, ◌≤◌, ◌==◌, nat_lt, Bool, true, false, not, ◌&&◌, if◌then◌else◌, List, [], ◌∷◌, ◌++◌, length, Option, None, Some, is_some, Ok, refl, sym, ap, subst, ◌∙◌, arith}
use Rattle.std.specs.{Prelude.{codes, unwrap_or, bytes_eq}, List.{list_all, list_any, IsDistinct, AllByRecursion}, Option.{option_or}}
use Rattle.std.proofs.lemmas.List.{append_assoc, append-nil, map-append}
use borrow.Author.Tests.{ne_eqb, le-ltb, lt-ltb}
use Rattle.mon_text.specs.{Names.{is_name}, Lines.{is_blank_line, words}}
use Rattle.acl_text.specs.declared.text.AclText.TheVariants.{Short, Long}
use Rattle.mon_access.specs.{declared.account.Account.{Account}, Accounts.{find_account, names_of, HaveDifferentNames}}
use Rattle.mon_catalogue.specs.{declared.head.Head.{Head}, Head.{head_of}, declared.version.Version.{Version}, declared.mode.Mode.{Mode}, Sets.{Sets}}
use Rattle.mon_catalogue.specs.{declared.mode.Mode.TheVariants.{Seq}, Progress.{Progress, step, finished}, Text.{text_of}}
use Rattle.mon_catalogue.proofs.{Blanks.{both}, Heads.{head_words}, Names.{none_before}, Steps.{refused_stays}, Whole.{text_read}}
use Rattle.mon_catalogue.proofs.Shorthand.{after_lines, after_words}
use Rattle.mon_catalogue.specs.Progress as progress
use Rattle.deck_lines.specs.{declared.command.Command.{Command}, declared.card.Card.{Card}, declared.turn.Turn.{Turn}, Cards.{card_among, is_card}}
use Rattle.deck_lines.specs.declared.deck_error.DeckError.TheVariants.{BadName, BadCharacter, LineTooLong, BadCard, OutOfPlace, AccountTwice, TooManyGroups}
use Rattle.deck_lines.specs.{Refusing.{unless, line_refusal, lone_card_refusal, is_dollar_line}, CardLines.{IsLineWithin, IsCard}}
use Rattle.deck_lines.specs.declared.command.Command.TheVariants as command
use Rattle.deck_lines.specs.declared.card.Card.TheVariants as card
use Rattle.deck_syntax.specs.declared.{list.OpenList.{OpenList}, request.Request.TheVariants.{Nothing, Asks, OpensList}}
use Rattle.deck_syntax.specs.{declared.job.OpenJob.{OpenJob}, Decks.{Deck, Cards, Asked, Commands, Enters, Gives, Drains, Ending, Stopped}}
use Rattle.deck_syntax.specs.{inner.Parts.{version_in, heading_refusal, text_refusal, opened_job}, JobSpelling.{SpellsJob, SpellsTurn}}
use Rattle.deck_syntax.proofs.Spelled.{both_hold, line_taken, blank_is_line, not_blank, no_dollar_blank, no_dollar_names, lone_card_taken}
use Rattle.deck_syntax.proofs.Shorthand.{goes_on, deck_goes_on}
use Rattle.deck_syntax.proofs.{Headings.{version_is, heading_taken, mode_read}, JobReading.{all_read}, JobsSpelled.{job_fine, job_asked, turn_fine, turn_asked}}
use Rattle.deck_syntax.specs.Requests.{opened, with_line, set_acl_of, stream_card_refusal, card_request, stream_refusal, request_on, end_refusal, list_text_refusal, is_list_character, acl_on}
use Rattle.deck_syntax.specs.Sections.{opening_refusal, account_on, table_refusal, account_refusal, accounts_refusal, table_after, sets_of, ends_catalogue, catalogue_refusal, Closed, InList, InJob, asked_then, requested, stream_section, catalogue_section, accounts_section, opening_section, deck_of}
use Rattle.deck_syntax.specs.Spelling.{AreBlank, SpellsAccount, SpellsAccounts, NamesOn, SpellsCreation, SpellsShort, version_words, IsListLine, SpellsLong, SpellsCommand, SpellsAsked, SpellsStream, IsDeck}

blank_taken : (line : List ℕ) → length line ≤ 200 → is_blank_line line ≡ true → line_refusal 200 line ≡ None
blank_taken line short blank = line_taken 200 line (short, blank_is_line line blank)

-- ---- before the account table

opening_blanks : (blanks more : List (List ℕ)) (n : ℕ) → AreBlank blanks → (m : ℕ) × (opening_section n (blanks ++ more) ≡ opening_section m more)
opening_blanks [] more n are = (n, refl)
opening_blanks (line ∷ blanks) more n (is, are) =
    let rest = opening_blanks blanks more (n + 1) are in (
      rest.0,
      ap (λ r. deck_goes_on (option_or r (opening_refusal line)) n [] (if is_blank_line line then opening_section (n + 1) (blanks ++ more) else accounts_section (n + 1) [] (blanks ++ more))) (blank_taken line is.0 is.1)
          ∙ ap (λ (b : Bool). deck_goes_on (if b then None else lone_card_refusal card.Accounts (words line)) n [] (if b then opening_section (n + 1) (blanks ++ more) else accounts_section (n + 1) [] (blanks ++ more))) is.1
          ∙ rest.1,
    )

opening_card : (line : List ℕ) (more : List (List ℕ)) (n : ℕ) → IsCard 200 card.Accounts [] line → opening_section n (line ∷ more) ≡ accounts_section (n + 1) [] more
opening_card line more n is =
    ap (λ r. deck_goes_on (option_or r (opening_refusal line)) n [] (if is_blank_line line then opening_section (n + 1) more else accounts_section (n + 1) [] more)) (line_taken 200 line is.line_is)
    ∙ ap (λ (b : Bool). deck_goes_on (if b then None else lone_card_refusal card.Accounts (words line)) n [] (if b then opening_section (n + 1) more else accounts_section (n + 1) [] more)) (not_blank line is.word [] is.words_are)
    ∙ ap (λ r. deck_goes_on r n [] (accounts_section (n + 1) [] more)) (lone_card_taken card.Accounts 200 line refl is)

-- ---- the account table

module _ (line : List ℕ) (more : List (List ℕ)) (n : ℕ) (done : List Account) where
  -- a line that is not `$CATALOGUE`, blank or not
  in_table : (blank : Bool) → line_refusal 200 line ≡ None → is_dollar_line line ≡ false → is_blank_line line ≡ blank
      → accounts_section n done (line ∷ more)
      ≡ deck_goes_on (if blank then None else account_refusal done (words line)) n done (accounts_section (n + 1) (if blank then done else done ++ account_on (words line) ∷ []) more)
  in_table blank good plain is =
      ap (λ r. deck_goes_on (option_or r (accounts_refusal done line)) n done (if is_dollar_line line then catalogue_section (n + 1) done (progress.SetDue (version_in (words line)) 0 []) more else accounts_section (n + 1) (table_after done line) more)) good
      ∙ ap (λ (b : Bool). deck_goes_on (if b then heading_refusal (words line) else (if is_blank_line line then None else account_refusal done (words line))) n done
      (if b then catalogue_section (n + 1) done (progress.SetDue (version_in (words line)) 0 []) more else accounts_section (n + 1) (table_after done line) more)) plain
      ∙ ap (λ (b : Bool). deck_goes_on (if b then None else account_refusal done (words line)) n done (accounts_section (n + 1) (if b then done else done ++ account_on (words line) ∷ []) more)) is

  table_card : (version : Version) → IsCard 200 card.Catalogue (version_words version) line → is_dollar_line line ≡ true
      → accounts_section n done (line ∷ more) ≡ catalogue_section (n + 1) done (progress.SetDue version 0 []) more
  table_card version is dollar =
      ap (λ r. deck_goes_on (option_or r (accounts_refusal done line)) n done (if is_dollar_line line then catalogue_section (n + 1) done (progress.SetDue (version_in (words line)) 0 []) more else accounts_section (n + 1) (table_after done line) more)) (line_taken 200 line is.line_is)
      ∙ ap (λ (b : Bool). deck_goes_on (if b then heading_refusal (words line) else (if is_blank_line line then None else account_refusal done (words line))) n done
      (if b then catalogue_section (n + 1) done (progress.SetDue (version_in (words line)) 0 []) more else accounts_section (n + 1) (table_after done line) more)) dollar
      ∙ ap (λ r. deck_goes_on r n done (catalogue_section (n + 1) done (progress.SetDue (version_in (words line)) 0 []) more)) (heading_taken line version is)
      ∙ ap (λ (v : Version). catalogue_section (n + 1) done (progress.SetDue v 0 []) more) (version_is line is.word version is.words_are)

table_blanks : (blanks more : List (List ℕ)) (n : ℕ) (done : List Account) → AreBlank blanks → (m : ℕ) × (accounts_section n done (blanks ++ more) ≡ accounts_section m done more)
table_blanks [] more n done are = (n, refl)
table_blanks (line ∷ blanks) more n done (is, are) =
    let rest = table_blanks blanks more (n + 1) done are in
    (rest.0, in_table line (blanks ++ more) n done true (blank_taken line is.0 is.1) (no_dollar_blank line is.1) is.1 ∙ rest.1)

-- an account is found exactly where its name is among the names
pub any_account : (accounts : List Account) (name : List ℕ) → is_some (find_account accounts name) ≡ list_any (bytes_eq name) (names_of accounts)
any_account [] name = refl
any_account (account ∷ accounts) name = by (bytes_eq name account.name) refl (any_account accounts name)
  where
    by : (b : Bool) → bytes_eq name account.name ≡ b → is_some (find_account accounts name) ≡ list_any (bytes_eq name) (names_of accounts)
        → is_some (find_account (account ∷ accounts) name) ≡ list_any (bytes_eq name) (names_of (account ∷ accounts))
    by true e rest = rw e refl
    by false e rest = rw e rest

new_name : (done : List Account) (account : Account) (later : List Account) → HaveDifferentNames (done ++ account ∷ later) → is_some (find_account done account.name) ≡ false
new_name done account later differ =
    any_account done account.name
    ∙ none_before (names_of done) account.name (names_of later) (subst (IsDistinct bytes_eq) (map-append (λ (a : Account). a.name) done (account ∷ later)) differ)

account_taken : (line : List ℕ) (done : List Account) (account : Account) → SpellsAccount line account → is_some (find_account done account.name) ≡ false
    → account_refusal done (words line) ≡ None
account_taken line done account is new =
    let names : list_all is_name (account.name ∷ account.primary ∷ account.groups) ≡ true = ap (list_all is_name) (sym is.words_are) ∙ is.names_are in
    ap (account_refusal done) is.words_are
    ∙ ap (λ (b : Bool). option_or (option_or (unless b BadCard) (unless (list_all is_name (account.name ∷ account.primary ∷ account.groups)) BadName)) (table_refusal done account)) (lt-ltb 1 (suc (suc (length account.groups))) (omega arith))
    ∙ ap (λ (b : Bool). option_or (unless b BadName) (table_refusal done account)) names
    ∙ ap (λ (b : Bool). option_or (unless (not b) AccountTwice) (unless (not (nat_lt 16 (length account.groups))) TooManyGroups)) new
    ∙ ap (λ (b : Bool). unless (not b) TooManyGroups) (le-ltb 16 (length account.groups) is.few)

one_account : (line : List ℕ) (more : List (List ℕ)) (n : ℕ) (done : List Account) (account : Account) → SpellsAccount line account → is_some (find_account done account.name) ≡ false
    → accounts_section n done (line ∷ more) ≡ accounts_section (n + 1) (done ++ account ∷ []) more
one_account line more n done account is new =
    in_table line more n done false (line_taken 200 line is.line_is) (no_dollar_names line is.names_are) (not_blank line account.name (account.primary ∷ account.groups) is.words_are)
    ∙ ap (λ r. deck_goes_on r n done (accounts_section (n + 1) (done ++ account_on (words line) ∷ []) more)) (account_taken line done account is new)
    ∙ ap (λ (ws : List (List ℕ)). accounts_section (n + 1) (done ++ account_on ws ∷ []) more) is.words_are

pub table_taken : (accounts done : List Account) (table more : List (List ℕ)) (n : ℕ) → SpellsAccounts table accounts → HaveDifferentNames (done ++ accounts)
    → (m : ℕ) × (accounts_section n done (table ++ more) ≡ accounts_section m (done ++ accounts) more)
table_taken [] done table more n are differ =
    let rest = table_blanks table more n done are in
    (rest.0, rest.1 ∙ ap (λ (all : List Account). accounts_section rest.0 all more) (sym (append-nil done)))
table_taken (account ∷ accounts) done table more n (blanks, line, behind, are, blanks_are, is, others) differ =
    let assoc = append_assoc done (account ∷ []) accounts in
    let first = table_blanks blanks (line ∷ behind ++ more) n done blanks_are in
    let rest = table_taken accounts (done ++ account ∷ []) behind more (first.0 + 1) others (subst HaveDifferentNames (sym assoc) differ) in (
      rest.0,
      ap (λ (ls : List (List ℕ)). accounts_section n done ls) (ap (λ (ls : List (List ℕ)). ls ++ more) are ∙ append_assoc blanks (line ∷ behind) more)
          ∙ first.1
          ∙ one_account line (behind ++ more) first.0 done account is (new_name done account accounts differ)
          ∙ rest.1
          ∙ ap (λ (all : List Account). accounts_section rest.0 all more) assoc,
    )

-- ---- the catalogue

-- what leads to whole sets is not refused
pub leads : (p : Progress) (text : List (List ℕ)) (version : Version) (k : ℕ) (sets : Sets) → after_lines p text ≡ progress.SetDue version k sets → text_refusal p ≡ None
leads (progress.Refused e) text version k sets is = let no : progress.Refused e ≡ progress.SetDue version k sets = sym (refused_stays e text) ∙ is in cc
leads (progress.SetDue v n sets') text version k sets is = refl
leads (progress.ListDue v n sets' head) text version k sets is = refl
leads (progress.RecordsDue v n sets' name set left) text version k sets is = refl
leads progress.OutOfMemory text version k sets is = refl

-- a line that the catalogue takes is none that ends it
pub no_end : (p : Progress) (line : List ℕ) → text_refusal (step p line) ≡ None → ends_catalogue p line ≡ false
no_end (progress.Refused e) line fine = refl
no_end (progress.ListDue version n sets head) line fine = refl
no_end (progress.RecordsDue version n sets name set left) line fine = refl
no_end progress.OutOfMemory line fine = refl
no_end (progress.SetDue version n sets) line fine = by (is_blank_line line) refl fine
  where
    set_card : (head : Option Head) → head_of version (words line) ≡ head → text_refusal (after_words version (n + 1) sets head) ≡ None → is_card card.Set (card_among (words line)) ≡ true
    set_card None e fine = cc
    set_card (Some head) e fine = ap (λ (ws : List (List ℕ)). is_card card.Set (card_among ws)) (head_words version (words line) head e).words_are

    by : (b : Bool) → is_blank_line line ≡ b → text_refusal (if b then progress.SetDue version (n + 1) sets else after_words version (n + 1) sets (head_of version (words line))) ≡ None
        → (not (is_blank_line line) && not (is_card card.Set (card_among (words line)))) ≡ false
    by true e fine = ap (λ (b : Bool). not b && not (is_card card.Set (card_among (words line)))) e
    by false e fine = rw (e, set_card (head_of version (words line)) refl fine) refl

text_line : (p : Progress) (line : List ℕ) (more : List (List ℕ)) (n : ℕ) (accounts : List Account) → IsLineWithin 5000 line → text_refusal (step p line) ≡ None
    → catalogue_section n accounts p (line ∷ more) ≡ catalogue_section (n + 1) accounts (step p line) more
text_line p line more n accounts within fine =
    ap (λ r. deck_goes_on (option_or r (catalogue_refusal p line)) n accounts (rest (ends_catalogue p line))) (line_taken 5000 line within)
    ∙ ap (λ (b : Bool). deck_goes_on (if b then lone_card_refusal card.Stream (words line) else text_refusal (step p line)) n accounts (rest b)) (no_end p line fine)
    ∙ ap (λ r. deck_goes_on r n accounts (catalogue_section (n + 1) accounts (step p line) more)) fine
  where
    rest : Bool → Deck
    rest b =
        if b then record { accounts = accounts; catalogue = sets_of p; cards = stream_section (n + 1) Closed more }
        else catalogue_section (n + 1) accounts (step p line) more

pub text_taken : (text more : List (List ℕ)) (n : ℕ) (accounts : List Account) (p : Progress) (version : Version) (k : ℕ) (sets : Sets) → AllByRecursion (IsLineWithin 5000) text
    → after_lines p text ≡ progress.SetDue version k sets → (m : ℕ) × (catalogue_section n accounts p (text ++ more) ≡ catalogue_section m accounts (progress.SetDue version k sets) more)
text_taken [] more n accounts p version k sets fit is = (n, ap (λ (q : Progress). catalogue_section n accounts q more) is)
text_taken (line ∷ text) more n accounts p version k sets (fits, fit) is =
    let rest = text_taken text more (n + 1) accounts (step p line) version k sets fit is in
    (rest.0, text_line p line (text ++ more) n accounts fits (leads (step p line) text version k sets is) ∙ rest.1)

-- whole sets
pub due : (p : Progress) (sets : Sets) → finished p ≡ Ok sets → (version : Version) × (k : ℕ) × (p ≡ progress.SetDue version k sets)
due (progress.SetDue version k sets') sets is = let same : sets' ≡ sets = cc in (version, k, ap (progress.SetDue version k) same)
due (progress.ListDue version n sets' head) sets is = cc
due (progress.RecordsDue version n sets' name set left) sets is = cc
due (progress.Refused e) sets is = cc
due progress.OutOfMemory sets is = cc

stream_card : (line : List ℕ) (more : List (List ℕ)) (n : ℕ) (accounts : List Account) (version : Version) (k : ℕ) (sets : Sets) → IsCard 5000 card.Stream [] line
    → catalogue_section n accounts (progress.SetDue version k sets) (line ∷ more) ≡ record { accounts = accounts; catalogue = sets; cards = stream_section (n + 1) Closed more }
stream_card line more n accounts version k sets is =
    let named : is_card card.Set (card_among (words line)) ≡ false = ap (λ (ws : List (List ℕ)). is_card card.Set (card_among ws)) is.words_are ∙ ap (is_card card.Set) is.names_it in
    let ends : ends_catalogue (progress.SetDue version k sets) line ≡ true = rw (not_blank line is.word [] is.words_are, named) refl in
    ap (λ r. deck_goes_on (option_or r (catalogue_refusal (progress.SetDue version k sets) line)) n accounts (rest (ends_catalogue (progress.SetDue version k sets) line))) (line_taken 5000 line is.line_is)
    ∙ ap (λ (b : Bool). deck_goes_on (if b then lone_card_refusal card.Stream (words line) else text_refusal (step (progress.SetDue version k sets) line)) n accounts (rest b)) ends
    ∙ ap (λ r. deck_goes_on r n accounts (rest true)) (lone_card_taken card.Stream 5000 line refl is)
  where
    rest : Bool → Deck
    rest b =
        if b then record { accounts = accounts; catalogue = sets; cards = stream_section (n + 1) Closed more }
        else catalogue_section (n + 1) accounts (step (progress.SetDue version k sets) line) more

-- ---- the stream

pub stream_blanks : (blanks more : List (List ℕ)) (n : ℕ) → AreBlank blanks → (m : ℕ) × (stream_section n Closed (blanks ++ more) ≡ stream_section m Closed more)
stream_blanks [] more n are = (n, refl)
stream_blanks (line ∷ blanks) more n (is, are) =
    let rest = stream_blanks blanks more (n + 1) are in (
      rest.0,
      ap (λ r. goes_on (option_or r (stream_refusal line)) n (requested (request_on line) (λ pending. stream_section (n + 1) pending (blanks ++ more)))) (blank_taken line is.0 is.1)
          ∙ ap (λ (b : Bool). goes_on (if b then None else stream_card_refusal (card_among (words line)) (words line)) n
          (requested (if b then Nothing else card_request (card_among (words line)) line (words line)) (λ pending. stream_section (n + 1) pending (blanks ++ more)))) is.1
          ∙ rest.1,
    )

-- a card, and what it asks for
card_taken : (card : Card) (others : List (List ℕ)) (line : List ℕ) (more : List (List ℕ)) (n : ℕ) → (is : IsCard 200 card others line)
    → stream_card_refusal (Some card) (is.word ∷ others) ≡ None
    → stream_section n Closed (line ∷ more) ≡ requested (card_request (Some card) line (is.word ∷ others)) (λ pending. stream_section (n + 1) pending more)
card_taken card others line more n is fine =
    let found : card_among (words line) ≡ Some card = ap card_among is.words_are ∙ is.names_it in
    ap (λ r. goes_on (option_or r (stream_refusal line)) n (requested (request_on line) (λ pending. stream_section (n + 1) pending more))) (line_taken 200 line is.line_is)
    ∙ ap (λ (b : Bool). goes_on (if b then None else stream_card_refusal (card_among (words line)) (words line)) n
    (requested (if b then Nothing else card_request (card_among (words line)) line (words line)) (λ pending. stream_section (n + 1) pending more))) (not_blank line is.word others is.words_are)
    ∙ ap (λ (o : Option Card). goes_on (stream_card_refusal o (words line)) n (requested (card_request o line (words line)) (λ pending. stream_section (n + 1) pending more))) found
    ∙ ap (λ (ws : List (List ℕ)). goes_on (stream_card_refusal (Some card) ws) n (requested (card_request (Some card) line ws) (λ pending. stream_section (n + 1) pending more))) is.words_are
    ∙ ap (λ r. goes_on r n (requested (card_request (Some card) line (is.word ∷ others)) (λ pending. stream_section (n + 1) pending more))) fine

two_names : (word account name : List ℕ) → list_all is_name (account ∷ name ∷ []) ≡ true → unless (is_name account && is_name name) BadName ≡ None
two_names word account name names =
    let parts = both (is_name account) (is_name name && true) names in
    ap (λ (b : Bool). unless b BadName) (both_hold (is_name account) (is_name name) parts.0 ((both (is_name name) true parts.1).0))

one_name : (account : List ℕ) → list_all is_name (account ∷ []) ≡ true → unless (is_name account) BadName ≡ None
one_name account names = ap (λ (b : Bool). unless b BadName) ((both (is_name account) true names).0)

-- lines of a list, up to its end
list_taken : (list : List (List ℕ)) (more : List (List ℕ)) (n : ℕ) (account name text : List ℕ) → AllByRecursion IsListLine list
    → (m : ℕ) × (stream_section n (InList (record { account = account; name = name; text = text })) (list ++ more)
    ≡ stream_section m (InList (record { account = account; name = name; text = text ++ text_of list })) more)
list_taken [] more n account name text are =
    (n, ap (λ (t : List ℕ). stream_section n (InList (record { account = account; name = name; text = t })) more) (sym (append-nil text)))
list_taken (line ∷ list) more n account name text (is, are) =
    let open_list : OpenList = record { account = account; name = name; text = text } in
    let rest = list_taken list more (n + 1) account name (text ++ (line ++ codes "\n")) are in (
      rest.0,
      ap (λ (b : Bool). goes_on (if b then option_or (line_refusal 200 line) (end_refusal (words line)) else list_text_refusal line) n
          (if b then asked_then (Commands (set_acl_of open_list)) (stream_section (n + 1) Closed (list ++ more)) else stream_section (n + 1) (InList (with_line open_list line)) (list ++ more))) is.2
          ∙ ap (λ (b : Bool). goes_on (if b then Some LineTooLong else unless (list_all is_list_character line) BadCharacter) n (stream_section (n + 1) (InList (with_line open_list line)) (list ++ more))) (le-ltb 200 (length line) is.0)
          ∙ ap (λ (b : Bool). goes_on (unless b BadCharacter) n (stream_section (n + 1) (InList (with_line open_list line)) (list ++ more))) is.1
          ∙ rest.1
          ∙ ap (λ (t : List ℕ). stream_section rest.0 (InList (record { account = account; name = name; text = t })) more) (append_assoc text (line ++ codes "\n") (text_of list)),
    )

list_end : (list : OpenList) (line : List ℕ) (more : List (List ℕ)) (n : ℕ) → IsCard 200 card.EndAcl [] line → is_dollar_line line ≡ true
    → stream_section n (InList list) (line ∷ more) ≡ asked_then (Commands (set_acl_of list)) (stream_section (n + 1) Closed more)
list_end list line more n is dollar =
    let fine : end_refusal (words line) ≡ None = ap end_refusal is.words_are ∙ ap (λ (o : Option Card). option_or (unless (is_card card.EndAcl o) OutOfPlace) (unless (length (is.word ∷ []) == 1) BadCard)) is.names_it in
    ap (λ (b : Bool). goes_on (if b then option_or (line_refusal 200 line) (end_refusal (words line)) else list_text_refusal line) n
    (if b then asked_then (Commands (set_acl_of list)) (stream_section (n + 1) Closed more) else stream_section (n + 1) (InList (with_line list line)) more)) dollar
    ∙ ap (λ r. goes_on (option_or r (end_refusal (words line))) n (asked_then (Commands (set_acl_of list)) (stream_section (n + 1) Closed more))) (line_taken 200 line is.line_is)
    ∙ ap (λ r. goes_on r n (asked_then (Commands (set_acl_of list)) (stream_section (n + 1) Closed more))) fine

-- the lines of what is asked
abbrev pub Takes : List ℕ → List (List ℕ) → Asked → ℕ → List (List ℕ) → Type 0
Takes line more one n rest = (m : ℕ) × (stream_section n Closed (line ∷ more ++ rest) ≡ asked_then one (stream_section m Closed rest))

long_taken : (line : List ℕ) (more : List (List ℕ)) (account name text : List ℕ) (n : ℕ) (rest : List (List ℕ))
    → NamesOn card.SetAcl (account ∷ name ∷ []) line → SpellsLong more text → Takes line more (Commands (command.SetAcl account name (Long text))) n rest
long_taken line more account name text n rest is long =
    let list = list_taken long.list (long.end_card ∷ rest) (n + 1) account name [] long.list_is in (
      list.0 + 1,
      card_taken card.SetAcl (account ∷ name ∷ []) line (more ++ rest) n is.0 (two_names is.0.word account name is.1)
          ∙ ap (λ (ls : List (List ℕ)). stream_section (n + 1) (InList (opened account name)) ls) (ap (λ (ls : List (List ℕ)). ls ++ rest) long.lines_are ∙ append_assoc long.list (long.end_card ∷ []) rest)
          ∙ list.1
          ∙ list_end (record { account = account; name = name; text = text_of long.list }) long.end_card rest list.0 long.ends long.at_once
          ∙ ap (λ (t : List ℕ). asked_then (Commands (command.SetAcl account name (Long t))) (stream_section (list.0 + 1) Closed rest)) (sym long.text_is),
    )

short_taken : (line account name text : List ℕ) (n : ℕ) (rest : List (List ℕ)) → SpellsShort account name text line → Takes line [] (Commands (command.SetAcl account name (Short text))) n rest
short_taken line account name text n rest short =
    let ws : List (List ℕ) = short.card_is.word ∷ account ∷ name ∷ short.first ∷ short.others in
    let many : nat_lt 2 (length ws) ≡ true = lt-ltb 2 (length ws) (omega arith) in
    let more : (length ws == 3) ≡ false = ne_eqb (length ws) 3 (omega arith) in (
      n + 1,
      card_taken card.SetAcl (account ∷ name ∷ short.first ∷ short.others) line rest n short.card_is
          (ap (λ (b : Bool). option_or (unless b BadCard) (unless (is_name account && is_name name) BadName)) many ∙ ap (λ (b : Bool). unless b BadName) short.names_are)
          ∙ ap (λ (b : Bool). requested (if b then OpensList account name else Asks (command.SetAcl account name (Short (acl_on line)))) (λ pending. stream_section (n + 1) pending rest)) more
          ∙ ap (λ (t : List ℕ). asked_then (Commands (command.SetAcl account name (Short t))) (stream_section (n + 1) Closed rest)) (sym short.text_is),
    )

-- a new data set
creation_taken : (line account name : List ℕ) (mode : Mode) (n : ℕ) (rest : List (List ℕ)) → SpellsCreation account name mode line
    → Takes line [] (Commands (command.Create account name mode)) n rest
creation_taken line account name mode n rest is =
    let ws = is.card_is.word ∷ account ∷ name ∷ is.others in
    let asked = mode_read is.card_is.word account name is.others mode is.mode_is in (
      n + 1,
      card_taken card.Create (account ∷ name ∷ is.others) line rest n is.card_is
          (ap (λ (o : Option Mode). option_or (unless (is_some o) BadCard) (unless (is_name account && is_name name) BadName)) asked ∙ ap (λ (b : Bool). unless b BadName) is.names_are)
          ∙ ap (λ (o : Option Mode). asked_then (Commands (command.Create account name (unwrap_or o Seq))) (stream_section (n + 1) Closed rest)) asked,
    )

-- what is asked by one card
one_line : (line : List ℕ) (more : List (List ℕ)) (one : Asked) (n : ℕ) (rest : List (List ℕ)) → more ≡ [] → Takes line [] one n rest → Takes line more one n rest
one_line line more one n rest none takes = subst (λ (ls : List (List ℕ)). Takes line ls one n rest) (sym none) takes

command_taken : (line : List ℕ) (more : List (List ℕ)) (asked : Command) (n : ℕ) (rest : List (List ℕ)) → SpellsCommand line more asked → Takes line more (Commands asked) n rest
command_taken line more (command.Create account name mode) n rest (is, none) =
    one_line line more _ n rest none (creation_taken line account name mode n rest is)
command_taken line more (command.Delete account name) n rest (is, none) =
    one_line line more _ n rest none (n + 1, card_taken card.Delete (account ∷ name ∷ []) line rest n is.0 (two_names is.0.word account name is.1))
command_taken line more (command.ShowAcl account name) n rest (is, none) =
    one_line line more _ n rest none (n + 1, card_taken card.ShowAcl (account ∷ name ∷ []) line rest n is.0 (two_names is.0.word account name is.1))
command_taken line more (command.List account name) n rest (is, none) =
    one_line line more _ n rest none (n + 1, card_taken card.List (account ∷ name ∷ []) line rest n is.0 (two_names is.0.word account name is.1))
command_taken line more (command.Catalog account) n rest (is, none) =
    one_line line more _ n rest none (n + 1, card_taken card.Catalog (account ∷ []) line rest n is.0 (one_name account is.1))
command_taken line more (command.SetAcl account name (Short text)) n rest (short, none) = one_line line more _ n rest none (short_taken line account name text n rest short)
command_taken line more (command.SetAcl account name (Long text)) n rest (is, long) = long_taken line more account name text n rest is long

-- the lines of a job
job_taken : (line : List ℕ) (more : List (List ℕ)) (job : OpenJob) (n : ℕ) (rest : List (List ℕ)) → SpellsJob line more job → Takes line more (Enters job) n rest
job_taken line more job n rest is =
    let fine = job_fine is.card_is.word job.account is.options job.limits is.account_is is.limits_are in
    let asked = job_asked is.card_is.word job.account is.options job.limits is.account_is is.limits_are in
    let first = opened_job job.account job.limits in
    let lines_are : more ++ rest ≡ is.unit_lines ++ (is.program ++ is.end_card ∷ rest) =
    ap (λ (ls : List (List ℕ)). ls ++ rest) is.lines_are
    ∙ append_assoc is.unit_lines (is.program ++ is.end_card ∷ []) rest
    ∙ ap (λ (ls : List (List ℕ)). is.unit_lines ++ ls) (append_assoc is.program (is.end_card ∷ []) rest) in
    let read = all_read is.unit_lines is.program rest is.end_card job.ties job.lines first (n + 1) refl is.units_are is.program_is is.ends is.at_once in (
      read.0,
      card_taken card.Job (job.account ∷ is.options) line (more ++ rest) n is.card_is fine
          ∙ ap (λ (j : OpenJob). stream_section (n + 1) (InJob j) (more ++ rest)) asked
          ∙ ap (λ (ls : List (List ℕ)). stream_section (n + 1) (InJob first) ls) lines_are
          ∙ read.1,
    )

turn_taken : (line : List ℕ) (turn : Turn) (n : ℕ) (rest : List (List ℕ)) → SpellsTurn line turn → Takes line [] (Gives turn) n rest
turn_taken line turn n rest is = (
  n + 1,
  card_taken card.Turn (is.slot ∷ is.count ∷ []) line rest n is.card_is (turn_fine is.card_is.word line turn is)
      ∙ ap (λ (t : Turn). asked_then (Gives t) (stream_section (n + 1) Closed rest)) (turn_asked is.card_is.word line turn is),
)

pub asked_taken : (line : List ℕ) (more : List (List ℕ)) (one : Asked) (n : ℕ) (rest : List (List ℕ)) → SpellsAsked line more one → Takes line more one n rest
asked_taken line more (Commands asked) n rest is = command_taken line more asked n rest is
asked_taken line more (Enters job) n rest is = job_taken line more job n rest is
asked_taken line more (Gives turn) n rest (is, none) = one_line line more (Gives turn) n rest none (turn_taken line turn n rest is)
asked_taken line more Drains n rest (is, none) = one_line line more Drains n rest none (n + 1, card_taken card.Drain [] line rest n is refl)

pub stream_taken : (asked : List Asked) (stream : List (List ℕ)) (stop_card : List ℕ) (unread : List (List ℕ)) (n : ℕ) → SpellsStream stream asked → IsCard 200 card.Stop [] stop_card
    → stream_section n Closed (stream ++ stop_card ∷ unread) ≡ record { asked = asked; ending = Stopped }
stream_taken [] stream stop_card unread n are stop =
    let blanks = stream_blanks stream (stop_card ∷ unread) n are in
    blanks.1 ∙ card_taken card.Stop [] stop_card unread blanks.0 stop refl
stream_taken (one ∷ asked) stream stop_card unread n (blanks, line, more, rest, are, blanks_are, is, others) stop =
    let first = stream_blanks blanks (line ∷ more ++ (rest ++ stop_card ∷ unread)) n blanks_are in
    let taken = asked_taken line more one first.0 (rest ++ stop_card ∷ unread) is in
    let lines_are : stream ++ stop_card ∷ unread ≡ blanks ++ (line ∷ more ++ (rest ++ stop_card ∷ unread)) =
    ap (λ (ls : List (List ℕ)). ls ++ stop_card ∷ unread) are ∙ append_assoc blanks (line ∷ more ++ rest) (stop_card ∷ unread)
    ∙ ap (λ (ls : List (List ℕ)). blanks ++ (line ∷ ls)) (append_assoc more rest (stop_card ∷ unread)) in
    ap (λ (ls : List (List ℕ)). stream_section n Closed ls) lines_are
    ∙ first.1
    ∙ taken.1
    ∙ ap (asked_then one) (stream_taken asked rest stop_card unread taken.0 others stop)

-- ---- the whole deck

pub deck_taken : (ls : List (List ℕ)) (deck : Deck) → IsDeck ls deck → deck_of ls ≡ deck
deck_taken ls deck is =
    let stream : List (List ℕ) = is.stream ++ is.stop_card ∷ is.unread in
    let text : List (List ℕ) = is.text ++ is.stream_card ∷ stream in
    let table : List (List ℕ) = is.table ++ is.catalogue_card ∷ text in
    let first = opening_blanks is.blanks (is.accounts_card ∷ table) 1 is.blanks_are in
    let accounts = table_taken deck.accounts [] is.table (is.catalogue_card ∷ text) (first.0 + 1) is.table_is is.names_differ in
    let whole = due (after_lines (progress.SetDue is.version 0 []) is.text) deck.catalogue (text_read is.version is.text deck.catalogue is.text_is) in
    let sets = text_taken is.text (is.stream_card ∷ stream) (accounts.0 + 1) deck.accounts (progress.SetDue is.version 0 []) whole.0 whole.1 deck.catalogue is.text_fits whole.2 in
    ap deck_of is.lines_are
    ∙ first.1
    ∙ opening_card is.accounts_card table first.0 is.accounts_begin
    ∙ accounts.1
    ∙ table_card is.catalogue_card text accounts.0 deck.accounts is.version is.catalogue_begins is.at_once
    ∙ sets.1
    ∙ stream_card is.stream_card stream sets.0 deck.accounts whole.0 whole.1 deck.catalogue is.stream_begins
    ∙ ap (λ (cards : Cards). record { accounts = deck.accounts; catalogue = deck.catalogue; cards = cards }) (stream_taken deck.cards.asked is.stream is.stop_card is.unread (sets.0 + 1) is.stream_is is.stops)
    ∙ ap (λ (e : Ending). record { accounts = deck.accounts; catalogue = deck.catalogue; cards = record { asked = deck.cards.asked; ending = e } }) (sym is.ends)
