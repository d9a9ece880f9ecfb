-- Lines of which a good deck is computed are that deck's.
use Rattle.std.proofs.Common.{◌≡◌, ℕ, suc, ◌+◌, ◌≤◌, ◌==◌, nat_lt, Bool, true, false, not, ◌&&◌, if◌then◌else◌, List, [], ◌∷◌, ◌++◌, length, Option, None}
use Rattle.std.proofs.Common.{Some, is_some, refl, sym, ap, subst, ◌∙◌, arith, true≢false}
use Rattle.std.specs.{Prelude.{codes, bytes_eq, unwrap_or}, List.{list_all, IsDistinct, AllByRecursion}, Cmp.Lexicographic.{nat_list_eq_equiv}}
use Rattle.std.specs.Option.{option_or}
use Rattle.std.proofs.lemmas.{Bool.Decides.{nat_tests}, List.{append_assoc, append-nil, map-append}, Map.Keys.{IsDistinct-push}}
use borrow.Author.Tests.{ne_eqb}
use Rattle.mon_text.specs.{Names.{is_name}, Lines.{is_blank_line, words}}
use Rattle.acl_text.specs.declared.text.AclText.TheVariants.{Short, Long}
use Rattle.mon_access.specs.{declared.account.Account.{Account}, Accounts.{find_account, names_of, HaveDifferentNames}}
use Rattle.mon_catalogue.{specs.declared.version.Version.{Version}, specs.declared.mode.Mode.TheVariants.{Seq}, specs.Text.{text_of}, proofs.Blanks.{both}}
use Rattle.mon_catalogue.{specs.Progress.{Progress, step, is_due, finished}, proofs.Whole.{text_spells}, proofs.Shorthand.{after_lines}}
use Rattle.mon_catalogue.specs.Progress as progress
use Rattle.deck_lines.specs.declared.command.Command.TheVariants as command
use Rattle.deck_lines.specs.{declared.card.Card.{Card}, declared.deck_error.DeckError.{DeckError}, Cards.{card_among, is_card, word_at}, Turns.{turn_on}}
use Rattle.deck_lines.specs.{Refusing.{unless, line_refusal, lone_card_refusal, is_dollar_line}, CardLines.{IsLineWithin, IsCard}}
use Rattle.deck_lines.specs.declared.card.Card.TheVariants as card
use Rattle.deck_lines.specs.declared.deck_error.DeckError.TheVariants.{BadName, BadCharacter, LineTooLong, BadCard, OutOfPlace, AccountTwice, TooManyGroups, Truncated}
use Rattle.deck_syntax.specs.{declared.list.OpenList.{OpenList}, declared.request.Request.TheVariants.{Nothing, Asks, OpensList}, Laws.{ending_of}}
use Rattle.deck_syntax.specs.{declared.job.OpenJob.{OpenJob}, Decks.{Deck, Cards, Asked, Commands, Enters, Gives, Drains, Stopped, Refused}}
use Rattle.deck_syntax.specs.Requests.{mode_on, opened, with_line, set_acl_of, two_names_refusal, stream_card_refusal, card_request, stream_refusal, request_on}
use Rattle.deck_syntax.specs.Requests.{end_refusal, list_text_refusal, list_line_refusal, is_list_character, acl_on}
use Rattle.deck_syntax.specs.inner.Parts.{creation_refusal, set_acl_refusal, catalog_refusal, version_in, heading_refusal, words_refusal, text_refusal}
use Rattle.deck_syntax.specs.Sections.{opening_refusal, account_on, table_refusal, account_refusal, accounts_refusal, table_after, sets_of, ends_catalogue}
use Rattle.deck_syntax.specs.Spelling.{AreBlank, SpellsAccount, SpellsAccounts, NamesOn, SpellsCreation, SpellsShort, version_words, IsListLine, SpellsLong}
use Rattle.deck_syntax.specs.{inner.Parts.{with_unit, with_program_line, program_text}, Sections.{catalogue_refusal, Open, Closed, InList, InJob, deck_of}}
use Rattle.deck_syntax.specs.{Spelling.{SpellsAsked, SpellsStream, IsDeck}, Jobs.{job_refusal, job_on, job_line_refusal, ends_job, after_job_line, unit_on}}
use Rattle.deck_syntax.proofs.{Spelled.{both_hold, neither, passes, taken_line, alone, lone_card, found_is_due}, Headings.{heading_spelled, mode_spelled}}
use Rattle.deck_syntax.proofs.{JobReading.{Took, Ends, Ties, Adds, took, Job, ended, tied, added}, JobsSpelled.{job_opened, job_spelled, turn_spelled}}
use Rattle.deck_syntax.proofs.{Complete.{any_account}, Shorthand.{goes_on, deck_goes_on}}
use Rattle.deck_syntax.specs.Sections.{asked_then, requested, refused_on_line, stream_section, refused_early, catalogue_section, accounts_section, opening_section}

-- ---- before the account table

record Opening (lines : List (List ℕ)) (deck : Deck) : Type 0 where
  blanks : List (List ℕ)
  line : List ℕ
  more : List (List ℕ)
  number : ℕ
  are : lines ≡ blanks ++ line ∷ more
  blanks_are : AreBlank blanks
  card_is : IsCard 200 card.Accounts [] line
  rest : accounts_section number [] more ≡ deck

-- a refused deck is not good
not_good : (deck : Deck) (n : ℕ) (code : DeckError) (accounts : List Account) → ending_of deck ≡ Stopped → refused_early n code accounts ≡ deck → ⊥
not_good deck n code accounts good is = let bad : Refused n code ≡ Stopped = ap ending_of is ∙ good in cc

opening : (lines : List (List ℕ)) (n : ℕ) (deck : Deck) → ending_of deck ≡ Stopped → opening_section n lines ≡ deck → Opening lines deck
opening [] n deck good is = absurd (not_good deck n Truncated [] good is)
opening (line ∷ lines) n deck good is = by (option_or (line_refusal 200 line) (opening_refusal line)) refl is (opening lines (n + 1) deck good)
  where
    next : (b : Bool) → is_blank_line line ≡ b → IsLineWithin 200 line → (if b then None else lone_card_refusal card.Accounts (words line)) ≡ None
        → (if b then opening_section (n + 1) lines else accounts_section (n + 1) [] lines) ≡ deck
        → (opening_section (n + 1) lines ≡ deck → Opening lines deck) → Opening (line ∷ lines) deck
    next true blank within fine is later =
        let o = later is in
        record {
          blanks = line ∷ o.blanks;
          line = o.line;
          more = o.more;
          number = o.number;
          are = ap (λ (ls : List (List ℕ)). line ∷ ls) o.are;
          blanks_are = ((within.0, blank), o.blanks_are);
          card_is = o.card_is;
          rest = o.rest;
        }
    next false blank within fine is later = record {
      blanks = [];
      line = line;
      more = lines;
      number = n + 1;
      are = refl;
      blanks_are = tt;
      card_is = lone_card card.Accounts 200 line within fine;
      rest = is;
    }

    by : (r : Option DeckError) → option_or (line_refusal 200 line) (opening_refusal line) ≡ r
        → deck_goes_on r n [] (if is_blank_line line then opening_section (n + 1) lines else accounts_section (n + 1) [] lines) ≡ deck
        → (opening_section (n + 1) lines ≡ deck → Opening lines deck) → Opening (line ∷ lines) deck
    by (Some code) e is later = absurd (not_good deck n code [] good is)
    by None e is later = let both_none = neither (line_refusal 200 line) (opening_refusal line) e in
        next (is_blank_line line) refl (taken_line 200 line both_none.0) both_none.1 is later

-- ---- the account table

record Table (done : List Account) (lines : List (List ℕ)) (deck : Deck) : Type 0 where
  accounts : List Account
  table : List (List ℕ)
  line : List ℕ
  more : List (List ℕ)
  number : ℕ
  are : lines ≡ table ++ line ∷ more
  table_is : SpellsAccounts table accounts
  differ : HaveDifferentNames (done ++ accounts)
  version : Version
  card_is : IsCard 200 card.Catalogue (version_words version) line
  at_once : is_dollar_line line ≡ true
  rest : catalogue_section number (done ++ accounts) (progress.SetDue version 0 []) more ≡ deck

-- one blank line more before accounts
pub blank_before : (accounts : List Account) (line : List ℕ) (table : List (List ℕ)) → length line ≤ 200 → is_blank_line line ≡ true
    → SpellsAccounts table accounts → SpellsAccounts (line ∷ table) accounts
blank_before [] line table short blank are = ((short, blank), are)
blank_before (account ∷ accounts) line table short blank (blanks, first, rest, are, blanks_are, is, others) =
    (line ∷ blanks, first, rest, ap (λ (ls : List (List ℕ)). line ∷ ls) are, ((short, blank), blanks_are), is, others)

-- two words or more, all names, and at most 16 behind the second
pub account_spelled : (done : List Account) (line : List ℕ) → IsLineWithin 200 line → account_refusal done (words line) ≡ None
    → SpellsAccount line (account_on (words line)) × (is_some (find_account done (word_at 0 (words line))) ≡ false)
account_spelled done line within fine =
    let two = neither (words_refusal (words line)) (table_refusal done (account_on (words line))) fine in
    let ws = neither (unless (nat_lt 1 (length (words line))) BadCard) (unless (list_all is_name (words line)) BadName) two.0 in
    let table = neither (unless (not (is_some (find_account done (word_at 0 (words line))))) AccountTwice) _ two.1 in (
      by (words line) refl (passes (nat_lt 1 (length (words line))) BadCard ws.0) (passes (list_all is_name (words line)) BadName ws.1)
          (few (account_on (words line)).groups (passes _ TooManyGroups table.1)),
      new (is_some (find_account done (word_at 0 (words line)))) (passes _ AccountTwice table.0),
    )
  where
    few : (groups : List (List ℕ)) → not (nat_lt 16 (length groups)) ≡ true → length groups ≤ 16
    few groups h = grind (arith, nat_tests, h)

    new : (b : Bool) → not b ≡ true → b ≡ false
    new true h = absurd (true≢false (sym h))
    new false h = refl

    by : (ws : List (List ℕ)) → words line ≡ ws → nat_lt 1 (length ws) ≡ true → list_all is_name (words line) ≡ true
        → length (account_on (words line)).groups ≤ 16 → SpellsAccount line (account_on (words line))
    by [] e many names few = cc
    by (a ∷ []) e many names few = cc
    by (a ∷ b ∷ ws) e many names few = record {
      line_is = within;
      words_are = e ∙ ap (λ (us : List (List ℕ)). (account_on us).name ∷ (account_on us).primary ∷ (account_on us).groups) (sym e);
      names_are = names;
      few = few;
    }

push_name : (done : List Account) (account : Account) → HaveDifferentNames done → is_some (find_account done account.name) ≡ false
    → HaveDifferentNames (done ++ account ∷ [])
push_name done account differ new =
    subst (IsDistinct bytes_eq) (sym (map-append (λ (a : Account). a.name) done (account ∷ [])))
    (IsDistinct-push nat_list_eq_equiv (names_of done) account.name differ (sym (any_account done account.name) ∙ new))

table : (lines : List (List ℕ)) (n : ℕ) (done : List Account) (deck : Deck) → HaveDifferentNames done → ending_of deck ≡ Stopped
    → accounts_section n done lines ≡ deck → Table done lines deck
table [] n done deck differ good is = absurd (not_good deck n Truncated done good is)
table (line ∷ lines) n done deck differ good is =
    by (option_or (line_refusal 200 line) (accounts_refusal done line)) refl is (λ accounts. table lines (n + 1) accounts deck)
  where
    Later : Type 0
    Later = (accounts : List Account) → HaveDifferentNames accounts → ending_of deck ≡ Stopped → accounts_section (n + 1) accounts lines ≡ deck
        → Table accounts lines deck

    in_table : (b : Bool) → is_blank_line line ≡ b → IsLineWithin 200 line → (if b then None else account_refusal done (words line)) ≡ None
        → accounts_section (n + 1) (if b then done else done ++ account_on (words line) ∷ []) lines ≡ deck → Later → Table done (line ∷ lines) deck
    in_table true blank within fine is later =
        let t = later done differ good is in
        record {
          accounts = t.accounts;
          table = line ∷ t.table;
          line = t.line;
          more = t.more;
          number = t.number;
          are = ap (λ (ls : List (List ℕ)). line ∷ ls) t.are;
          table_is = blank_before t.accounts line t.table within.0 blank t.table_is;
          differ = t.differ;
          version = t.version;
          card_is = t.card_is;
          at_once = t.at_once;
          rest = t.rest;
        }
    in_table false blank within fine is later =
        let account = account_on (words line) in
        let spelled = account_spelled done line within fine in
        let t = later (done ++ account ∷ []) (push_name done account differ spelled.1) good is in
        let assoc = append_assoc done (account ∷ []) t.accounts in
        record {
          accounts = account ∷ t.accounts;
          table = line ∷ t.table;
          line = t.line;
          more = t.more;
          number = t.number;
          are = ap (λ (ls : List (List ℕ)). line ∷ ls) t.are;
          table_is = ([], line, t.table, refl, tt, spelled.0, t.table_is);
          differ = subst HaveDifferentNames assoc t.differ;
          version = t.version;
          card_is = t.card_is;
          at_once = t.at_once;
          rest = ap (λ (all : List Account). catalogue_section t.number all (progress.SetDue t.version 0 []) t.more) (sym assoc) ∙ t.rest;
        }

    next : (b : Bool) → is_dollar_line line ≡ b → IsLineWithin 200 line
        → (if b then heading_refusal (words line) else (if is_blank_line line then None else account_refusal done (words line))) ≡ None
        → (if b then catalogue_section (n + 1) done (progress.SetDue (version_in (words line)) 0 []) lines
        else accounts_section (n + 1) (table_after done line) lines) ≡ deck
        → Later → Table done (line ∷ lines) deck
    next true dollar within fine is later = record {
      accounts = [];
      table = [];
      line = line;
      more = lines;
      number = n + 1;
      are = refl;
      table_is = tt;
      differ = subst HaveDifferentNames (sym (append-nil done)) differ;
      version = version_in (words line);
      card_is = heading_spelled line within fine;
      at_once = dollar;
      rest = ap (λ (all : List Account). catalogue_section (n + 1) all (progress.SetDue (version_in (words line)) 0 []) lines) (append-nil done) ∙ is;
    }
    next false dollar within fine is later = in_table (is_blank_line line) refl within fine is later

    by : (r : Option DeckError) → option_or (line_refusal 200 line) (accounts_refusal done line) ≡ r
        → deck_goes_on r n done (if is_dollar_line line then catalogue_section (n + 1) done (progress.SetDue (version_in (words line)) 0 []) lines
        else accounts_section (n + 1) (table_after done line) lines) ≡ deck
        → Later → Table done (line ∷ lines) deck
    by (Some code) e is later = absurd (not_good deck n code done good is)
    by None e is later = let both_none = neither (line_refusal 200 line) (accounts_refusal done line) e in
        next (is_dollar_line line) refl (taken_line 200 line both_none.0) both_none.1 is later

-- ---- the catalogue

record Loaded (p : Progress) (accounts : List Account) (lines : List (List ℕ)) (deck : Deck) : Type 0 where
  text : List (List ℕ)
  line : List ℕ
  more : List (List ℕ)
  number : ℕ
  version : Version
  count : ℕ
  are : lines ≡ text ++ line ∷ more
  fit : AllByRecursion (IsLineWithin 5000) text
  reached : after_lines p text ≡ progress.SetDue version count deck.catalogue
  card_is : IsCard 5000 card.Stream [] line
  accounts_are : accounts ≡ deck.accounts
  rest : stream_section number Closed more ≡ deck.cards

-- where a `$SET` line is due the sets are whole
due_sets : (p : Progress) → is_due p ≡ true → (version : Version) × (k : ℕ) × (p ≡ progress.SetDue version k (sets_of p))
due_sets (progress.SetDue version k sets) h = (version, k, refl)
due_sets (progress.ListDue version n sets head) h = cc
due_sets (progress.RecordsDue version n sets name set left) h = cc
due_sets (progress.Refused e) h = cc
due_sets progress.OutOfMemory h = cc

loaded : (lines : List (List ℕ)) (n : ℕ) (accounts : List Account) (p : Progress) (deck : Deck) → ending_of deck ≡ Stopped
    → catalogue_section n accounts p lines ≡ deck → Loaded p accounts lines deck
loaded [] n accounts p deck good is = absurd (not_good deck n Truncated accounts good is)
loaded (line ∷ lines) n accounts p deck good is =
    by (option_or (line_refusal 5000 line) (catalogue_refusal p line)) refl is (loaded lines (n + 1) accounts (step p line) deck good)
  where
    Later : Type 0
    Later = catalogue_section (n + 1) accounts (step p line) lines ≡ deck → Loaded (step p line) accounts lines deck

    next : (b : Bool) → ends_catalogue p line ≡ b → IsLineWithin 5000 line → (if b then lone_card_refusal card.Stream (words line)
        else text_refusal (step p line)) ≡ None
        → (if b then record { accounts = accounts; catalogue = sets_of p; cards = stream_section (n + 1) Closed lines }
        else catalogue_section (n + 1) accounts (step p line) lines) ≡ deck
        → Later → Loaded p accounts (line ∷ lines) deck
    next true ends within fine is later =
        let due = due_sets p ((both (is_due p) _ (both (is_due p && not (is_blank_line line)) _ ends).0).0) in
        record {
          text = [];
          line = line;
          more = lines;
          number = n + 1;
          version = due.0;
          count = due.1;
          are = refl;
          fit = tt;
          reached = due.2 ∙ ap (λ (d : Deck). progress.SetDue due.0 due.1 d.catalogue) is;
          card_is = lone_card card.Stream 5000 line within fine;
          accounts_are = ap (λ (d : Deck). d.accounts) is;
          rest = ap (λ (d : Deck). d.cards) is;
        }
    next false ends within fine is later =
        let l = later is in
        record {
          text = line ∷ l.text;
          line = l.line;
          more = l.more;
          number = l.number;
          version = l.version;
          count = l.count;
          are = ap (λ (ls : List (List ℕ)). line ∷ ls) l.are;
          fit = (within, l.fit);
          reached = l.reached;
          card_is = l.card_is;
          accounts_are = l.accounts_are;
          rest = l.rest;
        }

    by : (r : Option DeckError) → option_or (line_refusal 5000 line) (catalogue_refusal p line) ≡ r
        → deck_goes_on r n accounts (if ends_catalogue p line
        then record { accounts = accounts; catalogue = sets_of p; cards = stream_section (n + 1) Closed lines }
        else catalogue_section (n + 1) accounts (step p line) lines) ≡ deck
        → Later → Loaded p accounts (line ∷ lines) deck
    by (Some code) e is later = absurd (not_good deck n code accounts good is)
    by None e is later = let both_none = neither (line_refusal 5000 line) (catalogue_refusal p line) e in
        next (ends_catalogue p line) refl (taken_line 5000 line both_none.0) both_none.1 is later

-- ---- the stream

pub record Stream (lines : List (List ℕ)) (cards : Cards) : Type 0 where
  pub stream : List (List ℕ)
  pub line : List ℕ
  pub unread : List (List ℕ)
  pub are : lines ≡ stream ++ line ∷ unread
  pub stream_is : SpellsStream stream cards.asked
  pub card_is : IsCard 200 card.Stop [] line

-- the lines of a list that is open, and what follows its end
pub record Listed (account name text : List ℕ) (lines : List (List ℕ)) (cards : Cards) : Type 0 where
  list : List (List ℕ)
  line : List ℕ
  rest : List (List ℕ)
  later : Cards
  are : lines ≡ list ++ line ∷ rest
  list_is : AllByRecursion IsListLine list
  card_is : IsCard 200 card.EndAcl [] line
  at_once : is_dollar_line line ≡ true
  cards_are : asked_then (Commands (command.SetAcl account name (Long (text ++ text_of list)))) later ≡ cards
  stream : Stream rest later

-- the lines of a job that is open, and what follows its end
pub record Jobbed (job : OpenJob) (lines : List (List ℕ)) (cards : Cards) : Type 0 where
  whole : OpenJob
  rest : List (List ℕ)
  later : Cards
  job_is : Job job lines whole rest
  cards_are : asked_then (Enters whole) later ≡ cards
  stream : Stream rest later

abbrev pub Streams : Open → List (List ℕ) → Cards → Type 0
Streams Closed lines cards = Stream lines cards
Streams (InList list) lines cards = Listed list.account list.name list.text lines cards
Streams (InJob job) lines cards = Jobbed job lines cards

not_stopped : (cards : Cards) (n : ℕ) (code : DeckError) → cards.ending ≡ Stopped → refused_on_line n code ≡ cards → ⊥
not_stopped cards n code good is = let bad : Refused n code ≡ Stopped = ap (λ (c : Cards). c.ending) is ∙ good in cc

-- one blank line more before all that is asked
blank_first : (asked : List Asked) (line : List ℕ) (stream : List (List ℕ)) → length line ≤ 200 → is_blank_line line ≡ true → SpellsStream stream asked
    → SpellsStream (line ∷ stream) asked
blank_first [] line stream short blank are = ((short, blank), are)
blank_first (one ∷ asked) line stream short blank (blanks, first, more, rest, are, blanks_are, is, others) =
    (line ∷ blanks, first, more, rest, ap (λ (ls : List (List ℕ)). line ∷ ls) are, ((short, blank), blanks_are), is, others)

-- what is asked first, and the stream behind it
one_asked : (line : List ℕ) (more rest : List (List ℕ)) (one : Asked) (later cards : Cards) → SpellsAsked line more one → Stream rest later
    → asked_then one later ≡ cards → Stream (line ∷ more ++ rest) cards
one_asked line more rest one later cards is s same = record {
  stream = line ∷ more ++ s.stream;
  line = s.line;
  unread = s.unread;
  are = ap (λ (ls : List (List ℕ)). line ∷ ls) (ap (λ (ls : List (List ℕ)). more ++ ls) s.are ∙ sym (append_assoc more s.stream (s.line ∷ s.unread)));
  stream_is = subst (λ (c : Cards). SpellsStream (line ∷ more ++ s.stream) c.asked) same ([], line, more, s.stream, refl, tt, is, s.stream_is);
  card_is = s.card_is;
}

-- the names on a card
two_names : (due : Card) (line : List ℕ) → IsLineWithin 200 line → card_among (words line) ≡ Some due → two_names_refusal (words line) ≡ None
    → NamesOn due (word_at 1 (words line) ∷ word_at 2 (words line) ∷ []) line
two_names due line within found fine =
    let parts = neither (unless (length (words line) == 3) BadCard) _ fine in
    by (words line) refl found (passes (length (words line) == 3) BadCard parts.0)
    (passes (is_name (word_at 1 (words line)) && is_name (word_at 2 (words line))) BadName parts.1)
  where
    by : (ws : List (List ℕ)) → words line ≡ ws → card_among ws ≡ Some due → (length ws == 3) ≡ true → (is_name (word_at 1 ws) && is_name (word_at 2 ws)) ≡ true
        → NamesOn due (word_at 1 (words line) ∷ word_at 2 (words line) ∷ []) line
    by [] e found three names = cc
    by (a ∷ []) e found three names = cc
    by (a ∷ b ∷ []) e found three names = cc
    by (a ∷ b ∷ c ∷ []) e found three names =
        let is = both (is_name b) (is_name c) names in
        subst (λ (ws : List (List ℕ)). NamesOn due (word_at 1 ws ∷ word_at 2 ws ∷ []) line) (sym e) (
          record { word = a; line_is = within; words_are = e; names_it = found },
          both_hold (is_name b) (is_name c && true) is.0
              (both_hold (is_name c) true is.1 refl),
        )
    by (a ∷ b ∷ c ∷ d ∷ ws) e found three names = absurd (true≢false (sym three ∙ ne_eqb (suc (suc (suc (suc (length ws))))) 3 (omega arith)))

creation : (line : List ℕ) → IsLineWithin 200 line → card_among (words line) ≡ Some card.Create → creation_refusal (words line) ≡ None
    → SpellsCreation (word_at 1 (words line)) (word_at 2 (words line)) (unwrap_or (mode_on (words line)) Seq) line
creation line within found fine =
    let parts = neither (unless (is_some (mode_on (words line))) BadCard) _ fine in
    let asks = mode_spelled (words line) (passes (is_some (mode_on (words line))) BadCard parts.0) in
    let account : word_at 1 (words line) ≡ asks.account = ap (word_at 1) asks.words_are in
    let name : word_at 2 (words line) ≡ asks.name = ap (word_at 2) asks.words_are in
    record {
      others = asks.others;
      card_is = record {
        word = asks.word;
        line_is = within;
        words_are = asks.words_are ∙ ap (λ (x : List ℕ). asks.word ∷ x ∷ asks.name ∷ asks.others) (sym account)
            ∙ ap (λ (x : List ℕ). asks.word ∷ word_at 1 (words line) ∷ x ∷ asks.others) (sym name);
        names_it = ap card_among (sym asks.words_are) ∙ found;
      };
      names_are = passes (is_name (word_at 1 (words line)) && is_name (word_at 2 (words line))) BadName parts.1;
      mode_is = asks.mode_is;
    }

one_name : (line : List ℕ) → IsLineWithin 200 line → card_among (words line) ≡ Some card.Catalog → catalog_refusal (words line) ≡ None
    → NamesOn card.Catalog (word_at 1 (words line) ∷ []) line
one_name line within found fine =
    let parts = neither (unless (length (words line) == 2) BadCard) _ fine in
    by (words line) refl found (passes (length (words line) == 2) BadCard parts.0) (passes (is_name (word_at 1 (words line))) BadName parts.1)
  where
    by : (ws : List (List ℕ)) → words line ≡ ws → card_among ws ≡ Some card.Catalog → (length ws == 2) ≡ true → is_name (word_at 1 ws) ≡ true
        → NamesOn card.Catalog (word_at 1 (words line) ∷ []) line
    by [] e found two name = cc
    by (a ∷ []) e found two name = cc
    by (a ∷ b ∷ []) e found two name =
        subst (λ (ws : List (List ℕ)). NamesOn card.Catalog (word_at 1 ws ∷ []) line) (sym e)
        (record { word = a; line_is = within; words_are = e; names_it = found }, both_hold (is_name b) true name refl)
    by (a ∷ b ∷ c ∷ ws) e found two name = absurd (true≢false (sym two ∙ ne_eqb (suc (suc (suc (length ws)))) 2 (omega arith)))

-- a `$SETACL` card, with a text on it or without
abbrev SetsBy : Bool → List ℕ → List (List ℕ) → Type 0
SetsBy true line ws = NamesOn card.SetAcl (word_at 1 ws ∷ word_at 2 ws ∷ []) line
SetsBy false line ws = SpellsShort (word_at 1 ws) (word_at 2 ws) (acl_on line) line

abbrev SetsAcl : List ℕ → List (List ℕ) → Type 0
SetsAcl line ws = SetsBy (length ws == 3) line ws

set_acl : (line : List ℕ) → IsLineWithin 200 line → card_among (words line) ≡ Some card.SetAcl → set_acl_refusal (words line) ≡ None → SetsAcl line (words line)
set_acl line within found fine =
    let parts = neither (unless (nat_lt 2 (length (words line))) BadCard) _ fine in
    by (words line) refl found (passes (nat_lt 2 (length (words line))) BadCard parts.0)
    (passes (is_name (word_at 1 (words line)) && is_name (word_at 2 (words line))) BadName parts.1)
  where
    by : (ws : List (List ℕ)) → words line ≡ ws → card_among ws ≡ Some card.SetAcl → nat_lt 2 (length ws) ≡ true
        → (is_name (word_at 1 ws) && is_name (word_at 2 ws)) ≡ true
        → SetsAcl line (words line)
    by [] e found many names = cc
    by (a ∷ []) e found many names = cc
    by (a ∷ b ∷ []) e found many names = cc
    by (a ∷ b ∷ c ∷ []) e found many names =
        let is = both (is_name b) (is_name c) names in
        subst (SetsAcl line) (sym e) (
          record { word = a; line_is = within; words_are = e; names_it = found },
          both_hold (is_name b) (is_name c && true) is.0
              (both_hold (is_name c) true is.1 refl),
        )
    by (a ∷ b ∷ c ∷ d ∷ ws) e found many names =
        let more : (length (a ∷ b ∷ c ∷ d ∷ ws) == 3) ≡ false = ne_eqb (suc (suc (suc (suc (length ws))))) 3 (omega arith) in
        let short : SpellsShort b c (acl_on line) line =
        record {
          first = d;
          others = ws;
          card_is = record { word = a; line_is = within; words_are = e; names_it = found };
          names_are = names;
          text_is = refl;
        } in
        subst (SetsAcl line) (sym e) (subst (λ (t : Bool). SetsBy t line (a ∷ b ∷ c ∷ d ∷ ws)) (sym more) short)

module _ (line : List ℕ) (lines : List (List ℕ)) (n : ℕ) (cards : Cards) (good : cards.ending ≡ Stopped) where
  abbrev Later : Type 0
  Later = (pending : Open) (later : Cards) → later.ending ≡ Stopped → stream_section (n + 1) pending lines ≡ later → Streams pending lines later

  -- a card of one line
  one_line : (one : Asked) → SpellsAsked line [] one → asked_then one (stream_section (n + 1) Closed lines) ≡ cards → Later → Stream (line ∷ lines) cards
  one_line one is same later =
      one_asked line [] lines one (stream_section (n + 1) Closed lines) cards is
      (later Closed (stream_section (n + 1) Closed lines) (ap (λ (c : Cards). c.ending) same ∙ good) refl) same

  set_acl_card : (ws : List (List ℕ)) (three : Bool) → (length ws == 3) ≡ three
      → SetsBy three line ws
      → requested (if three then OpensList (word_at 1 ws) (word_at 2 ws)
      else Asks (command.SetAcl (word_at 1 ws) (word_at 2 ws) (Short (acl_on line)))) (λ pending. stream_section (n + 1) pending lines) ≡ cards
      → Later → Stream (line ∷ lines) cards
  set_acl_card ws false e short same later = one_line (Commands (command.SetAcl (word_at 1 ws) (word_at 2 ws) (Short (acl_on line)))) (short, refl) same later
  set_acl_card ws true e names same later =
      let l = later (InList (opened (word_at 1 ws) (word_at 2 ws))) cards good same in
      let long : SpellsLong (l.list ++ l.line ∷ []) (text_of l.list) =
      record { list = l.list; end_card = l.line; lines_are = refl; list_is = l.list_is; ends = l.card_is; at_once = l.at_once; text_is = refl } in
      subst (λ (ls : List (List ℕ)). Stream (line ∷ ls) cards) (append_assoc l.list (l.line ∷ []) l.rest ∙ sym l.are)
      (one_asked line (l.list ++ l.line ∷ []) l.rest (Commands (command.SetAcl (word_at 1 ws) (word_at 2 ws) (Long (text_of l.list)))) l.later cards
      (names, long) l.stream l.cards_are)

  job_card : card_among (words line) ≡ Some card.Job → IsLineWithin 200 line → job_refusal (words line) ≡ None
      → stream_section (n + 1) (InJob (job_on (words line))) lines ≡ cards
      → Later → Stream (line ∷ lines) cards
  job_card found within fine same later =
      let first = job_on (words line) in
      let l = later (InJob first) cards good same in
      let j = job_spelled line lines first l.whole l.rest (job_opened line within found fine) l.job_is in
      subst (λ (ls : List (List ℕ)). Stream (line ∷ ls) cards) (sym j.are)
      (one_asked line j.more l.rest (Enters l.whole) l.later cards j.is l.stream l.cards_are)

  a_card : (o : Option Card) → card_among (words line) ≡ o → IsLineWithin 200 line → stream_card_refusal o (words line) ≡ None
      → requested (card_request o line (words line)) (λ pending. stream_section (n + 1) pending lines) ≡ cards → Later → Stream (line ∷ lines) cards
  a_card None found within fine same later = cc
  a_card (Some card.Accounts) found within fine same later = cc
  a_card (Some card.Catalogue) found within fine same later = cc
  a_card (Some card.Set) found within fine same later = cc
  a_card (Some card.Stream) found within fine same later = cc
  a_card (Some card.EndAcl) found within fine same later = cc
  a_card (Some card.Tie) found within fine same later = cc
  a_card (Some card.EndJob) found within fine same later = cc
  a_card (Some card.Create) found within fine same later =
      one_line (Commands (command.Create (word_at 1 (words line)) (word_at 2 (words line)) (unwrap_or (mode_on (words line)) Seq)))
      (creation line within found fine, refl) same later
  a_card (Some card.Delete) found within fine same later = one_line (Commands (command.Delete (word_at 1 (words line)) (word_at 2 (words line))))
      (two_names card.Delete line within found fine, refl) same later
  a_card (Some card.ShowAcl) found within fine same later = one_line (Commands (command.ShowAcl (word_at 1 (words line)) (word_at 2 (words line))))
      (two_names card.ShowAcl line within found fine, refl) same later
  a_card (Some card.List) found within fine same later = one_line (Commands (command.List (word_at 1 (words line)) (word_at 2 (words line))))
      (two_names card.List line within found fine, refl) same later
  a_card (Some card.Catalog) found within fine same later =
      one_line (Commands (command.Catalog (word_at 1 (words line)))) (one_name line within found fine, refl) same later
  a_card (Some card.SetAcl) found within fine same later = set_acl_card (words line) (length (words line) == 3) refl (set_acl line within found fine) same later
  a_card (Some card.Job) found within fine same later = job_card found within fine same later
  a_card (Some card.Turn) found within fine same later = one_line (Gives (turn_on (words line))) (turn_spelled line within found fine, refl) same later
  a_card (Some card.Drain) found within fine same later =
      one_line Drains (alone card.Drain 200 line within found (passes (length (words line) == 1) BadCard fine), refl) same later
  a_card (Some card.Stop) found within fine same later = record {
    stream = [];
    line = line;
    unread = lines;
    are = refl;
    stream_is = subst (λ (c : Cards). SpellsStream [] c.asked) same tt;
    card_is = alone card.Stop 200 line within found (passes (length (words line) == 1) BadCard fine);
  }

  in_stream : (b : Bool) → is_blank_line line ≡ b → IsLineWithin 200 line → (if b then None else stream_card_refusal (card_among (words line)) (words line)) ≡ None
      → requested (if b then Nothing else card_request (card_among (words line)) line (words line)) (λ pending. stream_section (n + 1) pending lines) ≡ cards
      → Later → Stream (line ∷ lines) cards
  in_stream false blank within fine same later = a_card (card_among (words line)) refl within fine same later
  in_stream true blank within fine same later =
      let s = later Closed cards good same in
      record {
        stream = line ∷ s.stream;
        line = s.line;
        unread = s.unread;
        are = ap (λ (ls : List (List ℕ)). line ∷ ls) s.are;
        stream_is = blank_first cards.asked line s.stream within.0 blank s.stream_is;
        card_is = s.card_is;
      }

  stream_line : (r : Option DeckError) → option_or (line_refusal 200 line) (stream_refusal line) ≡ r
      → goes_on r n (requested (request_on line) (λ pending. stream_section (n + 1) pending lines)) ≡ cards
      → Later → Stream (line ∷ lines) cards
  stream_line (Some code) e same later = absurd (not_stopped cards n code good same)
  stream_line None e same later =
      let both_none = neither (line_refusal 200 line) (stream_refusal line) e in
      in_stream (is_blank_line line) refl (taken_line 200 line both_none.0) both_none.1 same later

  -- in a list
  module _ (list : OpenList) where
    list_text : list_text_refusal line ≡ None → is_dollar_line line ≡ false → IsListLine line
    list_text fine plain = by (nat_lt 200 (length line)) refl fine
      where
        by : (b : Bool) → nat_lt 200 (length line) ≡ b → (if b then Some LineTooLong
            else unless (list_all is_list_character line) BadCharacter) ≡ None → IsListLine line
        by true e fine = cc
        by false e fine = (grind (arith, nat_tests, e), passes (list_all is_list_character line) BadCharacter fine, plain)

    in_list : (b : Bool) → is_dollar_line line ≡ b → (if b then option_or (line_refusal 200 line) (end_refusal (words line)) else list_text_refusal line) ≡ None
        → (if b then asked_then (Commands (set_acl_of list)) (stream_section (n + 1) Closed lines)
        else stream_section (n + 1) (InList (with_line list line)) lines) ≡ cards
        → Later → Listed list.account list.name list.text (line ∷ lines) cards
    in_list true dollar fine same later =
        let parts = neither (line_refusal 200 line) (end_refusal (words line)) fine in
        let two = neither (unless (is_card card.EndAcl (card_among (words line))) OutOfPlace) _ parts.1 in
        record {
          list = [];
          line = line;
          rest = lines;
          later = stream_section (n + 1) Closed lines;
          are = refl;
          list_is = tt;
          card_is =
              alone card.EndAcl 200 line (taken_line 200 line parts.0)
              (found_is_due card.EndAcl (card_among (words line)) (passes (is_card card.EndAcl (card_among (words line))) OutOfPlace two.0))
              (passes (length (words line) == 1) BadCard two.1);
          at_once = dollar;
          cards_are = ap (λ (t : List ℕ). asked_then (Commands (command.SetAcl list.account list.name (Long t))) (stream_section (n + 1) Closed lines))
              (append-nil list.text) ∙ same;
          stream = later Closed (stream_section (n + 1) Closed lines) (ap (λ (c : Cards). c.ending) same ∙ good) refl;
        }
    in_list false dollar fine same later =
        let l = later (InList (with_line list line)) cards good same in
        record {
          list = line ∷ l.list;
          line = l.line;
          rest = l.rest;
          later = l.later;
          are = ap (λ (ls : List (List ℕ)). line ∷ ls) l.are;
          list_is = (list_text fine dollar, l.list_is);
          card_is = l.card_is;
          at_once = l.at_once;
          cards_are = ap (λ (t : List ℕ). asked_then (Commands (command.SetAcl list.account list.name (Long t))) l.later)
              (sym (append_assoc list.text (line ++ codes "\n") (text_of l.list))) ∙ l.cards_are;
          stream = l.stream;
        }

    list_line : (r : Option DeckError) → list_line_refusal line ≡ r
        → goes_on r n (if is_dollar_line line then asked_then (Commands (set_acl_of list)) (stream_section (n + 1) Closed lines)
        else stream_section (n + 1) (InList (with_line list line)) lines) ≡ cards
        → Later → Listed list.account list.name list.text (line ∷ lines) cards
    list_line (Some code) e same later = absurd (not_stopped cards n code good same)
    list_line None e same later = in_list (is_dollar_line line) refl e same later

  -- in a job
  module _ (job : OpenJob) where
    abbrev job_leads_to : Bool → OpenJob → Cards
    job_leads_to ends after = if ends then asked_then (Enters job) (stream_section (n + 1) Closed lines) else stream_section (n + 1) (InJob after) lines

    goes_further : (after : OpenJob) → ends_job line ≡ false → after_job_line job line ≡ after
        → job_leads_to (ends_job line) (after_job_line job line) ≡ cards → stream_section (n + 1) (InJob after) lines ≡ cards
    goes_further after e is same = sym (ap (λ (b : Bool). job_leads_to b (after_job_line job line)) e ∙ ap (job_leads_to false) is) ∙ same

    in_job : Took job line → job_leads_to (ends_job line) (after_job_line job line) ≡ cards → Later → Jobbed job (line ∷ lines) cards
    in_job (Ends end_is at_once e) same later =
        let whole = sym (ap (λ (b : Bool). job_leads_to b (after_job_line job line)) e) ∙ same in
        record {
          whole = job;
          rest = lines;
          later = stream_section (n + 1) Closed lines;
          job_is = ended job line lines end_is at_once;
          cards_are = whole;
          stream = later Closed (stream_section (n + 1) Closed lines) (ap (λ (c : Cards). c.ending) whole ∙ good) refl;
        }
    in_job (Ties before spelled e after) same later =
        let tie = unit_on (words line) in
        let l = later (InJob (with_unit job tie)) cards good (goes_further (with_unit job tie) e after same) in
        record {
          whole = l.whole;
          rest = l.rest;
          later = l.later;
          job_is = tied job l.whole line tie lines l.rest before spelled l.job_is;
          cards_are = l.cards_are;
          stream = l.stream;
        }
    in_job (Adds spelled e after) same later =
        let text = program_text line in
        let l = later (InJob (with_program_line job text)) cards good (goes_further (with_program_line job text) e after same) in
        record {
          whole = l.whole;
          rest = l.rest;
          later = l.later;
          job_is = added job l.whole line text lines l.rest spelled l.job_is;
          cards_are = l.cards_are;
          stream = l.stream;
        }

    job_line : (r : Option DeckError) → job_line_refusal job line ≡ r → goes_on r n (job_leads_to (ends_job line) (after_job_line job line)) ≡ cards → Later
        → Jobbed job (line ∷ lines) cards
    job_line (Some code) e same later = absurd (not_stopped cards n code good same)
    job_line None e same later = in_job (took job line e) same later

pub streams : (lines : List (List ℕ)) (n : ℕ) (pending : Open) (cards : Cards) → cards.ending ≡ Stopped → stream_section n pending lines ≡ cards
    → Streams pending lines cards
streams [] n Closed cards good is = absurd (not_stopped cards n Truncated good is)
streams [] n (InList list) cards good is = absurd (not_stopped cards n Truncated good is)
streams [] n (InJob job) cards good is = absurd (not_stopped cards n Truncated good is)
streams (line ∷ lines) n Closed cards good is = stream_line line lines n cards good (option_or (line_refusal 200 line) (stream_refusal line)) refl is
    (λ pending later. streams lines (n + 1) pending later)
streams (line ∷ lines) n (InList list) cards good is =
    list_line line lines n cards good list (list_line_refusal line) refl is (λ pending later. streams lines (n + 1) pending later)
streams (line ∷ lines) n (InJob job) cards good is =
    job_line line lines n cards good job (job_line_refusal job line) refl is (λ pending later. streams lines (n + 1) pending later)

-- ---- the whole deck

no_names : HaveDifferentNames []
unfolding IsDistinct
no_names = tt

pub deck_spelled : (ls : List (List ℕ)) (deck : Deck) → deck_of ls ≡ deck → ending_of deck ≡ Stopped → IsDeck ls deck
deck_spelled ls deck is good =
    let o = opening ls 1 deck good is in
    let t = table o.more o.number [] deck no_names good o.rest in
    let l = loaded t.more t.number t.accounts (progress.SetDue t.version 0 []) deck good t.rest in
    let s = streams l.more l.number Closed deck.cards good l.rest in
    record {
      blanks = o.blanks;
      accounts_card = o.line;
      table = t.table;
      catalogue_card = t.line;
      version = t.version;
      text = l.text;
      stream_card = l.line;
      stream = s.stream;
      stop_card = s.line;
      unread = s.unread;
      lines_are =
          o.are ∙ ap (λ (more : List (List ℕ)). o.blanks ++ (o.line ∷ more))
          (t.are ∙ ap (λ (more : List (List ℕ)). t.table ++ (t.line ∷ more))
          (l.are ∙ ap (λ (more : List (List ℕ)). l.text ++ (l.line ∷ more)) s.are));
      blanks_are = o.blanks_are;
      accounts_begin = o.card_is;
      table_is = subst (SpellsAccounts t.table) l.accounts_are t.table_is;
      names_differ = subst HaveDifferentNames l.accounts_are t.differ;
      catalogue_begins = t.card_is;
      at_once = t.at_once;
      text_is = text_spells t.version l.text deck.catalogue (ap finished l.reached);
      text_fits = l.fit;
      stream_begins = l.card_is;
      stream_is = s.stream_is;
      stops = s.card_is;
      ends = good;
    }
