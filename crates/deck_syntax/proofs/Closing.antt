-- The lines before a refused one begin a good deck: what closes it.
use Rattle.std.proofs.Common.{◌≡◌, ℕ, zero, suc, ◌+◌, ◌-◌, ◌==◌, ◌⊎◌, inl, inr, Bool, true, false, if◌then◌else◌, List, [], ◌∷◌, ◌++◌, take, Option, None, Some, Result, Ok, Err, refl, sym, ap, subst, ◌∙◌, arith}
use borrow.Author.Tests.{ne_eqb}
use Rattle.std.specs.{Prelude.{codes}, List.{AllByRecursion}, Option.{option_or}}
use Rattle.mon_text.specs.Lines.{is_blank_line, words}
use Rattle.mon_acl.specs.declared.{entries.Entry.{Entry}, entries.Tag.TheVariants.{UserObj, GroupObj, Other}, refusals.AclError.{AclError}}
use Rattle.acl_text.specs.Reading.{read_short}
use Rattle.mon_access.specs.declared.account.Account.{Account}
use Rattle.mon_catalogue.specs.declared.{version.Version.{Version}, data_set.DataSet.{DataSet}, head.Head.{Head}}
use Rattle.mon_catalogue.specs.declared.loading.CatalogueError.{CatalogueError, TheVariants.{BadText}}
use Rattle.mon_catalogue.specs.{Head.{head_of, head_refusal}, Records.{is_record}, Sets.{Sets, empty_set}, inner.Parts.{with_record}}
use Rattle.mon_catalogue.{specs.Progress.{Progress, step, with_due, after_acl}, proofs.Shorthand.{after_lines, after_head, after_words}}
use Rattle.mon_catalogue.specs.Progress as progress
use Rattle.deck_lines.specs.declared.card.Card.TheVariants as card
use Rattle.deck_lines.specs.{declared.deck_error.DeckError.{DeckError}, declared.deck_error.DeckError.TheVariants.{Truncated}, CardLines.{IsLineWithin}}
use Rattle.deck_lines.specs.Refusing.{line_refusal, lone_card_refusal, is_dollar_line}
use Rattle.deck_syntax.specs.{declared.request.Request.{Request}, Decks.{Deck, Cards, Asked, Commands, Enters, Gives, Drains, Stopped, Refused}}
use Rattle.deck_syntax.specs.{Jobs.{job_line_refusal, ends_job, after_job_line}, inner.Parts.{version_in, text_refusal}, Spelling.{IsDeck}}
use Rattle.deck_syntax.specs.Requests.{opened, with_line, set_acl_of, stream_refusal, request_on, list_line_refusal}
use Rattle.deck_syntax.specs.Laws.{ending_of, IsLeftOpen, BeginsGood, GoodBeginnings}
use Rattle.deck_syntax.proofs.{Complete.{text_taken}, Sound.{deck_spelled}, Standing.{place_of, unasked}, Shorthand.{goes_on, deck_goes_on}}
use Rattle.deck_syntax.specs.declared.request.Request.TheVariants as request
use Rattle.deck_syntax.specs.Sections.{opening_refusal, accounts_refusal, table_after, sets_of, ends_catalogue, catalogue_refusal, Open, Closed, InList, InJob, asked_then, requested, refused_on_line, stopped, stream_section, refused_early, catalogue_section, accounts_section, opening_section, deck_of}

-- what lines say from number n on is refused at line k; those before that line, and some behind them, say what is good
abbrev Begins : {X : Type 0} → (X → X → List Asked → Type 0) → (List (List ℕ) → X) → ℕ → List (List ℕ) → ℕ → Type 0
Begins As says n lines k =
    (i : ℕ) × (rest : List (List ℕ)) × (last : List Asked) × (k ≡ n + i) × IsLeftOpen last × As (says lines) (says (take i lines ++ rest)) last

module _ {X : Type 0} (As : X → X → List Asked → Type 0) (says : List (List ℕ) → X) (n k : ℕ) where
  -- at the first of these lines, or behind the last
  here : (lines rest : List (List ℕ)) (last : List Asked) (bad good : X) → k ≡ n → IsLeftOpen last → says lines ≡ bad → says rest ≡ good → As bad good last → Begins As says n lines k
  here lines rest last bad good same left is closed so =
      (0, rest, last, omega (arith, same), left, subst (λ x. As x (says rest) last) (sym is) (subst (λ y. As bad y last) (sym closed) so))

  -- behind the first of them
  further : {Y : Type 0} (So : Y → Y → List Asked → Type 0) (later : List (List ℕ) → Y) (line : List ℕ) (lines : List (List ℕ)) (put : Y → X)
      → ((bad good : Y) (last : List Asked) → So bad good last → As (put bad) (put good) last)
      → ((ls : List (List ℕ)) → says (line ∷ ls) ≡ put (later ls)) → Begins So later (n + 1) lines k → Begins As says n (line ∷ lines) k
  further So later line lines put keeps is (i, rest, last, place, left, so) =
      let more = take i lines ++ rest in (
        suc i,
        rest,
        last,
        omega (arith, place),
        left,
        subst (λ x. As x (says (line ∷ more)) last) (sym (is lines)) (subst (λ y. As (put (later lines)) y last) (sym (is more)) (keeps (later lines) (later more) last so)),
      )

-- ---- the stream

-- these cards are refused, and those are the same up to there and come to their end
record GoodCards (bad good : Cards) (last : List Asked) : Type 0 where
  asked : good.asked ≡ bad.asked ++ last
  ends : good.ending ≡ Stopped

same_cards : (bad good : Cards) (last : List Asked) → GoodCards bad good last → GoodCards bad good last
same_cards bad good last so = so

after_asked : (one : Asked) (bad good : Cards) (last : List Asked) → GoodCards bad good last → GoodCards (asked_then one bad) (asked_then one good) last
after_asked one bad good last so = record { asked = ap (λ os. one ∷ os) so.asked; ends = so.ends }

-- what closes the stream
abbrev closing_cards : Open → List (List ℕ)
closing_cards Closed = codes "$STOP" ∷ []
closing_cards (InList list) = codes "$ENDACL" ∷ codes "$STOP" ∷ []
closing_cards (InJob job) = codes "$EOJ" ∷ codes "$STOP" ∷ []

abbrev left_open : Open → List Asked
left_open Closed = []
left_open (InList list) = Commands (set_acl_of list) ∷ []
left_open (InJob job) = Enters job ∷ []

is_left_open : (pending : Open) → IsLeftOpen (left_open pending)
is_left_open Closed = inl refl
is_left_open (InList list) = inr (inl (list.account, list.name, list.text, refl))
is_left_open (InJob job) = inr (inr (job, refl))

stream_closed : (n : ℕ) (pending : Open) → stream_section n pending (closing_cards pending) ≡ record { asked = left_open pending; ending = Stopped }
stream_closed n Closed = refl
stream_closed n (InList list) = refl
stream_closed n (InJob job) = refl

module _ (k : ℕ) (code : DeckError) where
  abbrev StreamBegins : ℕ → Open → List (List ℕ) → Type 0
  StreamBegins n pending lines = Begins GoodCards (λ ls. stream_section n pending ls) n lines k

  closed_here : (n : ℕ) (pending : Open) (lines : List (List ℕ)) (c : DeckError) → k ≡ n → stream_section n pending lines ≡ refused_on_line n c → StreamBegins n pending lines
  closed_here n pending lines c same is =
      here GoodCards (λ ls. stream_section n pending ls) n k lines (closing_cards pending) (left_open pending) (refused_on_line n c) (record { asked = left_open pending; ending = Stopped }) same
      (is_left_open pending) is (stream_closed n pending) (record { asked = refl; ends = refl })

  stream_begins : (lines : List (List ℕ)) (n : ℕ) (pending : Open) → (stream_section n pending lines).ending ≡ Refused k code → StreamBegins n pending lines
  stream_begins [] n Closed is = closed_here n Closed [] Truncated (place_of n k Truncated code is) refl
  stream_begins [] n (InList list) is = closed_here n (InList list) [] Truncated (place_of n k Truncated code is) refl
  stream_begins [] n (InJob job) is = closed_here n (InJob job) [] Truncated (place_of n k Truncated code is) refl
  stream_begins (line ∷ lines) n Closed is =
      by (option_or (line_refusal 200 line) (stream_refusal line)) refl is (λ pending. stream_begins lines (n + 1) pending)
    where
      Later : Type 0
      Later = (pending : Open) → (stream_section (n + 1) pending lines).ending ≡ Refused k code → StreamBegins (n + 1) pending lines

      rest : Request → List (List ℕ) → Cards
      rest request ls = requested request (λ pending. stream_section (n + 1) pending ls)

      on : (pending : Open) (put : Cards → Cards) (request : Request) → ((bad good : Cards) (last : List Asked) → GoodCards bad good last → GoodCards (put bad) (put good) last)
          → option_or (line_refusal 200 line) (stream_refusal line) ≡ None → request_on line ≡ request
          → ((ls : List (List ℕ)) → rest request ls ≡ put (stream_section (n + 1) pending ls)) → StreamBegins (n + 1) pending lines → StreamBegins n Closed (line ∷ lines)
      on pending put request keeps e r is begins =
          further GoodCards (λ ls. stream_section n Closed ls) n k GoodCards (λ ls. stream_section (n + 1) pending ls) line lines put keeps
          (λ ls. ap (λ o. goes_on o n (rest (request_on line) ls)) e ∙ ap (λ q. rest q ls) r ∙ is ls) begins

      asked : (request : Request) → option_or (line_refusal 200 line) (stream_refusal line) ≡ None → request_on line ≡ request → (rest request lines).ending ≡ Refused k code → Later
          → StreamBegins n Closed (line ∷ lines)
      asked request.Nothing e r is later = on Closed (λ c. c) request.Nothing same_cards e r (λ ls. refl) (later Closed is)
      asked (request.Asks command) e r is later =
          on Closed (asked_then (Commands command)) (request.Asks command) (after_asked (Commands command)) e r (λ ls. refl) (later Closed is)
      asked (request.OpensList account name) e r is later =
          on (InList (opened account name)) (λ c. c) (request.OpensList account name) same_cards e r (λ ls. refl) (later (InList (opened account name)) is)
      asked (request.OpensJob job) e r is later = on (InJob job) (λ c. c) (request.OpensJob job) same_cards e r (λ ls. refl) (later (InJob job) is)
      asked (request.Turns turn) e r is later = on Closed (asked_then (Gives turn)) (request.Turns turn) (after_asked (Gives turn)) e r (λ ls. refl) (later Closed is)
      asked request.Drains e r is later = on Closed (asked_then Drains) request.Drains (after_asked Drains) e r (λ ls. refl) (later Closed is)
      asked request.Stops e r is later = unasked k code is

      by : (r : Option DeckError) → option_or (line_refusal 200 line) (stream_refusal line) ≡ r → (goes_on r n (rest (request_on line) lines)).ending ≡ Refused k code → Later
          → StreamBegins n Closed (line ∷ lines)
      by (Some c) e is later = closed_here n Closed (line ∷ lines) c (place_of n k c code is) (ap (λ o. goes_on o n (rest (request_on line) lines)) e)
      by None e is later = asked (request_on line) e refl is later
  stream_begins (line ∷ lines) n (InList list) is = by (list_line_refusal line) refl is (λ pending. stream_begins lines (n + 1) pending)
    where
      Later : Type 0
      Later = (pending : Open) → (stream_section (n + 1) pending lines).ending ≡ Refused k code → StreamBegins (n + 1) pending lines

      rest : Bool → List (List ℕ) → Cards
      rest ends ls = if ends then asked_then (Commands (set_acl_of list)) (stream_section (n + 1) Closed ls) else stream_section (n + 1) (InList (with_line list line)) ls

      next : (ends : Bool) → is_dollar_line line ≡ ends → list_line_refusal line ≡ None → (rest ends lines).ending ≡ Refused k code → Later → StreamBegins n (InList list) (line ∷ lines)
      next true dollar e is later =
          further GoodCards (λ ls. stream_section n (InList list) ls) n k GoodCards (λ ls. stream_section (n + 1) Closed ls) line lines (asked_then (Commands (set_acl_of list))) (after_asked (Commands (set_acl_of list)))
          (λ ls. ap (λ o. goes_on o n (rest (is_dollar_line line) ls)) e ∙ ap (λ b. rest b ls) dollar) (later Closed is)
      next false dollar e is later =
          further GoodCards (λ ls. stream_section n (InList list) ls) n k GoodCards (λ ls. stream_section (n + 1) (InList (with_line list line)) ls) line lines (λ c. c) same_cards
          (λ ls. ap (λ o. goes_on o n (rest (is_dollar_line line) ls)) e ∙ ap (λ b. rest b ls) dollar) (later (InList (with_line list line)) is)

      by : (r : Option DeckError) → list_line_refusal line ≡ r → (goes_on r n (rest (is_dollar_line line) lines)).ending ≡ Refused k code → Later → StreamBegins n (InList list) (line ∷ lines)
      by (Some c) e is later = closed_here n (InList list) (line ∷ lines) c (place_of n k c code is) (ap (λ o. goes_on o n (rest (is_dollar_line line) lines)) e)
      by None e is later = next (is_dollar_line line) refl e is later
  stream_begins (line ∷ lines) n (InJob job) is = by (job_line_refusal job line) refl is (λ pending. stream_begins lines (n + 1) pending)
    where
      Later : Type 0
      Later = (pending : Open) → (stream_section (n + 1) pending lines).ending ≡ Refused k code → StreamBegins (n + 1) pending lines

      rest : Bool → List (List ℕ) → Cards
      rest ends ls = if ends then asked_then (Enters job) (stream_section (n + 1) Closed ls) else stream_section (n + 1) (InJob (after_job_line job line)) ls

      next : (ends : Bool) → ends_job line ≡ ends → job_line_refusal job line ≡ None → (rest ends lines).ending ≡ Refused k code → Later → StreamBegins n (InJob job) (line ∷ lines)
      next true it_ends e is later =
          further GoodCards (λ ls. stream_section n (InJob job) ls) n k GoodCards (λ ls. stream_section (n + 1) Closed ls) line lines (asked_then (Enters job)) (after_asked (Enters job))
          (λ ls. ap (λ o. goes_on o n (rest (ends_job line) ls)) e ∙ ap (λ b. rest b ls) it_ends) (later Closed is)
      next false it_ends e is later =
          further GoodCards (λ ls. stream_section n (InJob job) ls) n k GoodCards (λ ls. stream_section (n + 1) (InJob (after_job_line job line)) ls) line lines (λ c. c) same_cards
          (λ ls. ap (λ o. goes_on o n (rest (ends_job line) ls)) e ∙ ap (λ b. rest b ls) it_ends) (later (InJob (after_job_line job line)) is)

      by : (r : Option DeckError) → job_line_refusal job line ≡ r → (goes_on r n (rest (ends_job line) lines)).ending ≡ Refused k code → Later → StreamBegins n (InJob job) (line ∷ lines)
      by (Some c) e is later = closed_here n (InJob job) (line ∷ lines) c (place_of n k c code is) (ap (λ o. goes_on o n (rest (ends_job line) lines)) e)
      by None e is later = next (ends_job line) refl e is later

-- ---- the catalogue

-- the text is not refused so far, and memory was there
abbrev goes : Progress → Bool
goes (progress.Refused e) = false
goes progress.OutOfMemory = false
goes _ = true

goes_due : (version : Version) (n : ℕ) (sets : Sets) (name : List ℕ) (set : DataSet) (left : ℕ) → goes (with_due version n sets name set left) ≡ true
goes_due version n sets name set left = by (left == 0)
  where
    by : (b : Bool) → goes (if b then progress.SetDue version n (sets ++ (name, set) ∷ []) else progress.RecordsDue version n sets name set left) ≡ true
    by true = refl
    by false = refl

goes_further : (p : Progress) (line : List ℕ) → goes p ≡ true → text_refusal (step p line) ≡ None → goes (step p line) ≡ true
goes_further (progress.Refused e) line so fine = cc
goes_further progress.OutOfMemory line so fine = cc
goes_further (progress.SetDue version n sets) line so fine = by (is_blank_line line) fine
  where
    by_refusal : (head : Head) (r : Option CatalogueError) → text_refusal (after_head version (n + 1) sets head r) ≡ None → goes (after_head version (n + 1) sets head r) ≡ true
    by_refusal head None fine = refl
    by_refusal head (Some e) fine = cc

    by_words : (head : Option Head) → text_refusal (after_words version (n + 1) sets head) ≡ None → goes (after_words version (n + 1) sets head) ≡ true
    by_words None fine = cc
    by_words (Some head) fine = by_refusal head (head_refusal (n + 1) sets head) fine

    by : (b : Bool) → text_refusal (if b then progress.SetDue version (n + 1) sets else after_words version (n + 1) sets (head_of version (words line))) ≡ None
        → goes (if b then progress.SetDue version (n + 1) sets else after_words version (n + 1) sets (head_of version (words line))) ≡ true
    by true fine = refl
    by false fine = by_words (head_of version (words line)) fine
goes_further (progress.ListDue version n sets head) line so fine = by (read_short line) fine
  where
    by : (r : Result (List Entry) AclError) → text_refusal (after_acl version (n + 1) sets head r) ≡ None → goes (after_acl version (n + 1) sets head r) ≡ true
    by (Err e) fine = cc
    by (Ok acl) fine = goes_due version (n + 1) sets head.name (empty_set head.owner head.group head.mode acl) head.count
goes_further (progress.RecordsDue version n sets name set left) line so fine = by (is_record line) fine
  where
    after : Bool → Progress
    after b = if b then with_due version (n + 1) sets name (with_record set line) (left - 1) else progress.Refused (BadText (n + 1))

    by : (b : Bool) → text_refusal (after b) ≡ None → goes (after b) ≡ true
    by true fine = goes_due version (n + 1) sets name (with_record set line) (left - 1)
    by false fine = cc

-- lines that make the text whole
record Whole (p : Progress) : Type 0 where
  text : List (List ℕ)
  version : Version
  count : ℕ
  sets : Sets
  fits : AllByRecursion (IsLineWithin 5000) text
  leads : after_lines p text ≡ progress.SetDue version count sets

-- one line, and then what closes what is left
one_more : (p : Progress) (line : List ℕ) → IsLineWithin 5000 line → Whole (step p line) → Whole p
one_more p line fits rest = record { text = line ∷ rest.text; version = rest.version; count = rest.count; sets = rest.sets; fits = (fits, rest.fits); leads = rest.leads }

-- empty records, as many as are due
records_closed : (version : Version) (left n : ℕ) (sets : Sets) (name : List ℕ) (set : DataSet) → Whole (with_due version n sets name set left)
records_closed version zero n sets name set = record { text = []; version = version; count = n; sets = sets ++ (name, set) ∷ []; fits = tt; leads = refl }
records_closed version (suc left) n sets name set =
    let some : (suc left == 0) ≡ false = ne_eqb (suc left) 0 (omega arith) in
    let fewer : left ≡ suc left - 1 = omega arith in
    subst (λ b. Whole (if b then progress.SetDue version n (sets ++ (name, set) ∷ []) else progress.RecordsDue version n sets name set (suc left))) (sym some)
    (one_more (progress.RecordsDue version n sets name set (suc left)) [] (omega arith, refl)
    (subst (λ (k : ℕ). Whole (with_due version (n + 1) sets name (with_record set []) k)) fewer (records_closed version left (n + 1) sets name (with_record set []))))

-- user::---,group::---,other::---
abbrev no_permission : List Entry
no_permission =
    record { tag = UserObj; name = None; perms = record { read = false; write = false; execute = false } }
    ∷ record { tag = GroupObj; name = None; perms = record { read = false; write = false; execute = false } }
    ∷ record { tag = Other; name = None; perms = record { read = false; write = false; execute = false } } ∷ []

list_read : read_short (codes "u::,g::,o::") ≡ Ok no_permission
list_read = refl

text_closed : (p : Progress) → goes p ≡ true → Whole p
text_closed (progress.Refused e) so = cc
text_closed progress.OutOfMemory so = cc
text_closed (progress.SetDue version n sets) so = record { text = []; version = version; count = n; sets = sets; fits = tt; leads = refl }
text_closed (progress.ListDue version n sets head) so =
    one_more (progress.ListDue version n sets head) (codes "u::,g::,o::") (omega arith, refl)
    (subst (λ (r : Result (List Entry) AclError). Whole (after_acl version (n + 1) sets head r)) (sym list_read)
    (records_closed version head.count (n + 1) sets head.name (empty_set head.owner head.group head.mode no_permission)))
text_closed (progress.RecordsDue version n sets name set left) so =
    one_more (progress.RecordsDue version n sets name set left) [] (omega arith, refl) (records_closed version (left - 1) (n + 1) sets name (with_record set []))

-- ---- the whole deck

-- this deck is refused, and that one is the same up to there and comes to its end
record GoodDeck (bad good : Deck) (last : List Asked) : Type 0 where
  accounts : good.accounts ≡ bad.accounts
  asked : good.cards.asked ≡ bad.cards.asked ++ last
  over : (bad.cards.asked ≡ []) ⊎ (good.catalogue ≡ bad.catalogue)
  ends : good.cards.ending ≡ Stopped

same_deck : (bad good : Deck) (last : List Asked) → GoodDeck bad good last → GoodDeck bad good last
same_deck bad good last so = so

abbrev streaming : List Account → Sets → Cards → Deck
streaming accounts sets cards = record { accounts = accounts; catalogue = sets; cards = cards }

good_stream : (accounts : List Account) (sets : Sets) (bad good : Cards) (last : List Asked) → GoodCards bad good last → GoodDeck (streaming accounts sets bad) (streaming accounts sets good) last
good_stream accounts sets bad good last so = record { accounts = refl; asked = so.asked; over = inr refl; ends = so.ends }

second : (first later : Option DeckError) → option_or first later ≡ None → later ≡ None
second None later none = none
second (Some c) later none = cc

module _ (k : ℕ) (code : DeckError) where
  -- refused before the stream: some lines more, and nothing is asked
  closed_early : (says : List (List ℕ) → Deck) (n : ℕ) (lines rest : List (List ℕ)) (accounts : List Account) (sets : Sets) (c : DeckError) → k ≡ n
      → says lines ≡ refused_early n c accounts → says rest ≡ streaming accounts sets stopped → Begins GoodDeck says n lines k
  closed_early says n lines rest accounts sets c same is closed =
      here GoodDeck says n k lines rest [] (refused_early n c accounts) (streaming accounts sets stopped) same (inl refl) is closed
      (record { accounts = refl; asked = refl; over = inl refl; ends = refl })

  closed_in_text : (n : ℕ) (accounts : List Account) (p : Progress) (lines : List (List ℕ)) (c : DeckError) → goes p ≡ true → k ≡ n → catalogue_section n accounts p lines ≡ refused_early n c accounts
      → Begins GoodDeck (λ ls. catalogue_section n accounts p ls) n lines k
  closed_in_text n accounts p lines c so same is =
      let text = text_closed p so in
      let taken = text_taken text.text (codes "$STREAM" ∷ codes "$STOP" ∷ []) n accounts p text.version text.count text.sets text.fits text.leads in
      closed_early (λ ls. catalogue_section n accounts p ls) n lines (text.text ++ codes "$STREAM" ∷ codes "$STOP" ∷ []) accounts text.sets c same is taken.1

  catalogue_begins : (lines : List (List ℕ)) (n : ℕ) (accounts : List Account) (p : Progress) → goes p ≡ true → ending_of (catalogue_section n accounts p lines) ≡ Refused k code
      → Begins GoodDeck (λ ls. catalogue_section n accounts p ls) n lines k
  catalogue_begins [] n accounts p so is = closed_in_text n accounts p [] Truncated so (place_of n k Truncated code is) refl
  catalogue_begins (line ∷ lines) n accounts p so is = by (option_or (line_refusal 5000 line) (catalogue_refusal p line)) refl is (catalogue_begins lines (n + 1) accounts (step p line))
    where
      Later : Type 0
      Later = goes (step p line) ≡ true → ending_of (catalogue_section (n + 1) accounts (step p line) lines) ≡ Refused k code
          → Begins GoodDeck (λ ls. catalogue_section (n + 1) accounts (step p line) ls) (n + 1) lines k

      rest : Bool → List (List ℕ) → Deck
      rest ends ls = if ends then streaming accounts (sets_of p) (stream_section (n + 1) Closed ls) else catalogue_section (n + 1) accounts (step p line) ls

      next : (ends : Bool) → ends_catalogue p line ≡ ends → option_or (line_refusal 5000 line) (catalogue_refusal p line) ≡ None → ending_of (rest ends lines) ≡ Refused k code → Later
          → Begins GoodDeck (λ ls. catalogue_section n accounts p ls) n (line ∷ lines) k
      next true ends e is later =
          further GoodDeck (λ ls. catalogue_section n accounts p ls) n k GoodCards (λ ls. stream_section (n + 1) Closed ls) line lines (streaming accounts (sets_of p)) (good_stream accounts (sets_of p))
          (λ ls. ap (λ o. deck_goes_on o n accounts (rest (ends_catalogue p line) ls)) e ∙ ap (λ b. rest b ls) ends) (stream_begins k code lines (n + 1) Closed is)
      next false ends e is later =
          let fine = sym (ap (λ b. if b then lone_card_refusal card.Stream (words line) else text_refusal (step p line)) ends) ∙ second (line_refusal 5000 line) (catalogue_refusal p line) e in
          further GoodDeck (λ ls. catalogue_section n accounts p ls) n k GoodDeck (λ ls. catalogue_section (n + 1) accounts (step p line) ls) line lines (λ d. d) same_deck
          (λ ls. ap (λ o. deck_goes_on o n accounts (rest (ends_catalogue p line) ls)) e ∙ ap (λ b. rest b ls) ends) (later (goes_further p line so fine) is)

      by : (r : Option DeckError) → option_or (line_refusal 5000 line) (catalogue_refusal p line) ≡ r → ending_of (deck_goes_on r n accounts (rest (ends_catalogue p line) lines)) ≡ Refused k code → Later
          → Begins GoodDeck (λ ls. catalogue_section n accounts p ls) n (line ∷ lines) k
      by (Some c) e is later = closed_in_text n accounts p (line ∷ lines) c so (place_of n k c code is) (ap (λ o. deck_goes_on o n accounts (rest (ends_catalogue p line) lines)) e)
      by None e is later = next (ends_catalogue p line) refl e is later

  -- the account table

  accounts_begin : (lines : List (List ℕ)) (n : ℕ) (accounts : List Account) → ending_of (accounts_section n accounts lines) ≡ Refused k code
      → Begins GoodDeck (λ ls. accounts_section n accounts ls) n lines k
  accounts_begin [] n accounts is =
      closed_early (λ ls. accounts_section n accounts ls) n [] (codes "$CATALOGUE" ∷ codes "$STREAM" ∷ codes "$STOP" ∷ []) accounts [] Truncated (place_of n k Truncated code is) refl refl
  accounts_begin (line ∷ lines) n accounts is = by (option_or (line_refusal 200 line) (accounts_refusal accounts line)) refl is (accounts_begin lines (n + 1) (table_after accounts line))
    where
      Later : Type 0
      Later = ending_of (accounts_section (n + 1) (table_after accounts line) lines) ≡ Refused k code → Begins GoodDeck (λ ls. accounts_section (n + 1) (table_after accounts line) ls) (n + 1) lines k

      rest : Bool → List (List ℕ) → Deck
      rest ends ls = if ends then catalogue_section (n + 1) accounts (progress.SetDue (version_in (words line)) 0 []) ls else accounts_section (n + 1) (table_after accounts line) ls

      next : (ends : Bool) → is_dollar_line line ≡ ends → option_or (line_refusal 200 line) (accounts_refusal accounts line) ≡ None → ending_of (rest ends lines) ≡ Refused k code → Later
          → Begins GoodDeck (λ ls. accounts_section n accounts ls) n (line ∷ lines) k
      next true dollar e is later =
          further GoodDeck (λ ls. accounts_section n accounts ls) n k GoodDeck (λ ls. catalogue_section (n + 1) accounts (progress.SetDue (version_in (words line)) 0 []) ls) line lines (λ d. d) same_deck
          (λ ls. ap (λ o. deck_goes_on o n accounts (rest (is_dollar_line line) ls)) e ∙ ap (λ b. rest b ls) dollar) (catalogue_begins lines (n + 1) accounts (progress.SetDue (version_in (words line)) 0 []) refl is)
      next false dollar e is later =
          further GoodDeck (λ ls. accounts_section n accounts ls) n k GoodDeck (λ ls. accounts_section (n + 1) (table_after accounts line) ls) line lines (λ d. d) same_deck
          (λ ls. ap (λ o. deck_goes_on o n accounts (rest (is_dollar_line line) ls)) e ∙ ap (λ b. rest b ls) dollar) (later is)

      by : (r : Option DeckError) → option_or (line_refusal 200 line) (accounts_refusal accounts line) ≡ r → ending_of (deck_goes_on r n accounts (rest (is_dollar_line line) lines)) ≡ Refused k code → Later
          → Begins GoodDeck (λ ls. accounts_section n accounts ls) n (line ∷ lines) k
      by (Some c) e is later =
          closed_early (λ ls. accounts_section n accounts ls) n (line ∷ lines) (codes "$CATALOGUE" ∷ codes "$STREAM" ∷ codes "$STOP" ∷ []) accounts [] c (place_of n k c code is)
          (ap (λ o. deck_goes_on o n accounts (rest (is_dollar_line line) lines)) e) refl
      by None e is later = next (is_dollar_line line) refl e is later

  -- before it

  opening_begins : (lines : List (List ℕ)) (n : ℕ) → ending_of (opening_section n lines) ≡ Refused k code → Begins GoodDeck (λ ls. opening_section n ls) n lines k
  opening_begins [] n is =
      closed_early (λ ls. opening_section n ls) n [] (codes "$ACCOUNTS" ∷ codes "$CATALOGUE" ∷ codes "$STREAM" ∷ codes "$STOP" ∷ []) [] [] Truncated (place_of n k Truncated code is) refl refl
  opening_begins (line ∷ lines) n is = by (option_or (line_refusal 200 line) (opening_refusal line)) refl is (opening_begins lines (n + 1))
    where
      Later : Type 0
      Later = ending_of (opening_section (n + 1) lines) ≡ Refused k code → Begins GoodDeck (λ ls. opening_section (n + 1) ls) (n + 1) lines k

      rest : Bool → List (List ℕ) → Deck
      rest blank ls = if blank then opening_section (n + 1) ls else accounts_section (n + 1) [] ls

      next : (blank : Bool) → is_blank_line line ≡ blank → option_or (line_refusal 200 line) (opening_refusal line) ≡ None → ending_of (rest blank lines) ≡ Refused k code → Later
          → Begins GoodDeck (λ ls. opening_section n ls) n (line ∷ lines) k
      next true blank e is later =
          further GoodDeck (λ ls. opening_section n ls) n k GoodDeck (λ ls. opening_section (n + 1) ls) line lines (λ d. d) same_deck
          (λ ls. ap (λ o. deck_goes_on o n [] (rest (is_blank_line line) ls)) e ∙ ap (λ b. rest b ls) blank) (later is)
      next false blank e is later =
          further GoodDeck (λ ls. opening_section n ls) n k GoodDeck (λ ls. accounts_section (n + 1) [] ls) line lines (λ d. d) same_deck
          (λ ls. ap (λ o. deck_goes_on o n [] (rest (is_blank_line line) ls)) e ∙ ap (λ b. rest b ls) blank) (accounts_begin lines (n + 1) [] is)

      by : (r : Option DeckError) → option_or (line_refusal 200 line) (opening_refusal line) ≡ r → ending_of (deck_goes_on r n [] (rest (is_blank_line line) lines)) ≡ Refused k code → Later
          → Begins GoodDeck (λ ls. opening_section n ls) n (line ∷ lines) k
      by (Some c) e is later =
          closed_early (λ ls. opening_section n ls) n (line ∷ lines) (codes "$ACCOUNTS" ∷ codes "$CATALOGUE" ∷ codes "$STREAM" ∷ codes "$STOP" ∷ []) [] [] c (place_of n k c code is)
          (ap (λ o. deck_goes_on o n [] (rest (is_blank_line line) lines)) e) refl
      by None e is later = next (is_blank_line line) refl e is later

pub good_beginnings : GoodBeginnings
good_beginnings ls n code refused_on_line = by (opening_begins n code ls 1 refused_on_line)
  where
    by : Begins GoodDeck deck_of 1 ls n → (deck : Deck) × (last : List Asked) × BeginsGood n ls deck last
    by (i, rest, last, place, left, so) =
        let before : i ≡ n - 1 = omega (arith, place) in
        let deck = deck_of (take i ls ++ rest) in (
          deck,
          last,
          record {
            counted = omega (arith, place);
            rest = rest;
            good = subst (λ (j : ℕ). IsDeck (take j ls ++ rest) deck) before (deck_spelled (take i ls ++ rest) deck refl so.ends);
            accounts = so.accounts;
            asked = so.asked;
            over = so.over;
            left_open = left;
          },
        )
