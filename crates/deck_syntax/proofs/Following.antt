-- What a line of the stream makes of the cards, by the event that it brings; and a record what of the front.
use Rattle.std.proofs.Common.{◌≡◌, ℕ, ◌+◌, Bool, true, false, List, ◌∷◌, ◌&&◌, Some, None, Result, Ok, Err, is_ok, refl, sym, ap, ◌∙◌, if◌then◌else◌}
use Rattle.std.specs.{Prelude.{IfOk, IfErr, OnOk}, Option.{option_or}}
use Rattle.mon_text.specs.{declared.stop.Stop.{Stop}, declared.stop.Stop.TheVariants.{Refused, Memory}, Lines.{words}}
use Rattle.deck_lines.specs.{inner.Stops.{Answers, IfRefused}, declared.deck_error.DeckError.{DeckError}, declared.card.Card.TheVariants.{EndJob}}
use Rattle.deck_lines.specs.{Cards.{card_among, is_card}, Refusing.{is_dollar_line, line_refusal}}
use Rattle.deck_lines.specs.declared.command.Command.TheVariants as commands
use Rattle.deck_syntax.specs.{declared.request.Request.{Request}, Decks.{Cards, Commands, Enters, Deck}, declared.job.OpenJob.{OpenJob}}
use Rattle.deck_syntax.specs.{declared.list.OpenList.{OpenList}, Jobs.{is_job_card_line, job_line_refusal, ends_job, after_job_line}}
use Rattle.deck_syntax.{specs.Requests.{request_on, set_acl_of, with_line, list_line_refusal, stream_refusal}, proofs.Shorthand.{goes_on, deck_goes_on}}
use Rattle.deck_syntax.specs.declared.request.Request.TheVariants as request
use Rattle.deck_syntax.specs.Sections.{Open, Closed, InList, InJob, requested, asked_then, stream_section, refused_on_line, catalogue_section, catalogue_refusal, ends_catalogue, sets_of}
use Rattle.mon_access.specs.declared.account.Account.{Account}
use Rattle.mon_catalogue.specs.Progress.{Progress, step}
use Rattle.deck_syntax.specs.declared.stream_reader.{Event.{Event}, StreamReader.{StreamReader}}
use Rattle.deck_syntax.specs.Events.{open_in, refusal_in, event_in, event_of, opened_by, open_after, cards_ahead, event_then}
use Rattle.deck_syntax.specs.declared.stream_reader.Event.TheVariants as event
use Rattle.deck_syntax.specs.declared.stream_reader.StreamReader.TheVariants as reader

-- what a request brings, and what is open behind it, is all that the lines behind it are read by
by_request : (r : Request) (rest : Open → Cards) → requested r rest ≡ event_then (event_of r) (rest (opened_by r))
by_request request.Nothing rest = refl
by_request (request.Asks command) rest = refl
by_request (request.OpensList account name) rest = refl
by_request (request.OpensJob job) rest = refl
by_request (request.Turns turn) rest = refl
by_request request.Drains rest = refl
by_request request.Stops rest = refl

-- THE STREAM IS READ EVENT BY EVENT
pub by_event : (pending : Open) (n : ℕ) (line : List ℕ) (ls : List (List ℕ))
    → stream_section n pending (line ∷ ls) ≡ goes_on (refusal_in pending line) n (event_then (event_in pending line) (stream_section (n + 1) (open_after pending line) ls))
by_event Closed n line ls = ap (goes_on (refusal_in Closed line) n) (by_request (request_on line) (λ pending. stream_section (n + 1) pending ls))
by_event (InList list) n line ls = ap (goes_on (refusal_in (InList list) line) n) (by (is_dollar_line line))
  where
    by : (b : Bool) → (if b then asked_then (Commands (set_acl_of list)) (stream_section (n + 1) Closed ls) else stream_section (n + 1) (InList (with_line list line)) ls)
        ≡ event_then (if b then event.Asks (set_acl_of list) else event.Nothing) (stream_section (n + 1) (if b then Closed else InList (with_line list line)) ls)
    by true = refl
    by false = refl
by_event (InJob job) n line ls = ap (goes_on (refusal_in (InJob job) line) n) (by (ends_job line))
  where
    by : (b : Bool) → (if b then asked_then (Enters job) (stream_section (n + 1) Closed ls) else stream_section (n + 1) (InJob (after_job_line job line)) ls)
        ≡ event_then (if b then event.Enters job else event.Nothing) (stream_section (n + 1) (if b then Closed else InJob (after_job_line job line)) ls)
    by true = refl
    by false = refl

-- a good line
pub cards_go : (r r' : StreamReader) (e : Event) (line : List ℕ) → refusal_in (open_in r) line ≡ None → e ≡ event_in (open_in r) line → open_in r' ≡ open_after (open_in r) line
    → (n : ℕ) → (ls : List (List ℕ)) → cards_ahead r n (line ∷ ls) ≡ event_then e (cards_ahead r' (n + 1) ls)
cards_go r r' e line good brings opens n ls =
    by_event (open_in r) n line ls
    ∙ ap (λ refusal. goes_on refusal n (event_then (event_in (open_in r) line) (stream_section (n + 1) (open_after (open_in r) line) ls))) good
    ∙ ap (λ (v : Event). event_then v (stream_section (n + 1) (open_after (open_in r) line) ls)) (sym brings)
    ∙ ap (λ (o : Open). event_then e (stream_section (n + 1) o ls)) (sym opens)

-- a line that is refused
pub cards_refused : (r : StreamReader) (line : List ℕ) (code : DeckError) → refusal_in (open_in r) line ≡ Some code
    → (n : ℕ) → (ls : List (List ℕ)) → cards_ahead r n (line ∷ ls) ≡ refused_on_line n code
cards_refused r line code bad n ls =
    by_event (open_in r) n line ls
    ∙ ap (λ refusal. goes_on refusal n (event_then (event_in (open_in r) line) (stream_section (n + 1) (open_after (open_in r) line) ls))) bad

-- the same of an answer
pub brings_so : (r r' : StreamReader) (line : List ℕ) (answer : Result Event (Stop DeckError)) → Answers (refusal_in (open_in r) line) answer
    → IfOk answer (λ e. e ≡ event_in (open_in r) line) → OnOk answer (open_in r' ≡ open_after (open_in r) line)
    → IfOk answer (λ e. (n : ℕ) → (ls : List (List ℕ)) → cards_ahead r n (line ∷ ls) ≡ event_then e (cards_ahead r' (n + 1) ls))
brings_so r r' line (Ok e) good brings opens = cards_go r r' e line good brings opens
brings_so r r' line (Err stop) good brings opens = tt

pub refused_so : (r : StreamReader) (line : List ℕ) (answer : Result Event (Stop DeckError)) → Answers (refusal_in (open_in r) line) answer
    → IfErr answer (IfRefused (λ code. (n : ℕ) → (ls : List (List ℕ)) → cards_ahead r n (line ∷ ls) ≡ refused_on_line n code))
refused_so r line (Ok e) bad = tt
refused_so r line (Err (Refused code)) bad = cards_refused r line code bad
refused_so r line (Err Memory) bad = tt

-- a card that lists records
pub listed : (line account name : List ℕ) → option_or (line_refusal 200 line) (stream_refusal line) ≡ None → request.Asks (commands.List account name) ≡ request_on line
    → (n : ℕ) → (ls : List (List ℕ)) → cards_ahead reader.Cards n (line ∷ ls) ≡ asked_then (Commands (commands.List account name)) (cards_ahead reader.Cards (n + 1) ls)
listed line account name good is n ls =
    cards_go reader.Cards reader.Cards (event.Asks (commands.List account name)) line good (ap event_of is) (ap opened_by is) n ls

-- a record of a data set
pub record_goes : (accounts : List Account) (p p' : Progress) (line : List ℕ) → option_or (line_refusal 5000 line) (catalogue_refusal p line) ≡ None → ends_catalogue p line ≡ false → p' ≡ step p line
    → (n : ℕ) → (ls : List (List ℕ)) → catalogue_section n accounts p (line ∷ ls) ≡ catalogue_section (n + 1) accounts p' ls
record_goes accounts p p' line good ends is n ls =
    let ended : Deck = record { accounts = accounts; catalogue = sets_of p; cards = stream_section (n + 1) Closed ls } in
    let further = catalogue_section (n + 1) accounts (step p line) ls in
    ap (λ r. deck_goes_on r n accounts (if ends_catalogue p line then ended else further)) good ∙ ap (λ (b : Bool). if b then ended else further) ends
    ∙ ap (λ (q : Progress). catalogue_section (n + 1) accounts q ls) (sym is)

-- a line within a list
pub list_goes : (list list' : OpenList) (line : List ℕ) (answer : Result Bool (Stop DeckError)) → is_dollar_line line ≡ false → is_ok answer ≡ true → Answers (list_line_refusal line) answer
    → IfOk answer (λ ends. ends ≡ is_dollar_line line) → IfOk answer (λ ends. list' ≡ (if ends then list else with_line list line))
    → (n : ℕ) → (ls : List (List ℕ)) → cards_ahead (reader.List list) n (line ∷ ls) ≡ cards_ahead (reader.List list') (n + 1) ls
list_goes list list' line (Err stop) within is good ends taken = cc
list_goes list list' line (Ok e) within is good ends taken =
    cards_go (reader.List list) (reader.List list') event.Nothing line good
    (ap (λ (b : Bool). if b then event.Asks (set_acl_of list) else event.Nothing) (sym within))
    (ap (λ (l : OpenList). InList l) (taken ∙ ap (λ (b : Bool). if b then list else with_line list line) (ends ∙ within))
    ∙ ap (λ (b : Bool). if b then Closed else InList (with_line list line)) (sym within))

-- and within a job
pub job_goes : (job job' : OpenJob) (line : List ℕ) (answer : Result Bool (Stop DeckError)) → is_job_card_line line ≡ false → is_ok answer ≡ true → Answers (job_line_refusal job line) answer
    → IfOk answer (λ ends. ends ≡ ends_job line) → IfOk answer (λ ends. job' ≡ (if ends then job else after_job_line job line))
    → (n : ℕ) → (ls : List (List ℕ)) → cards_ahead (reader.Job job) n (line ∷ ls) ≡ cards_ahead (reader.Job job') (n + 1) ls
job_goes job job' line (Err stop) within is good ends taken = cc
job_goes job job' line (Ok e) within is good ends taken =
    let none : ends_job line ≡ false = ap (λ (b : Bool). b && is_card EndJob (card_among (words line))) within in
    cards_go (reader.Job job) (reader.Job job') event.Nothing line good
    (ap (λ (b : Bool). if b then event.Enters job else event.Nothing) (sym none))
    (ap (λ (j : OpenJob). InJob j) (taken ∙ ap (λ (b : Bool). if b then job else after_job_line job line) (ends ∙ none))
    ∙ ap (λ (b : Bool). if b then Closed else InJob (after_job_line job line)) (sym none))
