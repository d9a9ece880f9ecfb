-- What comes of the lines of a deck from the middle of it on.
use Rattle.std.proofs.Common.{◌≡◌, ℕ, ◌<◌, inl, inr, Bool, true, false, List, [], ◌∷◌, length, Option, Some, refl, sym, ap, ◌∙◌, arith, nat_lt, if◌then◌else◌}
use Rattle.std.{proofs.lemmas.Bool.Decides.{nat_tests}, specs.List.{list_all}, specs.Option.{option_or}}
use Rattle.mon_text.specs.{Feeding.{Alike}, Lines.{is_line, words}}
use Rattle.mon_access.specs.declared.account.Account.{Account}
use Rattle.scheduler.specs.Marks.{Marks}
use Rattle.mon_monitor.specs.Abstraction.{system_of}
use Rattle.deck_lines.specs.declared.deck_error.DeckError.{DeckError, TheVariants.{LineTooLong, BadCharacter, Truncated}}
use Rattle.deck_lines.specs.Refusing.{unless, line_refusal, is_dollar_line}
use Rattle.deck_syntax.specs.{Decks.{Deck}, Requests.{end_refusal, list_text_refusal, list_line_refusal, is_list_character}}
use Rattle.deck_syntax.{specs.Sections.{Open, Closed, InList, InJob, refused_early, refused_on_line, stream_section}, proofs.Shorthand.{deck_goes_on}}
use Rattle.deck_syntax.specs.declared.{front_reader.FrontReader.{FrontReader}, stream_reader.StreamReader.{StreamReader}}
use Rattle.deck_syntax.{specs.Reading.{deck_ahead, accounts_read}, specs.Events.{open_in, refusal_in}, proofs.Following.{cards_refused}}
use Rattle.deck_syntax.specs.declared.front_reader.FrontReader.TheVariants as front
use Rattle.deck_syntax.specs.declared.stream_reader.StreamReader.TheVariants as reader
use Rattle.deck_driver.specs.declared.{options.Options.{Options}, section.Section.{Section}, section.DeckState.{DeckState}}
use Rattle.deck_driver.specs.{RunStates.{over, opening}, Feeds.{run_state_from, refused_from, outcome_of, outcome, refused_at}, Audits.{told_to, told_from}}
use Rattle.deck_driver.specs.declared.section.Section.TheVariants as section
use Rattle.deck_driver.specs.declared.section.DeckState.TheVariants as state

-- a deck that is refused where nothing was asked
pub outcome_refused : (check : Bool) (slots jobs : ℕ) (m : Marks) (section : Section) (n : ℕ) (code : DeckError) → outcome_of check jobs m (refused_from slots section n code) ≡ refused_at n code
outcome_refused true slots jobs m (section.Front r) n code = refl
outcome_refused true slots jobs m (section.Stream r w) n code = refl
outcome_refused false slots jobs m (section.Front r) n code = refl
outcome_refused false slots jobs m (section.Stream r w) n code = refl

-- and tells an audit nothing
pub told_refused : (check : Bool) (slots jobs : ℕ) (m : Marks) (section : Section) (n : ℕ) (code : DeckError) → told_to check jobs m (refused_from slots section n code) ≡ []
told_refused true slots jobs m (section.Front r) n code = refl
told_refused true slots jobs m (section.Stream r w) n code = refl
told_refused false slots jobs m (section.Front r) n code = refl
told_refused false slots jobs m (section.Stream r w) n code = refl

-- the deck ends here
front_ends : (r : FrontReader) (n : ℕ) → deck_ahead r n [] ≡ refused_early n Truncated (accounts_read r)
front_ends front.Opening n = refl
front_ends (front.Accounts accounts) n = refl
front_ends (front.Catalogue accounts progress) n = refl

stream_ends : (pending : Open) (n : ℕ) → stream_section n pending [] ≡ refused_on_line n Truncated
stream_ends Closed n = refl
stream_ends (InList list) n = refl
stream_ends (InJob job) n = refl

pub ends_here : (slots : ℕ) (section : Section) (n : ℕ) → run_state_from slots section n [] ≡ refused_from slots section n Truncated
ends_here slots (section.Front r) n = ap (opening slots) (front_ends r n)
ends_here slots (section.Stream r w) n = ap (over (system_of w)) (stream_ends (open_in r) n)

-- a line that is longer than any may be
pub too_long : (limit : ℕ) (line : List ℕ) → limit < 5001 → 5000 < length line → line_refusal limit line ≡ Some LineTooLong
too_long limit line small long =
    let past : nat_lt limit (length line) ≡ true = grind (arith, nat_tests) in
    ap (λ b. if b then Some LineTooLong else unless (is_line line) BadCharacter) past

pub list_too_long : (line : List ℕ) → 5000 < length line → list_line_refusal line ≡ Some LineTooLong
list_too_long line long = by (is_dollar_line line) refl
  where
    by : (b : Bool) → is_dollar_line line ≡ b → list_line_refusal line ≡ Some LineTooLong
    by true e =
        ap (λ b. if b then option_or (line_refusal 200 line) (end_refusal (words line)) else list_text_refusal line) e
        ∙ ap (λ r. option_or r (end_refusal (words line))) (too_long 200 line (omega arith) long)
    by false e =
        let past : nat_lt 200 (length line) ≡ true = grind (arith, nat_tests) in
        ap (λ b. if b then option_or (line_refusal 200 line) (end_refusal (words line)) else list_text_refusal line) e
        ∙ ap (λ b. if b then Some LineTooLong else unless (list_all is_list_character line) BadCharacter) past

first_refused : (refusal later : Option DeckError) (code : DeckError) → refusal ≡ Some code → option_or refusal later ≡ Some code
first_refused refusal later code e = ap (λ r. option_or r later) e

stops_at : (refusal later : Option DeckError) (n : ℕ) (accounts : List Account) (rest : Deck)
    → refusal ≡ Some LineTooLong → deck_goes_on (option_or refusal later) n accounts rest ≡ refused_early n LineTooLong accounts
stops_at refusal later n accounts rest e = ap (λ r. deck_goes_on (option_or r later) n accounts rest) e

front_long : (r : FrontReader) (n : ℕ) (line : List ℕ) (ls : List (List ℕ)) → 5000 < length line → deck_ahead r n (line ∷ ls) ≡ refused_early n LineTooLong (accounts_read r)
front_long front.Opening n line ls long = stops_at _ _ n _ _ (too_long 200 line (omega arith) long)
front_long (front.Accounts accounts) n line ls long = stops_at _ _ n _ _ (too_long 200 line (omega arith) long)
front_long (front.Catalogue accounts progress) n line ls long = stops_at _ _ n _ _ (too_long 5000 line (omega arith) long)

stream_long : (r : StreamReader) (line : List ℕ) → 5000 < length line → refusal_in (open_in r) line ≡ Some LineTooLong
stream_long reader.Cards line long = first_refused _ _ LineTooLong (too_long 200 line (omega arith) long)
stream_long (reader.List list) line long = list_too_long line long
stream_long (reader.Job job) line long = first_refused _ _ LineTooLong (too_long 200 line (omega arith) long)

pub long_refused : (slots : ℕ) (section : Section) (n : ℕ) (line : List ℕ) (ls : List (List ℕ)) → 5000 < length line → run_state_from slots section n (line ∷ ls) ≡ refused_from slots section n LineTooLong
long_refused slots (section.Front r) n line ls long = ap (opening slots) (front_long r n line ls long)
long_refused slots (section.Stream r w) n line ls long = ap (over (system_of w)) (cards_refused r line LineTooLong (stream_long r line long) n ls)

-- lines that are alike have one outcome
pub alike : (options : Options) (jobs : ℕ) (m : Marks) (s : DeckState) (n : ℕ) (xs ys : List (List ℕ)) → Alike xs ys → outcome options jobs m s n xs ≡ outcome options jobs m s n ys
alike options jobs m s n xs ys (inl same) = ap (outcome options jobs m s n) same
alike options jobs m (state.Stopped w) n xs ys (inr long) = refl
alike options jobs m (state.Refused k code) n xs ys (inr long) = refl
alike options jobs m state.NoMemory n xs ys (inr long) = refl
alike options jobs m (state.Reading section) n [] ys (inr long) = absurd long
alike options jobs m (state.Reading section) n (x ∷ xs) [] (inr long) = absurd long
alike options jobs m (state.Reading section) n (x ∷ xs) (y ∷ ys) (inr long) =
    ap (outcome_of options.check jobs m) (long_refused options.slots.number section n x xs long.0 ∙ sym (long_refused options.slots.number section n y ys long.1))

-- and tell an audit the same
pub alike_told : (options : Options) (jobs : ℕ) (m : Marks) (s : DeckState) (n : ℕ) (xs ys : List (List ℕ)) → Alike xs ys → told_from options jobs m s n xs ≡ told_from options jobs m s n ys
alike_told options jobs m s n xs ys (inl same) = ap (told_from options jobs m s n) same
alike_told options jobs m (state.Stopped w) n xs ys (inr long) = refl
alike_told options jobs m (state.Refused k code) n xs ys (inr long) = refl
alike_told options jobs m state.NoMemory n xs ys (inr long) = refl
alike_told options jobs m (state.Reading section) n [] ys (inr long) = absurd long
alike_told options jobs m (state.Reading section) n (x ∷ xs) [] (inr long) = absurd long
alike_told options jobs m (state.Reading section) n (x ∷ xs) (y ∷ ys) (inr long) =
    ap (told_to options.check jobs m) (long_refused options.slots.number section n x xs long.0 ∙ sym (long_refused options.slots.number section n y ys long.1))
