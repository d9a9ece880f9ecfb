-- Lines that ask for this, whatever follows them, with nothing open behind them.
use Rattle.std.proofs.Common.{◌≡◌, ℕ, ◌+◌, List, ◌∷◌, ◌++◌, None, refl, sym, ap, ◌∙◌, append_assoc}
use Rattle.std.specs.Prelude.{codes}
use Rattle.deck_syntax.{specs.declared.stream_reader.Event.{Event}, specs.Events.{refusal_in, event_in, open_after, event_then}, proofs.Following.{by_event}}
use Rattle.deck_syntax.specs.declared.stream_reader.Event.TheVariants as event
use Rattle.deck_syntax.{specs.Decks.{Cards, Asked}, specs.Sections.{Open, Closed, stream_section}, proofs.Shorthand.{goes_on}}
use Rattle.preflight.specs.inner.Reading.{asks_of}

-- the card that ends a deck
abbrev pub stop : List ℕ
stop = codes "$STOP"

-- these are asked first
abbrev pub with_asked : List Asked → Cards → Cards
with_asked asked later = record { asked = asked ++ later.asked; ending = later.ending }

abbrev pub Goes : ℕ → Open → List (List ℕ) → List Asked → Type 0
Goes n pending ls asked = (more : List (List ℕ)) → (m : ℕ) × (stream_section n pending (ls ++ more) ≡ with_asked asked (stream_section m Closed more))

pub joined : (front asked : List Asked) (c : Cards) → with_asked front (with_asked asked c) ≡ with_asked (front ++ asked) c
joined front asked c = ap (λ (a : List Asked). (let r : Cards = record { asked = a; ending = c.ending } in r)) (sym (append_assoc front asked c.asked))

-- one line more in front
pub further : (n : ℕ) (p pending : Open) (line : List ℕ) (ls : List (List ℕ)) (front asked : List Asked)
    → ((more : List (List ℕ)) → stream_section n p (line ∷ more) ≡ with_asked front (stream_section (n + 1) pending more))
    → Goes (n + 1) pending ls asked → Goes n p (line ∷ ls) (front ++ asked)
further n p pending line ls front asked is goes = λ more.
    let g = goes more in
    (g.0, is (ls ++ more) ∙ ap (with_asked front) g.1 ∙ joined front asked (stream_section g.0 Closed more))

-- ---- one line

-- what is asked behind an event, but for the deck's end
asked_behind : (e : Event) (later : Cards) → (e ≡ event.Stops → ⊥) → event_then e later ≡ with_asked (asks_of e) later
asked_behind event.Nothing later goes = refl
asked_behind (event.Opens account) later goes = refl
asked_behind (event.Asks command) later goes = refl
asked_behind (event.Enters job) later goes = refl
asked_behind (event.Turns turn) later goes = refl
asked_behind event.Drains later goes = refl
asked_behind event.Stops later goes = absurd (goes refl)

module _ (p : Open) (line : List ℕ) (n : ℕ) where
  -- a good line
  pub good_line : refusal_in p line ≡ None → (more : List (List ℕ)) → stream_section n p (line ∷ more) ≡ event_then (event_in p line) (stream_section (n + 1) (open_after p line) more)
  good_line good more = by_event p n line more ∙ ap (λ r. goes_on r n (event_then (event_in p line) (stream_section (n + 1) (open_after p line) more))) good

  pub stepped : refusal_in p line ≡ None → (event_in p line ≡ event.Stops → ⊥)
      → (more : List (List ℕ)) → stream_section n p (line ∷ more) ≡ with_asked (asks_of (event_in p line)) (stream_section (n + 1) (open_after p line) more)
  stepped good goes more = good_line good more ∙ asked_behind (event_in p line) (stream_section (n + 1) (open_after p line) more) goes
