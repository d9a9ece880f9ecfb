-- A refusal is settled by the lines up to it, and so is what it is for.
use Rattle.std.proofs.Common.{◌≡◌, ℕ, suc, ◌+◌, ◌<◌, ◌⊎◌, inl, inr, Bool, true, false, if◌then◌else◌, List, [], ◌∷◌, ◌++◌, length, take, bytes_eq, Option, Some, None, refl, sym, ap, subst, ◌∙◌, arith}
use Rattle.std.specs.{Prelude.{option_map}, Option.{option_or, option_map_or}}
use Rattle.deck_lines.specs.{Commands.{account_of}, declared.deck_error.DeckError.{DeckError}, declared.deck_error.DeckError.TheVariants.{Truncated}}
use Rattle.deck_syntax.{specs.declared.stream_reader.Event.{Event}, specs.Events.{refusal_in, event_in, open_after, event_then}, proofs.Following.{by_event}}
use Rattle.deck_syntax.specs.declared.stream_reader.Event.TheVariants as event
use Rattle.deck_syntax.specs.{Decks.{Cards, Asked, Ending, Stopped, Refused}, Sections.{Open, Closed, InList, InJob, stream_section}}
use Rattle.deck_syntax.proofs.Shorthand.{goes_on}
use Rattle.preflight.specs.{declared.why.Why.{Why}, declared.why.Why.TheVariants.{Line, Foreign, Stops, Unfinished}, Examined.{Verdict, Admits, Refuses}}
use Rattle.preflight.specs.inner.Reading.{asks_of, foreign, refused_to, why_in, and_then, all_then, examined}
use Rattle.preflight.proofs.{Admitted.{goes_on as not_stops}, Goes.{stepped}, Verdicts.{all_refused, none_both}}

-- how a deck's stream ends that has the lines up to number k, by what line k is refused for
abbrev pub EndsFor : ℕ → Why → Ending → Type 0
EndsFor k (Line code) ending = ending ≡ Refused k code
EndsFor k Stops ending = ending ≡ Stopped
EndsFor k Foreign ending = ending ≡ Refused (k + 1) Truncated
EndsFor k Unfinished ending = ⊥

-- ---- at one line

-- behind the last line more are wanted
wants_more : (n : ℕ) (p : Open) → (stream_section n p []).ending ≡ Refused n Truncated
wants_more n Closed = refl
wants_more n (InList list) = refl
wants_more n (InJob job) = refl

same_why : (v w : Why) → Some v ≡ Some w → v ≡ w
same_why v w is = cc

no_why : {A : Type 0} (w : Why) → None ≡ Some w → A
no_why w is = cc

foreign_why : (own account : List ℕ) (w : Why) → foreign own account ≡ Some w → Foreign ≡ w
foreign_why own account w = by (bytes_eq account own)
  where
    by : (b : Bool) → (if b then None else Some Foreign) ≡ Some w → Foreign ≡ w
    by true is = no_why w is
    by false is = same_why Foreign w is

module _ (own : List ℕ) (k : ℕ) (later : Cards) (wants : later.ending ≡ Refused (k + 1) Truncated) where
  by_brought : (e : Event) (w : Why) → refused_to own e ≡ Some w → EndsFor k w (event_then e later).ending
  by_brought event.Nothing w is = no_why w is
  by_brought (event.Opens account) w is = subst (λ (v : Why). EndsFor k v later.ending) (foreign_why own account w is) wants
  by_brought (event.Asks command) w is = subst (λ (v : Why). EndsFor k v later.ending) (foreign_why own (account_of command) w is) wants
  by_brought (event.Enters job) w is = subst (λ (v : Why). EndsFor k v later.ending) (foreign_why own job.account w is) wants
  by_brought (event.Turns turn) w is = no_why w is
  by_brought event.Drains w is = no_why w is
  by_brought event.Stops w is = subst (λ (v : Why). EndsFor k v Stopped) (same_why Stops w is) refl

at_line : (own line : List ℕ) (n : ℕ) (p : Open) (w : Why) → why_in own p line ≡ Some w → EndsFor n w (stream_section n p (line ∷ [])).ending
at_line own line n p w is = by (refusal_in p line) refl is
  where
    later : Cards
    later = stream_section (n + 1) (open_after p line) []

    by : (r : Option DeckError) → refusal_in p line ≡ r → option_or (option_map Line r) (refused_to own (event_in p line)) ≡ Some w
        → EndsFor n w (stream_section n p (line ∷ [])).ending
    by (Some code) e is =
        subst (λ (v : Why). EndsFor n v (stream_section n p (line ∷ [])).ending) (same_why (Line code) w is)
        (ap (λ (c : Cards). c.ending) (by_event p n line [] ∙ ap (λ r. goes_on r n (event_then (event_in p line) later)) e))
    by None e is =
        subst (EndsFor n w)
        (sym (ap (λ (c : Cards). c.ending) (by_event p n line [] ∙ ap (λ r. goes_on r n (event_then (event_in p line) later)) e)))
        (by_brought own n later (wants_more (n + 1) (open_after p line)) (event_in p line) w is)

-- ---- of all lines

-- refused at line k, of the lines from number n on: by a line that is there, or behind the last one
abbrev pub Stands : List ℕ → ℕ → Open → List (List ℕ) → ℕ → Why → Type 0
Stands own n p ls k why =
    ((i : ℕ) × (k ≡ n + i) × (i < length ls) × ((more : List (List ℕ)) → examined own n p (take (suc i) ls ++ more) ≡ Refuses k why)
    × EndsFor k why (stream_section n p (take (suc i) ls)).ending)
    ⊎ ((k ≡ n + length ls) × (why ≡ Unfinished))

pub place : (n k : ℕ) (w why : Why) → Refuses n w ≡ Refuses k why → k ≡ n
place n k w why is = cc

pub reason : (n k : ℕ) (w why : Why) → Refuses n w ≡ Refuses k why → w ≡ why
reason n k w why is = cc

later_refused : (one : Asked) (v : Verdict) (k : ℕ) (why : Why) → and_then one v ≡ Refuses k why → v ≡ Refuses k why
later_refused one (Admits asked) k why is = cc
later_refused one (Refuses n w) k why is = is

pub behind_refused : (xs : List Asked) (v : Verdict) (k : ℕ) (why : Why) → all_then xs v ≡ Refuses k why → v ≡ Refuses k why
behind_refused [] v k why is = is
behind_refused (x ∷ xs) v k why is = behind_refused xs v k why (later_refused x (all_then xs v) k why is)

module _ (own line : List ℕ) (ls : List (List ℕ)) (n k : ℕ) (why : Why) (p : Open) where
  -- at this line
  at_first : k ≡ n → ((more : List (List ℕ)) → examined own n p (line ∷ more) ≡ Refuses k why) → EndsFor n why (stream_section n p (line ∷ [])).ending
      → Stands own n p (line ∷ ls) k why
  at_first same is ends = inl (0, omega (arith, same), omega arith, is, subst (λ (m : ℕ). EndsFor m why (stream_section n p (line ∷ [])).ending) (sym same) ends)

  -- behind it
  further : why_in own p line ≡ None
      → ((more : List (List ℕ)) → examined own n p (line ∷ more) ≡ all_then (asks_of (event_in p line)) (examined own (n + 1) (open_after p line) more))
      → Stands own (n + 1) (open_after p line) ls k why → Stands own n p (line ∷ ls) k why
  further good step (inl (i, at, within, stands, ends)) =
      let asked = asks_of (event_in p line) in
      let both = none_both (refusal_in p line) (refused_to own (event_in p line)) good in
      let there = stepped p line n both.0 (not_stops own (event_in p line) both.1) (take (suc i) ls) in
      inl (
        suc i,
        omega (arith, at),
        omega (arith, within),
        λ more. step (take (suc i) ls ++ more) ∙ ap (all_then asked) (stands more) ∙ all_refused asked k why,
        subst (EndsFor k why) (sym (ap (λ (c : Cards). c.ending) there)) ends,
      )
  further good step (inr (at, early)) = inr (omega (arith, at), early)

  on_line : (w : Option Why) → why_in own p line ≡ w
      → option_map_or (Refuses n) w (all_then (asks_of (event_in p line)) (examined own (n + 1) (open_after p line) ls)) ≡ Refuses k why
      → (examined own (n + 1) (open_after p line) ls ≡ Refuses k why → Stands own (n + 1) (open_after p line) ls k why) → Stands own n p (line ∷ ls) k why
  on_line (Some w) e is later =
      at_first (place n k w why is) (λ more. ap (λ o. option_map_or (Refuses n) o (all_then (asks_of (event_in p line)) (examined own (n + 1) (open_after p line) more))) e ∙ is)
      (subst (λ (v : Why). EndsFor n v (stream_section n p (line ∷ [])).ending) (reason n k w why is) (at_line own line n p w e))
  on_line None e is later =
      further e (λ more. ap (λ o. option_map_or (Refuses n) o (all_then (asks_of (event_in p line)) (examined own (n + 1) (open_after p line) more))) e)
      (later (behind_refused (asks_of (event_in p line)) (examined own (n + 1) (open_after p line) ls) k why is))

pub stands : (own : List ℕ) (ls : List (List ℕ)) (n : ℕ) (p : Open) (k : ℕ) (why : Why) → examined own n p ls ≡ Refuses k why → Stands own n p ls k why
stands own [] n Closed k why is = cc
stands own [] n (InList list) k why is = inr (omega (arith, place n k Unfinished why is), sym (reason n k Unfinished why is))
stands own [] n (InJob job) k why is = inr (omega (arith, place n k Unfinished why is), sym (reason n k Unfinished why is))
stands own (line ∷ ls) n p k why is = on_line own line ls n k why p (why_in own p line) refl is (stands own ls (n + 1) (open_after p line) k why)
