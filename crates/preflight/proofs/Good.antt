-- A text that goes with whatever follows it, and asks for its account alone, is admitted.
use Rattle.std.proofs.Common.{◌≡◌, ℕ, ◌+◌, Bool, true, false, if◌then◌else◌, List, [], ◌∷◌, ◌++◌, Option, Some, None, refl, sym, ap, ap₂, subst, ◌∙◌}
use Rattle.std.specs.{Prelude.{option_map}, Option.{option_or, option_map_or}, List.{AllByRecursion}}
use Rattle.mon_text.specs.Lines.{words}
use Rattle.deck_lines.specs.{Commands.{account_of}, Refusing.{is_dollar_line}, declared.deck_error.DeckError.{DeckError}}
use Rattle.deck_lines.specs.declared.deck_error.DeckError.TheVariants.{OutOfPlace, Truncated}
use Rattle.deck_syntax.specs.{declared.stream_reader.Event.{Event}, Events.{refusal_in, event_in, event_of, opened_by, open_after, event_then}}
use Rattle.deck_syntax.proofs.Following.{by_event}
use Rattle.deck_syntax.specs.declared.stream_reader.Event.TheVariants as event
use Rattle.deck_syntax.specs.{declared.request.Request.{Request}, declared.job.OpenJob.{OpenJob}, Decks.{Cards, Asked, Ending, Stopped, Refused}}
use Rattle.deck_syntax.specs.{Jobs.{is_job_card_line, ends_job, after_job_line, unit_on}, Requests.{with_line, set_acl_of, request_on}}
use Rattle.deck_syntax.specs.{Sections.{Open, Closed, InList, InJob, asked_then, stream_section}, inner.Parts.{with_unit, with_program_line, program_text}}
use Rattle.deck_syntax.proofs.Shorthand.{goes_on}
use Rattle.deck_syntax.specs.declared.request.Request.TheVariants as request
use Rattle.preflight.specs.{declared.why.Why.{Why}, declared.why.Why.TheVariants.{Line}, Examined.{IsOwn, Admits, Refuses}}
use Rattle.preflight.specs.inner.Reading.{asks_of, refused_to, why_in, all_then, examined}
use Rattle.preflight.proofs.{Goes.{stop, Goes, with_asked, good_line, stepped}, Verdicts.{all_admitted, not_foreign}}

-- a deck that is refused has not stopped
pub not_stopped : {A : Type 0} (n : ℕ) (code : DeckError) → Refused n code ≡ Stopped → A
not_stopped n code is = cc

-- with its end behind it the deck stops
pub stops : (n : ℕ) (p : Open) (ls : List (List ℕ)) (asked : List Asked) → Goes n p ls asked → (stream_section n p (ls ++ stop ∷ [])).ending ≡ Stopped
stops n p ls asked goes = let g = goes (stop ∷ []) in ap (λ (c : Cards). c.ending) g.1

-- without it, it does not
pub goes_on_there : (n : ℕ) (p : Open) (ls : List (List ℕ)) (asked : List Asked) → Goes n p ls asked → (m : ℕ) × ((stream_section n p (ls ++ [])).ending ≡ Refused m Truncated)
goes_on_there n p ls asked goes = let g = goes [] in (g.0, ap (λ (c : Cards). c.ending) g.1)

-- what is asked first
pub record First (one : Asked) (f : List (List ℕ) → Cards) (asked : List Asked) : Type 0 where
  pub rest : List Asked
  pub are : asked ≡ one ∷ rest
  pub later : (more : List (List ℕ)) → (m : ℕ) × (f more ≡ with_asked rest (stream_section m Closed more))

-- all but the first
abbrev others : List Asked → List Asked
others [] = []
others (one ∷ asked) = asked

tail_is : (one a : Asked) (c d : Cards) (rest : List Asked) → asked_then one c ≡ with_asked (a ∷ rest) d → c ≡ with_asked rest d
tail_is one a c d rest is =
    let asked : c.asked ≡ rest ++ d.asked = ap (λ (x : Cards). others x.asked) is in
    let ending : c.ending ≡ d.ending = ap (λ (x : Cards). x.ending) is in
    ap₂ (λ (xs : List Asked) (e : Ending). (let r : Cards = record { asked = xs; ending = e } in r)) asked ending

head_is : (one a : Asked) (xs ys : List Asked) → one ∷ xs ≡ a ∷ ys → a ≡ one
head_is one a xs ys is = cc

none_first : {A : Type 0} (one : Asked) (xs : List Asked) → one ∷ xs ≡ [] → A
none_first one xs is = cc

pub first : (one : Asked) (f : List (List ℕ) → Cards) (asked : List Asked)
    → ((more : List (List ℕ)) → (m : ℕ) × (asked_then one (f more) ≡ with_asked asked (stream_section m Closed more))) → First one f asked
first one f [] goes = let g = goes [] in none_first one (f []).asked (ap (λ (c : Cards). c.asked) g.1)
first one f (a ∷ rest) goes =
    let g = goes [] in
    record {
      rest = rest;
      are = ap (λ (x : Asked). x ∷ rest) (head_is one a (f []).asked (rest ++ (stream_section g.0 Closed []).asked) (ap (λ (c : Cards). c.asked) g.1));
      later = λ more. let h = goes more in (h.0, tail_is one a (f more) (stream_section h.0 Closed more) rest h.1);
    }

-- the same, of some that are asked first
record Firsts (front : List Asked) (f : List (List ℕ) → Cards) (asked : List Asked) : Type 0 where
  rest : List Asked
  are : asked ≡ front ++ rest
  later : (more : List (List ℕ)) → (m : ℕ) × (f more ≡ with_asked rest (stream_section m Closed more))

firsts : (front : List Asked) (f : List (List ℕ) → Cards) (asked : List Asked)
    → ((more : List (List ℕ)) → (m : ℕ) × (with_asked front (f more) ≡ with_asked asked (stream_section m Closed more))) → Firsts front f asked
firsts [] f asked goes = record { rest = asked; are = refl; later = goes }
firsts (one ∷ front) f asked goes =
    let a = first one (λ more. with_asked front (f more)) asked goes in
    let b = firsts front f a.rest a.later in
    record { rest = b.rest; are = a.are ∙ ap (λ (xs : List Asked). one ∷ xs) b.are; later = b.later }

-- ---- whose what is open is

abbrev pub OpenIsOwn : List ℕ → Open → Type 0
OpenIsOwn own Closed = Unit {0}
OpenIsOwn own (InList list) = list.account ≡ own
OpenIsOwn own (InJob job) = job.account ≡ own

-- a line of a job leaves its account
pub same_account : (job : OpenJob) (line : List ℕ) → (after_job_line job line).account ≡ job.account
same_account job line = by (is_job_card_line line)
  where
    by : (b : Bool) → (if b then with_unit job (unit_on (words line)) else with_program_line job (program_text line)).account ≡ job.account
    by true = refl
    by false = refl

module _ (own line : List ℕ) where
  abbrev AsksOwn : Event → Type 0
  AsksOwn e = AllByRecursion (IsOwn own) (asks_of e)

  -- what is open is the account's, where what it leads to is
  own_before : (p : Open) → AsksOwn (event_in p line) → OpenIsOwn own (open_after p line) → OpenIsOwn own p
  own_before Closed asked after = tt
  own_before (InList list) asked after = by (is_dollar_line line) asked after
    where
      by : (b : Bool) → AsksOwn (if b then event.Asks (set_acl_of list) else event.Nothing) → OpenIsOwn own (if b then Closed else InList (with_line list line)) → list.account ≡ own
      by true asked after = asked.0
      by false asked after = after
  own_before (InJob job) asked after = by (ends_job line) asked after
    where
      by : (b : Bool) → AsksOwn (if b then event.Enters job else event.Nothing) → OpenIsOwn own (if b then Closed else InJob (after_job_line job line)) → job.account ≡ own
      by true asked after = asked.0
      by false asked after = sym (same_account job line) ∙ after

  -- and then nothing is refused to the account, but for the deck's end
  mine_before : (p : Open) → (event_in p line ≡ event.Stops → ⊥) → AsksOwn (event_in p line) → OpenIsOwn own (open_after p line) → refused_to own (event_in p line) ≡ None
  mine_before Closed goes asked after = by (request_on line) goes asked after
    where
      by : (q : Request) → (event_of q ≡ event.Stops → ⊥) → AsksOwn (event_of q) → OpenIsOwn own (opened_by q) → refused_to own (event_of q) ≡ None
      by request.Nothing goes asked after = refl
      by (request.Asks command) goes asked after = not_foreign own (account_of command) asked.0
      by (request.OpensList account name) goes asked after = not_foreign own account after
      by (request.OpensJob job) goes asked after = not_foreign own job.account after
      by (request.Turns turn) goes asked after = refl
      by request.Drains goes asked after = refl
      by request.Stops goes asked after = absurd (goes refl)
  mine_before (InList list) goes asked after = by (is_dollar_line line) asked
    where
      by : (b : Bool) → AsksOwn (if b then event.Asks (set_acl_of list) else event.Nothing) → refused_to own (if b then event.Asks (set_acl_of list) else event.Nothing) ≡ None
      by true asked = not_foreign own list.account asked.0
      by false asked = refl
  mine_before (InJob job) goes asked after = by (ends_job line) asked
    where
      by : (b : Bool) → AsksOwn (if b then event.Enters job else event.Nothing) → refused_to own (if b then event.Enters job else event.Nothing) ≡ None
      by true asked = not_foreign own job.account asked.0
      by false asked = refl

-- ---- the text

-- what is found of it
pub record Taken (own : List ℕ) (n : ℕ) (pending : Open) (ls : List (List ℕ)) (asked : List Asked) : Type 0 where
  pub is_own : OpenIsOwn own pending
  pub is : examined own n pending ls ≡ Admits asked

nothing_asked : (asked : List Asked) → [] ≡ asked ++ [] → asked ≡ []
nothing_asked [] is = refl
nothing_asked (one ∷ asked) is = cc

parts : (own : List ℕ) (xs ys : List Asked) → AllByRecursion (IsOwn own) (xs ++ ys) → AllByRecursion (IsOwn own) xs × AllByRecursion (IsOwn own) ys
parts own [] ys all = (tt, all)
parts own (x ∷ xs) ys all = let both = parts own xs ys all.1 in ((all.0, both.0), both.1)

module _ (own line : List ℕ) (ls : List (List ℕ)) (n : ℕ) (p : Open) (asked : List Asked) (goes : Goes n p (line ∷ ls) asked) (mine : AllByRecursion (IsOwn own) asked) where
  abbrev Later : Type 0
  Later = (rest : List Asked) → Goes (n + 1) (open_after p line) ls rest → AllByRecursion (IsOwn own) rest → Taken own (n + 1) (open_after p line) ls rest

  -- a line that ends the deck does not go
  no_end : refusal_in p line ≡ None → event_in p line ≡ event.Stops → ⊥
  no_end good ends =
      let there = goes_on_there n p (line ∷ ls) asked goes in
      let here : (stream_section n p (line ∷ (ls ++ []))).ending ≡ Stopped =
      ap (λ (c : Cards). c.ending) (good_line p line n good (ls ++ []) ∙ ap (λ (e : Event). event_then e (stream_section (n + 1) (open_after p line) (ls ++ []))) ends) in
      not_stopped there.0 Truncated (sym there.1 ∙ here)

  on_line : (r : Option DeckError) → refusal_in p line ≡ r → Later → Taken own n p (line ∷ ls) asked
  on_line (Some code) e later =
      let refused = by_event p n line (ls ++ stop ∷ [])
      ∙ ap (λ r. goes_on r n (event_then (event_in p line) (stream_section (n + 1) (open_after p line) (ls ++ stop ∷ [])))) e in
      not_stopped n code (sym (ap (λ (c : Cards). c.ending) refused) ∙ stops n p (line ∷ ls) asked goes)
  on_line None e later =
      let brings = event_in p line in
      let f = firsts (asks_of brings) (λ more. stream_section (n + 1) (open_after p line) (ls ++ more)) asked
      (λ more. let g = goes more in (g.0, sym (stepped p line n e (no_end e) (ls ++ more)) ∙ g.1)) in
      let own_parts = parts own (asks_of brings) f.rest (subst (AllByRecursion (IsOwn own)) f.are mine) in
      let t = later f.rest f.later own_parts.1 in
      let none : why_in own p line ≡ None = ap (λ r. (let w : Option Why = option_or (option_map Line r) (refused_to own brings) in w)) e
      ∙ mine_before own line p (no_end e) own_parts.0 t.is_own in
      record {
        is_own = own_before own line p own_parts.0 t.is_own;
        is =
            ap (λ w. option_map_or (Refuses n) w (all_then (asks_of brings) (examined own (n + 1) (open_after p line) ls))) none
            ∙ ap (all_then (asks_of brings)) t.is ∙ all_admitted (asks_of brings) f.rest ∙ ap Admits (sym f.are);
      }

pub taken : (own : List ℕ) (ls : List (List ℕ)) (n : ℕ) (pending : Open) (asked : List Asked) → Goes n pending ls asked → AllByRecursion (IsOwn own) asked
    → Taken own n pending ls asked
taken own [] n Closed asked goes mine =
    let g = goes (stop ∷ []) in
    let none = nothing_asked asked (ap (λ (c : Cards). c.asked) g.1) in
    record { is_own = tt; is = ap Admits (sym none) }
taken own [] n (InList list) asked goes mine = not_stopped n OutOfPlace (stops n (InList list) [] asked goes)
taken own [] n (InJob job) asked goes mine = not_stopped n OutOfPlace (stops n (InJob job) [] asked goes)
taken own (line ∷ ls) n p asked goes mine = on_line own line ls n p asked goes mine (refusal_in p line) refl (λ rest. taken own ls (n + 1) (open_after p line) rest)
