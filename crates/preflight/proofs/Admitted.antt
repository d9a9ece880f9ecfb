-- A text that is admitted goes with whatever follows it, and asks for its account alone.
use Rattle.std.proofs.Common.{◌≡◌, ℕ, ◌+◌, List, [], ◌∷◌, ◌++◌, Option, Some, None, refl, sym, ap, subst, ◌∙◌}
use Rattle.std.specs.{Option.{option_map_or}, List.{AllByRecursion}}
use Rattle.deck_lines.specs.Commands.{account_of}
use Rattle.deck_syntax.specs.{declared.stream_reader.Event.{Event}, Events.{refusal_in, event_in, open_after}}
use Rattle.deck_syntax.specs.declared.stream_reader.Event.TheVariants as event
use Rattle.deck_syntax.specs.{Decks.{Asked}, Sections.{Open, Closed, InList, InJob}}
use Rattle.preflight.{specs.declared.why.Why.{Why}, specs.Examined.{IsOwn, Verdict, Admits, Refuses}, proofs.Goes.{Goes, further, stepped}}
use Rattle.preflight.{specs.inner.Reading.{asks_of, refused_to, why_in, and_then, all_then, examined}, proofs.Verdicts.{none_both, is_own}}

pub record Fine (own : List ℕ) (n : ℕ) (pending : Open) (ls : List (List ℕ)) (asked : List Asked) : Type 0 where
  pub goes : Goes n pending ls asked
  pub are_own : AllByRecursion (IsOwn own) asked

-- what an admitted text asks behind what is asked first
record Behind (front : List Asked) (v : Verdict) (asked : List Asked) : Type 0 where
  rest : List Asked
  later : v ≡ Admits rest
  are : asked ≡ front ++ rest

first : (one : Asked) (v : Verdict) (asked : List Asked) → and_then one v ≡ Admits asked → Behind (one ∷ []) v asked
first one (Admits rest) asked is = record { rest = rest; later = refl; are = cc }
first one (Refuses n why) asked is = cc

behind : (front : List Asked) (v : Verdict) (asked : List Asked) → all_then front v ≡ Admits asked → Behind front v asked
behind [] v asked is = record { rest = asked; later = is; are = refl }
behind (one ∷ front) v asked is =
    let f = first one (all_then front v) asked is in
    let b = behind front v f.rest f.later in
    record { rest = b.rest; later = b.later; are = f.are ∙ ap (λ (xs : List Asked). one ∷ xs) b.are }

nothing : (asked : List Asked) → Admits [] ≡ Admits asked → [] ≡ asked
nothing asked is = cc

-- what is not refused to an account is asked for it, and does not end the deck
asked_own : (own : List ℕ) (e : Event) (rest : List Asked) → refused_to own e ≡ None → AllByRecursion (IsOwn own) rest → AllByRecursion (IsOwn own) (asks_of e ++ rest)
asked_own own event.Nothing rest mine are = are
asked_own own (event.Opens account) rest mine are = are
asked_own own (event.Asks command) rest mine are = (is_own own (account_of command) mine, are)
asked_own own (event.Enters job) rest mine are = (is_own own job.account mine, are)
asked_own own (event.Turns turn) rest mine are = (tt, are)
asked_own own event.Drains rest mine are = (tt, are)
asked_own own event.Stops rest mine are = are

some_none : {A : Type 0} (why : Why) → Some why ≡ None → A
some_none why is = cc

pub goes_on : (own : List ℕ) (e : Event) → refused_to own e ≡ None → e ≡ event.Stops → ⊥
goes_on own event.Stops mine is = some_none _ mine
goes_on own event.Nothing mine is = cc
goes_on own (event.Opens account) mine is = cc
goes_on own (event.Asks command) mine is = cc
goes_on own (event.Enters job) mine is = cc
goes_on own (event.Turns turn) mine is = cc
goes_on own event.Drains mine is = cc

on_line : (own line : List ℕ) (ls : List (List ℕ)) (n : ℕ) (p : Open) (asked : List Asked) (w : Option Why) → why_in own p line ≡ w
    → option_map_or (Refuses n) w (all_then (asks_of (event_in p line)) (examined own (n + 1) (open_after p line) ls)) ≡ Admits asked
    → ((rest : List Asked) → examined own (n + 1) (open_after p line) ls ≡ Admits rest → Fine own (n + 1) (open_after p line) ls rest)
    → Fine own n p (line ∷ ls) asked
on_line own line ls n p asked (Some why) e is later = cc
on_line own line ls n p asked None e is later =
    let brings = event_in p line in
    let good = none_both (refusal_in p line) (refused_to own brings) e in
    let b = behind (asks_of brings) (examined own (n + 1) (open_after p line) ls) asked is in
    let fine = later b.rest b.later in
    record {
      goes =
          subst (Goes n p (line ∷ ls)) (sym b.are)
          (further n p (open_after p line) line ls (asks_of brings) b.rest (stepped p line n good.0 (goes_on own brings good.1)) fine.goes);
      are_own = subst (AllByRecursion (IsOwn own)) (sym b.are) (asked_own own brings b.rest good.1 fine.are_own);
    }

pub admitted : (own : List ℕ) (ls : List (List ℕ)) (n : ℕ) (pending : Open) (asked : List Asked) → examined own n pending ls ≡ Admits asked → Fine own n pending ls asked
admitted own [] n Closed asked is =
    let none = nothing asked is in
    record { goes = subst (Goes n Closed []) none (λ more. (n, refl)); are_own = subst (AllByRecursion (IsOwn own)) none tt }
admitted own [] n (InList list) asked is = cc
admitted own [] n (InJob job) asked is = cc
admitted own (line ∷ ls) n p asked is = on_line own line ls n p asked (why_in own p line) refl is (λ rest. admitted own ls (n + 1) (open_after p line) rest)
