-- The lines before a refused one begin a text that its account may hand in: what closes it.
use Rattle.std.proofs.Common.{◌≡◌, ℕ, suc, ◌+◌, Bool, true, false, if◌then◌else◌, List, [], ◌∷◌, ◌++◌, take, Option, Some, None, refl, ap, ◌∙◌, arith}
use Rattle.std.specs.{Prelude.{codes}, Option.{option_map_or}}
use Rattle.deck_lines.specs.Refusing.{is_dollar_line}
use Rattle.deck_syntax.specs.Events.{refusal_in, event_in, event_of, opened_by, open_after}
use Rattle.deck_syntax.specs.{declared.request.Request.{Request}, Decks.{Asked, Commands, Enters}, Jobs.{ends_job, after_job_line}}
use Rattle.deck_syntax.specs.{Requests.{with_line, set_acl_of, request_on}, Sections.{Open, Closed, InList, InJob}}
use Rattle.deck_syntax.specs.declared.request.Request.TheVariants as request
use Rattle.preflight.specs.{declared.why.Why.{Why}, declared.why.Why.TheVariants.{Unfinished}, Examined.{Admits, Refuses}}
use Rattle.preflight.specs.inner.Reading.{asks_of, refused_to, why_in, all_then, examined}
use Rattle.preflight.proofs.{Good.{OpenIsOwn, same_account}, Refusals.{place, behind_refused}, Verdicts.{all_admitted, none_both, is_own, not_foreign}}

-- what closes what is open
abbrev closing : Open → List (List ℕ)
closing Closed = []
closing (InList list) = codes "$ENDACL" ∷ []
closing (InJob job) = codes "$EOJ" ∷ []

abbrev closed_asks : Open → List Asked
closed_asks Closed = []
closed_asks (InList list) = Commands (set_acl_of list) ∷ []
closed_asks (InJob job) = Enters job ∷ []

closes : (own : List ℕ) (n : ℕ) (p : Open) → OpenIsOwn own p → examined own n p (closing p) ≡ Admits (closed_asks p)
closes own n Closed mine = refl
closes own n (InList list) mine = ap (λ w. option_map_or (Refuses n) w (Admits (Commands (set_acl_of list) ∷ []))) (not_foreign own list.account mine)
closes own n (InJob job) mine = ap (λ w. option_map_or (Refuses n) w (Admits (Enters job ∷ []))) (not_foreign own job.account mine)

-- what is open behind a line that is not refused to the account is its own
own_after : (own line : List ℕ) (p : Open) → refused_to own (event_in p line) ≡ None → OpenIsOwn own p → OpenIsOwn own (open_after p line)
own_after own line Closed good mine = by (request_on line) good
  where
    by : (q : Request) → refused_to own (event_of q) ≡ None → OpenIsOwn own (opened_by q)
    by request.Nothing good = tt
    by (request.Asks command) good = tt
    by (request.OpensList account name) good = is_own own account good
    by (request.OpensJob job) good = is_own own job.account good
    by (request.Turns turn) good = tt
    by request.Drains good = tt
    by request.Stops good = tt
own_after own line (InList list) good mine = by (is_dollar_line line)
  where
    by : (b : Bool) → OpenIsOwn own (if b then Closed else InList (with_line list line))
    by true = tt
    by false = mine
own_after own line (InJob job) good mine = by (ends_job line)
  where
    by : (b : Bool) → OpenIsOwn own (if b then Closed else InJob (after_job_line job line))
    by true = tt
    by false = same_account job line ∙ mine

-- the lines from number n on are refused at line k, and with something behind them those before it are not
abbrev pub Begins : List ℕ → ℕ → Open → List (List ℕ) → ℕ → Type 0
Begins own n p ls k = (i : ℕ) × (rest : List (List ℕ)) × (asked : List Asked) × (k ≡ n + i) × (examined own n p (take i ls ++ rest) ≡ Admits asked)

closed_here : (own : List ℕ) (n k : ℕ) (p : Open) (ls : List (List ℕ)) → OpenIsOwn own p → k ≡ n → Begins own n p ls k
closed_here own n k p ls mine same = (0, closing p, closed_asks p, omega (arith, same), closes own n p mine)

module _ (own line : List ℕ) (ls : List (List ℕ)) (n k : ℕ) (why : Why) (p : Open) (mine : OpenIsOwn own p) where
  further : why_in own p line ≡ None → Begins own (n + 1) (open_after p line) ls k → Begins own n p (line ∷ ls) k
  further good (i, rest, asked, at, is) =
      let first = asks_of (event_in p line) in (
        suc i,
        rest,
        first ++ asked,
        omega (arith, at),
        ap (λ o. option_map_or (Refuses n) o (all_then first (examined own (n + 1) (open_after p line) (take i ls ++ rest)))) good
            ∙ ap (all_then first) is ∙ all_admitted first asked,
      )

  on_line : (w : Option Why) → why_in own p line ≡ w
      → option_map_or (Refuses n) w (all_then (asks_of (event_in p line)) (examined own (n + 1) (open_after p line) ls)) ≡ Refuses k why
      → (OpenIsOwn own (open_after p line) → examined own (n + 1) (open_after p line) ls ≡ Refuses k why → Begins own (n + 1) (open_after p line) ls k)
      → Begins own n p (line ∷ ls) k
  on_line (Some w) e is later = closed_here own n k p (line ∷ ls) mine (place n k w why is)
  on_line None e is later =
      further e
      (later (own_after own line p (none_both (refusal_in p line) (refused_to own (event_in p line)) e).1 mine)
      (behind_refused (asks_of (event_in p line)) (examined own (n + 1) (open_after p line) ls) k why is))

pub begins : (own : List ℕ) (ls : List (List ℕ)) (n : ℕ) (p : Open) (k : ℕ) (why : Why) → OpenIsOwn own p → examined own n p ls ≡ Refuses k why → Begins own n p ls k
begins own [] n Closed k why mine is = cc
begins own [] n (InList list) k why mine is = closed_here own n k (InList list) [] mine (place n k Unfinished why is)
begins own [] n (InJob job) k why mine is = closed_here own n k (InJob job) [] mine (place n k Unfinished why is)
begins own (line ∷ ls) n p k why mine is =
    on_line own line ls n k why p mine (why_in own p line) refl is (λ after later. begins own ls (n + 1) (open_after p line) k why after later)
