-- A job of an account is loaded, in systems that agree for it.
use Rattle.std.proofs.Common.{◌≡◌, ℕ, zero, suc, List, [], ◌∷◌, Option, Some, None, Result, ap, sym, ◌∙◌, subst, inl, inr, ◌⊎◌, slice_get, map}
use Rattle.mon_monitor.proofs.Common.{range_with_len, Account, find_account, statements_of, Program, Set, Tie, UnitState, tied_to, first_tie, UnitCard, JobDeck, LoadError, SlotState, seat_at, first_free, job_in, first_units, with_ties, tied_by, program_in, load_refusal, slot_in, loaded_by, job_loaded, slot_by, LoadsAgree}
use Rattle.mon_monitor.proofs.{Requests.{get_after_set}, Turning.{seat_after}}

-- all units stand at the start
abbrev AtStart : UnitState → Type 0
AtStart units = (u : ℕ) (tie : Tie) → slice_get units.ties u ≡ Some tie → tie.position ≡ 0

first_at_start : (l : List ℕ) (u : ℕ) (tie : Tie) → slice_get (map first_tie l) u ≡ Some tie → tie.position ≡ 0
first_at_start [] u tie h = absurd cc
first_at_start (x ∷ l) zero tie h = let is : first_tie x ≡ tie = cc (h) in sym (ap (λ (t : Tie). t.position) is)
first_at_start (x ∷ l) (suc u) tie h = first_at_start l u tie h

ties_at_start : (cards : List UnitCard) (units : UnitState) → AtStart units → AtStart (with_ties cards units)
ties_at_start [] units h = h
ties_at_start (card ∷ cards) units h = ties_at_start cards (tied_by card units) (λ u tie is.
    elim (get_after_set units.ties card.unit u (tied_to (Set card.set)) tie is) [
      | inl was ↦ h u tie was
      | inr now ↦ ap (λ (t : Tie). t.position) now
    ])

record IsFresh (account : Account) (slot : SlotState) : Type 0 where
  pub own : slot.account ≡ account
  pub start : AtStart slot.units

module _ (account : Account) (deck : JobDeck) where
  fresh_by : (found : Option Account) (p : Option Program) (slot : SlotState) → found ≡ Some account → slot_by deck found p ≡ Some slot → IsFresh account slot
  fresh_by None p slot known h = absurd cc
  fresh_by (Some a) None slot known h = absurd cc
  fresh_by (Some a) (Some p) slot known h =
      let one : a ≡ account = cc (known) in
      let units = with_ties deck.ties (first_units deck.lines) in
      record {
        own = by_account a p slot h ∙ one;
        start = subst AtStart (by_units a p slot h) (ties_at_start deck.ties (first_units deck.lines) (first_at_start (range_with_len 0 100)));
      }
    where
      by_account : (a : Account) (p : Program) (slot : SlotState) → slot_by deck (Some a) (Some p) ≡ Some slot → slot.account ≡ a
      by_account a p slot h = cc (h)

      by_units : (a : Account) (p : Program) (slot : SlotState) → slot_by deck (Some a) (Some p) ≡ Some slot → with_ties deck.ties (first_units deck.lines) ≡ slot.units
      by_units a p slot h = cc (h)

  fresh : (accounts : List Account) (slot : SlotState) → find_account accounts deck.account ≡ Some account → slot_in accounts deck ≡ Some slot → IsFresh account slot
  fresh accounts slot known h = fresh_by (find_account accounts deck.account) (program_in (statements_of deck.lines)) slot known h

loaded_seats : (refusal : Option LoadError) (n : Option ℕ) (slot : Option SlotState) (slots : List (Option SlotState)) (s : ℕ) (x : SlotState)
    → seat_at s (loaded_by refusal n slot slots).1 ≡ Some x → (seat_at s slots ≡ Some x) ⊎ (slot ≡ Some x)
loaded_seats (Some refusal) n slot slots s x h = inl h
loaded_seats None (Some n) slot slots s x h = seat_after n s slot slots x h
loaded_seats None None slot slots s x h = inl h

pub loads_agree : LoadsAgree
loads_agree account w v agree deck own =
    let known : find_account w.accounts deck.account ≡ Some account = ap (find_account w.accounts) own ∙ agree.known in
    let same : job_loaded w.accounts deck w.scheduler.slots ≡ job_loaded v.accounts deck v.scheduler.slots =
    ap (λ (l : List Account). job_loaded l deck w.scheduler.slots) agree.accounts ∙ ap (job_loaded v.accounts deck) agree.scheduler.slots in
    let seats : (s : ℕ) (x : SlotState) → seat_at s (job_loaded w.accounts deck w.scheduler.slots).1 ≡ Some x → (job_in s w.scheduler ≡ Some x) ⊎ (slot_in w.accounts deck ≡ Some x) =
    loaded_seats (load_refusal w.accounts deck w.scheduler.slots) (first_free w.scheduler.slots) (slot_in w.accounts deck) w.scheduler.slots in
    record {
      answer = ap (λ (p : Result ℕ LoadError × List (Option SlotState)). p.0) same;
      after = record {
        accounts = agree.accounts;
        known = agree.known;
        scheduler = record {
          slots = ap (λ (p : Result ℕ LoadError × List (Option SlotState)). p.1) same;
          own = λ s x is. elim (seats s x is) [
            | inl was ↦ agree.scheduler.own s x was
            | inr now ↦ (fresh account deck w.accounts x known now).own
          ];
          names = agree.scheduler.names;
          sets = agree.scheduler.sets;
          ties = λ s x is. elim (seats s x is) [
            | inl was ↦ agree.scheduler.ties s x was
            | inr now ↦ λ u tie name at tied. inl ((fresh account deck w.accounts x known now).start u tie at)
          ];
        };
      };
    }
