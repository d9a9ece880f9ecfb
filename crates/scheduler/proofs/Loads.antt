-- What is loaded, and what is refused.
use Rattle.std.proofs.Common.{◌≡◌, ℕ, suc, ◌+◌, ◌<◌, List, [], ◌∷◌, length, Option, Some, None, Result, Ok, Err, refl, ap, sym, ◌∙◌, subst, arith, option_map, is_some, is_none, position, slice_set, IsSome}
use Rattle.scheduler.proofs.Common.{position_from, position_from-zero, position-Some, option_or, Stop, Refused, IfRefused, SyntaxError, ProgramText, statements_of, Program, reads_programs, not_refused, Job, first_job, Account, find_account, UnitError, UnitState, JobDeck, LoadError, NoSlot, NoAccount, Cards, Syntax, Slot, SlotState, with_seat, first_free, slot_of, seat_of, seats_of, program_refusal, missing, first_units, with_ties, ties_refusal, program_in, deck_refusal, job_refusal, slot_in, loaded_by, job_loaded, slot_by, IsSpelled}
use Rattle.mon_text.specs.declared.stop.Stop.TheVariants.{Memory}
use Rattle.scheduler.proofs.{Seats.{map_set}, Carding.{told}}

spelled_in : (said : Result ProgramText SyntaxError) (p : Program) → IsSpelled said p → program_in said ≡ Some p
spelled_in (Ok cards) p a = reads_programs cards p a
spelled_in (Err refusal) p a = absurd a

pub spelled_clean : (said : Result ProgramText SyntaxError) (p : Program) → IsSpelled said p → program_refusal said ≡ None
spelled_clean (Ok cards) p a = ap (option_map Syntax) (not_refused cards p a)
spelled_clean (Err refusal) p a = absurd a

abbrev held : JobDeck → Account → Job → UnitState → SlotState
held deck account job units = record { number = deck.number; account = account; job = job; units = units }

pub slot_made : (deck : JobDeck) (found : Option Account) (account : Account) (said : Result ProgramText SyntaxError) (p : Program) (units : UnitState) (job : Job)
    → found ≡ Some account → IsSpelled said p → units ≡ with_ties deck.ties (first_units deck.lines) → job ≡ first_job p deck.limits
    → slot_by deck found (program_in said) ≡ Some (record { number = deck.number; account = account; job = job; units = units })
slot_made deck found account said p units job f a u j =
    ap (λ o. slot_by deck o (program_in said)) f ∙ ap (λ o. slot_by deck (Some account) o) (spelled_in said p a)
    ∙ ap (λ (x : UnitState). Some (held deck account (first_job p deck.limits) x)) (sym u)
    ∙ ap (λ (x : Job). Some (held deck account x units)) (sym j)

-- where there is an account and the unit cards are good, a deck is refused for its program alone
pub deck_refused_by : (accounts : List Account) (deck : JobDeck) (account : Account) (said : Option LoadError)
    → find_account accounts deck.account ≡ Some account → ties_refusal deck.ties (first_units deck.lines) ≡ None → program_refusal (statements_of deck.lines) ≡ said
    → deck_refusal accounts deck ≡ said
deck_refused_by accounts deck account said f t p =
    ap (λ o. option_or (missing NoAccount o) (option_or (option_map Cards (ties_refusal deck.ties (first_units deck.lines))) (program_refusal (statements_of deck.lines)))) f
    ∙ ap (λ (o : Option UnitError). option_or (option_map Cards o) (program_refusal (statements_of deck.lines))) t ∙ p

pub stop_refused_by : (accounts : List Account) (deck : JobDeck) (account : Account) (stop : Stop LoadError)
    → find_account accounts deck.account ≡ Some account → ties_refusal deck.ties (first_units deck.lines) ≡ None
    → IfRefused (λ refusal. program_refusal (statements_of deck.lines) ≡ Some refusal) stop → IfRefused (λ refusal. deck_refusal accounts deck ≡ Some refusal) stop
stop_refused_by accounts deck account (Refused refusal) f t p = deck_refused_by accounts deck account (Some refusal) f t p
stop_refused_by accounts deck account Memory f t p = tt

-- SEATS

free_at : (n : ℕ) (slots : List (Option Slot)) → position_from is_none (suc n) (seats_of slots) ≡ option_map suc (position_from (λ seat. is_none seat) n slots)
free_at n [] = refl
free_at n (None ∷ slots) = refl
free_at n (Some x ∷ slots) =
    let e : suc (n + 1) ≡ suc n + 1 = omega arith in
    subst (λ (m : ℕ). position_from is_none m (seats_of slots) ≡ option_map suc (position_from (λ seat. is_none seat) (n + 1) slots)) e (free_at (n + 1) slots)

-- the lowest free slot is the first empty one
pub free_is : (slots : List (Option Slot)) → first_free (seats_of slots) ≡ option_map suc (position (λ seat. is_none seat) slots)
free_is slots = free_at 0 slots ∙ ap (option_map suc) (sym (position_from-zero (λ seat. is_none seat) slots))

-- a slot is free where one has the lowest number
pub free_some : (slots : List (Option SlotState)) (n : ℕ) → first_free slots ≡ Some n → IsSome (first_free slots)
free_some slots n is = ap is_some is

pub within : (slots : List (Option Slot)) (i : ℕ) → position (λ seat. is_none seat) slots ≡ Some i → i < length slots
within slots i e = (position-Some (λ seat. is_none seat) slots i None e).0

-- LOADS

pub no_slot : (accounts : List Account) (deck : JobDeck) (slots : List (Option SlotState)) → first_free slots ≡ None → job_loaded accounts deck slots ≡ (Err NoSlot, slots)
no_slot accounts deck slots e = ap (λ o. loaded_by (option_or (missing NoSlot o) (job_refusal accounts deck)) o (slot_in accounts deck) slots) e

pub deck_refused : (accounts : List Account) (deck : JobDeck) (slots : List (Option SlotState)) (n : ℕ) (refusal : LoadError)
    → first_free slots ≡ Some n → deck_refusal accounts deck ≡ Some refusal → job_loaded accounts deck slots ≡ (Err refusal, slots)
deck_refused accounts deck slots n refusal e d =
    ap (λ o. loaded_by (option_or (missing NoSlot o) (job_refusal accounts deck)) o (slot_in accounts deck) slots) e
    ∙ ap (λ o. loaded_by o (Some n) (slot_in accounts deck) slots) (sym (told accounts deck) ∙ d)

pub deck_loaded : (accounts : List Account) (deck : JobDeck) (slots : List (Option SlotState)) (n : ℕ) (slot : SlotState)
    → first_free slots ≡ Some n → deck_refusal accounts deck ≡ None → slot_in accounts deck ≡ Some slot
    → job_loaded accounts deck slots ≡ (Ok n, with_seat n (Some slot) slots)
deck_loaded accounts deck slots n slot e d s =
    ap (λ o. loaded_by (option_or (missing NoSlot o) (job_refusal accounts deck)) o (slot_in accounts deck) slots) e
    ∙ ap (λ o. loaded_by o (Some n) (slot_in accounts deck) slots) (sym (told accounts deck) ∙ d) ∙ ap (λ o. loaded_by None (Some n) o slots) s

-- what `?` hands on is the stop that was there
pub stopped_for : {X : Type 0} (r : Result X (Stop LoadError)) (s t u : Stop LoadError) → r ≡ Err s → s ≡ t → r ≡ Err u → t ≡ u
stopped_for r s t u is same h = cc

pub stop_refused : (accounts : List Account) (deck : JobDeck) (slots : List (Option SlotState)) (n : ℕ) (stop : Stop LoadError)
    → first_free slots ≡ Some n → IfRefused (λ refusal. deck_refusal accounts deck ≡ Some refusal) stop
    → IfRefused (λ refusal. job_loaded accounts deck slots ≡ (Err refusal, slots)) stop
stop_refused accounts deck slots n (Refused refusal) e d = deck_refused accounts deck slots n refusal e d
stop_refused accounts deck slots n Memory e d = tt

abbrev answered : ℕ → List (Option SlotState) → Result ℕ LoadError × List (Option SlotState)
answered n slots = (Ok n, slots)

-- a job is loaded into the seat at an index
pub loaded_at : (accounts : List Account) (deck : JobDeck) (items : List (Option Slot)) (i : ℕ) (slot : Slot)
    → position (λ seat. is_none seat) items ≡ Some i → deck_refusal accounts deck ≡ None → slot_in accounts deck ≡ Some (slot_of slot)
    → job_loaded accounts deck (seats_of items) ≡ (Ok (suc i), seats_of (slice_set items i (Some slot)))
loaded_at accounts deck items i slot e d s =
    deck_loaded accounts deck (seats_of items) (suc i) (slot_of slot) (free_is items ∙ ap (option_map suc) e) d s
    ∙ ap (answered (suc i)) (sym (map_set seat_of items i (Some slot)))
