-- The lines of requests and of commands over all data sets, and over those alone whose names pass.
use Rattle.std.proofs.Common.{◌≡◌, ℕ, zero, suc, ◌+◌, ◌≤◌, nat_eq, Bool, true, List, [], ◌∷◌, ◌++◌, length, Option, Some, None, refl, sym, ap, ◌∙◌, map, take, flat_map}
use Rattle.std.specs.{Prelude.{if◌then◌else◌}, Option.{option_and_then, option_map_or}, Cmp.Lexicographic.{pointwise, bytes_decides}}
use Rattle.deck_lines.specs.declared.command.Command.TheVariants.{List as Listing}
use Rattle.mon_command.specs.Commanded.{Answer}
use Rattle.mon_access.specs.Accounts.{find_account}
use Rattle.audit.specs.{declared.request.AuditedRequest.{AuditedRequest}, declared.grants.Grant.{Grant}, Requests.{asked_of, request_line, place_in, grant}}
use Rattle.audit.specs.{Grants.{command_grant, known_grant, by_owner, to_see_list, by_entry}, Catalogs.{shown_lines}}
use Rattle.audit.specs.{Ordered.{card_words, outcome_words, ordered_lines}, Words.{command_line}}
use Rattle.mon_monitor.proofs.Common.{Account, DataSet, Sets, find_set, Command, Create, Delete, SetAcl, ShowAcl, Catalog, account_of, answered, to_read, Request, Reach, serve, set_of, note_act, unit_of, UnitState, tie_at, Tie, looks_at_tied, Asking, Asks, Returns, asked_by, exchanged_line}
use Rattle.frame_laws.specs.Naming.{of_names, command_names, command_makes}
use Rattle.frame_laws.proofs.{Filtering.{found}, Serving.{Beside, ReachesStand, each, answered_beside}}

-- ENTRIES THAT TELL THE SAME

pub all_told : {A : Type 0} (f : A → List ℕ) (xs ys : List A) → map f xs ≡ map f ys → flat_map f xs ≡ flat_map f ys
all_told f [] [] h = refl
all_told f [] (y ∷ ys) h = absurd (let c : [] ≡ f y ∷ map f ys = h in cc)
all_told f (x ∷ xs) [] h = absurd (let c : f x ∷ map f xs ≡ [] = h in cc)
all_told f (x ∷ xs) (y ∷ ys) h =
    let here : f x ≡ f y = cc (h) in
    let rest : map f xs ≡ map f ys = cc (h) in
    ap (λ (t : List ℕ). t ++ flat_map f xs) here ∙ ap (λ (t : List ℕ). f y ++ t) (all_told f xs ys rest)

-- and as many of each
pub first_told : {A : Type 0} (f : A → List ℕ) (k : ℕ) (xs ys : List A) → map f xs ≡ map f ys → flat_map f (take k xs) ≡ flat_map f (take k ys)
first_told f k [] [] h = refl
first_told f k [] (y ∷ ys) h = absurd (let c : [] ≡ f y ∷ map f ys = h in cc)
first_told f k (x ∷ xs) [] h = absurd (let c : f x ∷ map f xs ≡ [] = h in cc)
first_told f zero (x ∷ xs) (y ∷ ys) h = refl
first_told f (suc k) (x ∷ xs) (y ∷ ys) h =
    let here : f x ≡ f y = cc (h) in
    let rest : map f xs ≡ map f ys = cc (h) in
    ap (λ (t : List ℕ). t ++ flat_map f (take k xs)) here ∙ ap (λ (t : List ℕ). f y ++ t) (first_told f k xs ys rest)

-- REQUESTS

found_alike : (p : List ℕ → Bool) (rest : Sets) (n : ℕ) (sets alone : Sets) → Beside p rest n sets alone → (name : List ℕ) → p name ≡ true → find_set name sets ≡ find_set name alone
found_alike p rest n sets alone h name ours = sym (ap (find_set name) h.own ∙ found p name ours sets)

-- what is said of a request by a unit that is tied so, of this data set
abbrev said_of_request : ℕ → Account → Request → Tie → Option DataSet → AuditedRequest
said_of_request i account q tie set = record {
  number = i;
  account = account.name;
  statement = q.statement;
  act = note_act q.act;
  unit = unit_of q.act;
  target = tie.target;
  place = option_map_or (λ s. place_in (note_act q.act) s.mode (length s.records) tie.position) set tie.position;
  grant = option_and_then (grant account (note_act q.act)) set;
}

module _ (p : List ℕ → Bool) (rest : Sets) (n : ℕ) (account : Account) (i : ℕ) where
  looked_alike : (sets alone : Sets) → Beside p rest n sets alone → (o : Option (List ℕ)) → ((k : List ℕ) → o ≡ Some k → p k ≡ true)
      → option_and_then (λ name. find_set name sets) o ≡ option_and_then (λ name. find_set name alone) o
  looked_alike sets alone h None ours = refl
  looked_alike sets alone h (Some k) ours = found_alike p rest n sets alone h k (ours k refl)

  asked_alike : (s u : Reach) (q : Request) → ReachesStand p rest n s u → asked_of i account s q ≡ asked_of i account u q
  asked_alike s u q h =
      ap (λ (set : Option DataSet). said_of_request i account q (tie_at s.units (unit_of q.act)) set)
      (looked_alike s.sets u.sets h.sets (set_of s.units q) (λ k e. h.tied k (looks_at_tied s.units q k e)))
      ∙ ap (λ (units : UnitState). asked_of i account (record { sets = u.sets; units = units }) q) h.units

  pub requests_alike : {A : Type 0} (t : Asking A) (s u : Reach) → ReachesStand p rest n s u
      → map exchanged_line (asked_by i account t s) ≡ map exchanged_line (asked_by i account t u)
  requests_alike (Returns a) s u h = refl
  requests_alike (Asks q f) s u h =
      let one = each p rest n account s u q h in
      ap (λ (asked : AuditedRequest). request_line asked (serve account s q).0 ∷ map exchanged_line (asked_by i account (f (serve account s q).0) (serve account s q).1))
      (asked_alike s u q h)
      ∙ ap (λ (ls : List (List ℕ)). request_line (asked_of i account u q) (serve account s q).0 ∷ ls)
      (requests_alike (f (serve account s q).0) (serve account s q).1 (serve account u q).1 one.1)
      ∙ ap (λ r. request_line (asked_of i account u q) r ∷ map exchanged_line (asked_by i account (f r) (serve account u q).1)) one.0

-- COMMANDS

all_pass : (p : List ℕ → Bool) → ((name : List ℕ) → p name ≡ true) → (sets : Sets) → of_names p sets ≡ sets
all_pass p every [] = refl
all_pass p every (named ∷ sets) =
    ap (λ (c : Bool). if c then named ∷ of_names p sets else of_names p sets) (every named.0) ∙ ap (λ (l : Sets). named ∷ l) (all_pass p every sets)

itself : (name : List ℕ) → pointwise nat_eq name name ≡ true
itself name = (bytes_decides name name).1 refl

module _ (p : List ℕ → Bool) (rest : Sets) (n : ℕ) (sets alone : Sets) (h : Beside p rest n sets alone) where
  same_set : (name : List ℕ) → p name ≡ true → find_set name sets ≡ find_set name alone
  same_set name ours = found_alike p rest n sets alone h name ours

  grants_alike : (account : Account) (command : Command) → ((name : List ℕ) → command_names command name ≡ true → p name ≡ true)
      → command_grant account sets command ≡ command_grant account alone command
  grants_alike account (Create by name mode) covers = refl
  grants_alike account (Delete by name) covers = ap (λ (o : Option DataSet). option_and_then (by_owner account) o) (same_set name (covers name (itself name)))
  grants_alike account (SetAcl by name text) covers = ap (λ (o : Option DataSet). option_and_then (by_owner account) o) (same_set name (covers name (itself name)))
  grants_alike account (ShowAcl by name) covers = ap (λ (o : Option DataSet). option_and_then (to_see_list account) o) (same_set name (covers name (itself name)))
  grants_alike account (Listing by name) covers =
      ap (λ (o : Option DataSet). option_and_then (λ set. by_entry account set to_read) o) (same_set name (covers name (itself name)))
  grants_alike account (Catalog by) covers = refl

  known_alike : (known : Option Account) (command : Command) → ((name : List ℕ) → command_names command name ≡ true → p name ≡ true)
      → known_grant known sets command ≡ known_grant known alone command
  known_alike None command covers = refl
  known_alike (Some account) command covers = grants_alike account command covers

  shown_alike : (known : Option Account) (command : Command) → ((name : List ℕ) → command_names command name ≡ true → p name ≡ true)
      → shown_lines known sets command ≡ shown_lines known alone command
  shown_alike known (Catalog by) covers = ap (λ (l : Sets). shown_lines known l (Catalog by)) (sym (h.own ∙ all_pass p (λ name. covers name refl) sets))
  shown_alike known (Create by name mode) covers = refl
  shown_alike known (Delete by name) covers = refl
  shown_alike known (SetAcl by name text) covers = refl
  shown_alike known (ShowAcl by name) covers = refl
  shown_alike known (Listing by name) covers = refl

  pub commands_alike : (accounts : List Account) (command : Command) → ((name : List ℕ) → command_names command name ≡ true → p name ≡ true)
      → n + command_makes command ≤ 1000
      → ordered_lines (find_account accounts (account_of command)) sets command (answered accounts sets command).answer
      ≡ ordered_lines (find_account accounts (account_of command)) alone command (answered accounts alone command).answer
  commands_alike accounts command covers room =
      let known = find_account accounts (account_of command) in
      let answer = (answered accounts alone command).answer in
      ap (λ (a : Answer). ordered_lines known sets command a) (answered_beside p rest accounts command n sets alone covers room h).answer
      ∙ ap (λ (g : Option Grant). command_line (account_of command) (card_words command ++ outcome_words command g answer) ++ shown_lines known sets command) (known_alike known command covers)
      ∙ ap (λ (t : List ℕ). command_line (account_of command) (card_words command ++ outcome_words command (known_grant known alone command) answer) ++ t) (shown_alike known command covers)
