-- Texts run in parts: their names stay apart, and are those that their commands tell.
use Rattle.std.proofs.Common.{◌≡◌, ℕ, ◌+◌, ◌≤◌, nat_eq, nat_le, Bool, true, false, cond, List, [], ◌∷◌, ◌++◌, length, Option, Some, None, refl, sym, ap, ◌∙◌, subst, is_some, arith}
use Rattle.std.specs.{Prelude.{if◌then◌else◌}, Option.{option_map_or}, List.{AllByRecursion, IsDistinct}, Map.{keys_of, lookup, remove_entry}}
use Rattle.std.{specs.Cmp.Lexicographic.{pointwise, bytes_decides, nat_list_eq_equiv}, proofs.lemmas.Map.Made.{is_some-lookup, keys_of-map_values}}
use Rattle.std.proofs.lemmas.{List.{length-append}, Map.Keys.{IsDistinct-head, IsDistinct-tail, IsDistinct-cons, IsDistinct-push}}
use Rattle.mon_access.specs.{declared.account.Account.{Account}, Accounts.{find_account}, Matches.{is_owner}}
use Rattle.mon_catalogue.specs.{declared.data_set.DataSet.{DataSet}, Sets.{Sets}}
use Rattle.deck_lines.specs.{declared.command.Command.{Command}, Commands.{account_of}}
use Rattle.deck_lines.specs.declared.command.Command.TheVariants.{Create, Delete, SetAcl, ShowAcl, List as Listing, Catalog}
use Rattle.scheduler.specs.Marks.{Marks}
use Rattle.mon_monitor.specs.{SystemStates.{first_system}, Events.{Event, Serve, Load, Give, Drain}, Played.{played}}
use Rattle.parts_laws.specs.{Picking.{Decides, picked}, Runs.{IsLocal, Numbered}, Threads.{machine_of, threaded}, Laws.{part_threaded}}
use Rattle.parts_laws.proofs.Threading.{marks_picked}
use Rattle.frame_laws.specs.{Naming.{command_makes, event_makes, makes}, Owners.{Owners, owners_of, owners_by, owners_behind, owners_after}}
use Rattle.frame_laws.specs.{Texts.{texts_of, owners_behind_texts}, Laws.{NamesStayApart, TextsRunInParts}}
use Rattle.frame_laws.proofs.{Playing.{texts_are_framed}, Owning.{names_are_known, as_many}, Marking.{takes_first}}

abbrev Apart : Owners → Type 0
Apart owners = IsDistinct (pointwise nat_eq) (keys_of owners)

names_are : (sets : Sets) → keys_of (owners_of sets) ≡ keys_of sets
names_are sets = keys_of-map_values (λ (set : DataSet). set.owner) sets

-- A NAME GOES, A NAME COMES

all_without : (P : List ℕ → Type 0) (name : List ℕ) (owners : Owners) → AllByRecursion P (keys_of owners) → AllByRecursion P (keys_of (remove_entry (pointwise nat_eq name) owners))
all_without P name [] h = tt
all_without P name (e ∷ owners) h = by (pointwise nat_eq name e.0) (all_without P name owners h.1)
  where
    by : (b : Bool) → AllByRecursion P (keys_of (remove_entry (pointwise nat_eq name) owners)) → AllByRecursion P (keys_of (cond b owners (e ∷ remove_entry (pointwise nat_eq name) owners)))
    by true rest = h.1
    by false rest = (h.0, rest)

apart_without : (name : List ℕ) (owners : Owners) → Apart owners → Apart (remove_entry (pointwise nat_eq name) owners)
apart_without name [] h = h
apart_without name (e ∷ owners) h = by (pointwise nat_eq name e.0) (apart_without name owners (IsDistinct-tail (pointwise nat_eq) e.0 (keys_of owners) h))
  where
    by : (b : Bool) → Apart (remove_entry (pointwise nat_eq name) owners) → Apart (cond b owners (e ∷ remove_entry (pointwise nat_eq name) owners))
    by true rest = IsDistinct-tail (pointwise nat_eq) e.0 (keys_of owners) h
    by false rest = IsDistinct-cons (pointwise nat_eq) e.0 (keys_of (remove_entry (pointwise nat_eq name) owners))
        (all_without (λ y. pointwise nat_eq e.0 y ≡ false) name owners (IsDistinct-head (pointwise nat_eq) e.0 (keys_of owners) h)) rest

fewer_without : (name : List ℕ) (owners : Owners) → length (remove_entry (pointwise nat_eq name) owners) ≤ length owners
fewer_without name [] = omega arith
fewer_without name (e ∷ owners) = by (pointwise nat_eq name e.0) (fewer_without name owners)
  where
    by : (b : Bool) → length (remove_entry (pointwise nat_eq name) owners) ≤ length owners → length (cond b owners (e ∷ remove_entry (pointwise nat_eq name) owners)) ≤ length (e ∷ owners)
    by true rest = omega arith
    by false rest = omega (arith, rest)

keys_with : (name owner : List ℕ) (owners : Owners) → keys_of owners ++ name ∷ [] ≡ keys_of (owners ++ (name, owner) ∷ [])
keys_with name owner [] = refl
keys_with name owner (e ∷ owners) = ap (λ (l : List (List ℕ)). e.0 ∷ l) (keys_with name owner owners)

-- what a command makes of them
record Kept (n : ℕ) (owners after : Owners) : Type 0 where
  pub apart : Apart owners → Apart after
  pub few : length after ≤ length owners + n

stay : (n : ℕ) (owners : Owners) → Kept n owners owners
stay n owners = record { apart = λ h. h; few = omega arith }

module _ (account : Account) (owners : Owners) where
  command_keeps : (command : Command) → Kept (command_makes command) owners (owners_by account command owners)
  command_keeps (Create _ name mode) = by (is_some (lookup (pointwise nat_eq name) owners)) refl (nat_le 1000 (length owners))
    where
      by : (taken : Bool) → is_some (lookup (pointwise nat_eq name) owners) ≡ taken → (full : Bool)
          → Kept 1 owners (if taken then owners else if full then owners else owners ++ (name, account.name) ∷ [])
      by true e full = stay 1 owners
      by false e true = stay 1 owners
      by false e false = record {
        apart = λ h. subst (IsDistinct (pointwise nat_eq)) (keys_with name account.name owners)
            (IsDistinct-push nat_list_eq_equiv (keys_of owners) name h (sym (is_some-lookup (pointwise nat_eq name) owners) ∙ e));
        few = (let k = length-append owners ((name, account.name) ∷ []) in omega (arith, k));
      }
  command_keeps (Delete _ name) = by (lookup (pointwise nat_eq name) owners)
    where
      owned : (b : Bool) → Kept 0 owners (if b then remove_entry (pointwise nat_eq name) owners else owners)
      owned true = record { apart = apart_without name owners; few = (let k = fewer_without name owners in omega (arith, k)) }
      owned false = stay 0 owners

      by : (o : Option (List ℕ)) → Kept 0 owners (option_map_or (λ owner. if is_owner account owner then remove_entry (pointwise nat_eq name) owners else owners) o owners)
      by None = stay 0 owners
      by (Some owner) = owned (is_owner account owner)
  command_keeps (SetAcl _ name text) = stay 0 owners
  command_keeps (ShowAcl _ name) = stay 0 owners
  command_keeps (Listing _ name) = stay 0 owners
  command_keeps (Catalog _) = stay 0 owners

event_keeps : (accounts : List Account) (event : Event) (owners : Owners) → Kept (event_makes event) owners (owners_behind accounts event owners)
event_keeps accounts (Serve command) owners = by (find_account accounts (account_of command))
  where
    by : (o : Option Account) → Kept (command_makes command) owners (option_map_or (λ account. owners_by account command owners) o owners)
    by None = stay (command_makes command) owners
    by (Some account) = command_keeps account owners command
event_keeps accounts (Load deck) owners = stay 0 owners
event_keeps accounts (Give slot count) owners = stay 0 owners
event_keeps accounts Drain owners = stay 0 owners

events_keep : (accounts : List Account) (events : List Event) (owners : Owners) → Kept (makes events) owners (owners_after accounts events owners)
events_keep accounts [] owners = stay 0 owners
events_keep accounts (event ∷ events) owners =
    let one = event_keeps accounts event owners in
    let rest = events_keep accounts events (owners_behind accounts event owners) in
    record { apart = λ h. rest.apart (one.apart h); few = (let a = one.few in let b = rest.few in omega (arith, a, b)) }

-- TEXTS

decides : Decides (pointwise nat_eq)
decides = record { itself = λ k. (bytes_decides k k).1 refl; alike = λ k l h. (bytes_decides k l).0 h }

pub names_stay_apart : NamesStayApart
names_stay_apart slots accounts events m sets differ =
    subst (IsDistinct (pointwise nat_eq)) (ap keys_of (sym (names_are_known slots accounts events m sets)) ∙ names_are (played events m (first_system slots accounts sets)).after.scheduler.sets)
    ((events_keep accounts events (owners_of sets)).apart (subst (IsDistinct (pointwise nat_eq)) (sym (names_are sets)) differ))

module _ (slots : ℕ) (accounts : List Account) where
  abbrev left : List Event → Marks → Sets → Sets
  left events marks sets = (played events marks (first_system slots accounts sets)).after.scheduler.sets

  is_local : IsLocal (machine_of (texts_of slots accounts))
  is_local = record {
    frame = λ p text sets covers ready.
        let f = texts_are_framed slots accounts text.0 text.1 sets p covers ready.room in
        record { out = f.printouts; own = f.own; others = f.others };
    apart = λ text sets ready. names_stay_apart slots accounts text.0 text.1 sets ready.apart;
    few = λ text sets.
        let few = (events_keep accounts text.0 (owners_of sets)).few in
        let is : length (owners_of (left text.0 text.1 sets)) ≡ length (owners_after accounts text.0 (owners_of sets)) = ap (λ (l : Owners). length l) (names_are_known slots accounts text.0 text.1 sets) in
        let a = as_many (left text.0 text.1 sets) in
        let b = as_many sets in
        omega (arith, is, few, a, b);
  }

  owners_told : (texts : List (Numbered (List Event))) (marks : Marks) (sets : Sets)
      → owners_of (threaded (texts_of slots accounts) texts marks sets).sets ≡ owners_behind_texts accounts texts (owners_of sets)
  owners_told [] marks sets = refl
  owners_told (t ∷ texts) marks sets =
      let here = played t.text marks (first_system slots accounts sets) in
      owners_told texts here.marks here.after.scheduler.sets ∙ ap (owners_behind_texts accounts texts) (names_are_known slots accounts t.text marks sets)

pub texts_run_in_parts : TextsRunInParts
texts_run_in_parts slots accounts split texts sets go ready apart marks =
    let w = marks_picked (texts_of slots accounts) (is_local slots accounts) (takes_first slots accounts) decides split texts sets go ready apart marks in
    record {
      all = w.all;
      printed = w.printed;
      sets_are =
          ap (picked (pointwise nat_eq) split.of_name (λ k. (part_threaded (texts_of slots accounts) split texts sets marks k).sets))
          (sym (sym (names_are (threaded (texts_of slots accounts) texts w.all sets).sets) ∙ ap keys_of (owners_told slots accounts texts w.all sets)))
          ∙ w.sets_are;
    }
