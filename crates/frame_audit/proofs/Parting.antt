-- Texts with their audits run in parts.
use Rattle.std.proofs.Common.{◌≡◌, ℕ, ◌+◌, ◌≤◌, nat_eq, nat_le, Bool, true, false, cond, List, [], ◌∷◌, ◌++◌, length, Option, Some, None, refl, sym, ap, ap₂, ◌∙◌, is_some, arith}
use Rattle.std.specs.{Prelude.{if◌then◌else◌}, Option.{option_map_or}, Map.{keys_of, lookup, remove_entry}, Cmp.Lexicographic.{pointwise, bytes_decides}}
use Rattle.std.proofs.lemmas.{List.{length-append}, Map.Made.{keys_of-map_values}}
use Rattle.mon_access.specs.{declared.account.Account.{Account}, Accounts.{find_account}, Matches.{is_owner}}
use Rattle.mon_catalogue.specs.{declared.data_set.DataSet.{DataSet}, Sets.{Sets}}
use Rattle.deck_lines.specs.{declared.command.Command.{Command}, Commands.{account_of}}
use Rattle.deck_lines.specs.declared.command.Command.TheVariants.{Create, Delete, SetAcl, ShowAcl, List as Listing, Catalog}
use Rattle.scheduler.specs.Marks.{Marks}
use Rattle.mon_monitor.specs.{SystemStates.{first_system}, Events.{Event, Serve, Load, Give, Drain}, Printouts.{Printout}, Played.{played}}
use Rattle.parts_laws.specs.{Picking.{Decides, picked}, Runs.{IsLocal, Numbered}, Threads.{machine_of, threaded}, Laws.{part_threaded}}
use Rattle.parts_laws.proofs.Threading.{marks_picked}
use Rattle.frame_laws.specs.{Naming.{command_makes, event_makes, makes}, Owners.{Owners, owners_of, owners_by, owners_behind, owners_after}}
use Rattle.frame_laws.specs.Texts.{owners_behind_texts}
use Rattle.frame_laws.proofs.{Playing.{texts_are_framed}, Owning.{names_are_known, as_many}, Parting.{names_stay_apart}}
use Rattle.frame_audit.{specs.Texts.{Telling, audited_texts}, specs.Laws.{TextsRunInParts}, proofs.Framing.{audits_are_framed}, proofs.Marking.{takes_first}}

-- HOW MANY DATA SETS THERE ARE

fewer_without : (name : List ℕ) (owners : Owners) → length (remove_entry (pointwise nat_eq name) owners) ≤ length owners
fewer_without name [] = omega arith
fewer_without name (e ∷ owners) = by (pointwise nat_eq name e.0) (fewer_without name owners)
  where
    by : (b : Bool) → length (remove_entry (pointwise nat_eq name) owners) ≤ length owners → length (cond b owners (e ∷ remove_entry (pointwise nat_eq name) owners)) ≤ length (e ∷ owners)
    by true rest = omega arith
    by false rest = omega (arith, rest)

few_by : (account : Account) (owners : Owners) (command : Command) → length (owners_by account command owners) ≤ length owners + command_makes command
few_by account owners (Create _ name mode) = by (is_some (lookup (pointwise nat_eq name) owners)) (nat_le 1000 (length owners))
  where
    by : (taken full : Bool) → length (if taken then owners else if full then owners else owners ++ (name, account.name) ∷ []) ≤ length owners + 1
    by true full = omega arith
    by false true = omega arith
    by false false = let k = length-append owners ((name, account.name) ∷ []) in omega (arith, k)
few_by account owners (Delete _ name) = by (lookup (pointwise nat_eq name) owners)
  where
    owned : (b : Bool) → length (if b then remove_entry (pointwise nat_eq name) owners else owners) ≤ length owners + 0
    owned true = let k = fewer_without name owners in omega (arith, k)
    owned false = omega arith

    by : (o : Option (List ℕ)) → length (option_map_or (λ owner. if is_owner account owner then remove_entry (pointwise nat_eq name) owners else owners) o owners) ≤ length owners + 0
    by None = omega arith
    by (Some owner) = owned (is_owner account owner)
few_by account owners (SetAcl _ name text) = omega arith
few_by account owners (ShowAcl _ name) = omega arith
few_by account owners (Listing _ name) = omega arith
few_by account owners (Catalog _) = omega arith

few_behind : (accounts : List Account) (event : Event) (owners : Owners) → length (owners_behind accounts event owners) ≤ length owners + event_makes event
few_behind accounts (Serve command) owners = by (find_account accounts (account_of command))
  where
    by : (o : Option Account) → length (option_map_or (λ account. owners_by account command owners) o owners) ≤ length owners + command_makes command
    by None = omega arith
    by (Some account) = few_by account owners command
few_behind accounts (Load deck) owners = omega arith
few_behind accounts (Give slot count) owners = omega arith
few_behind accounts Drain owners = omega arith

few_after : (accounts : List Account) (events : List Event) (owners : Owners) → length (owners_after accounts events owners) ≤ length owners + makes events
few_after accounts [] owners = omega arith
few_after accounts (event ∷ events) owners =
    let one = few_behind accounts event owners in
    let rest = few_after accounts events (owners_behind accounts event owners) in
    omega (arith, one, rest)

-- TEXTS

decides : Decides (pointwise nat_eq)
decides = record { itself = λ k. (bytes_decides k k).1 refl; alike = λ k l h. (bytes_decides k l).0 h }

names_are : (sets : Sets) → keys_of (owners_of sets) ≡ keys_of sets
names_are sets = keys_of-map_values (λ (set : DataSet). set.owner) sets

abbrev telling : List Printout → List ℕ → Telling
telling printouts lines = record { printouts = printouts; audit = lines }

module _ (slots : ℕ) (accounts : List Account) where
  abbrev left : List Event → Marks → Sets → Sets
  left events marks sets = (played events marks (first_system slots accounts sets)).after.scheduler.sets

  is_local : IsLocal (machine_of (audited_texts slots accounts))
  is_local = record {
    frame = λ p text sets covers ready.
        let f = texts_are_framed slots accounts text.0 text.1 sets p covers ready.room in
        record { out = ap₂ telling f.printouts (audits_are_framed slots accounts text.0 text.1 sets p covers ready.room); own = f.own; others = f.others };
    apart = λ text sets ready. names_stay_apart slots accounts text.0 text.1 sets ready.apart;
    few = λ text sets.
        let few = few_after accounts text.0 (owners_of sets) in
        let is : length (owners_of (left text.0 text.1 sets)) ≡ length (owners_after accounts text.0 (owners_of sets)) = ap (λ (l : Owners). length l) (names_are_known slots accounts text.0 text.1 sets) in
        let a = as_many (left text.0 text.1 sets) in
        let b = as_many sets in
        omega (arith, is, few, a, b);
  }

  owners_told : (texts : List (Numbered (List Event))) (marks : Marks) (sets : Sets)
      → owners_of (threaded (audited_texts slots accounts) texts marks sets).sets ≡ owners_behind_texts accounts texts (owners_of sets)
  owners_told [] marks sets = refl
  owners_told (t ∷ texts) marks sets =
      let here = played t.text marks (first_system slots accounts sets) in
      owners_told texts here.marks here.after.scheduler.sets ∙ ap (owners_behind_texts accounts texts) (names_are_known slots accounts t.text marks sets)

pub texts_run_in_parts : TextsRunInParts
texts_run_in_parts slots accounts split texts sets go ready apart marks =
    let w = marks_picked (audited_texts slots accounts) (is_local slots accounts) (takes_first slots accounts) decides split texts sets go ready apart marks in
    record {
      all = w.all;
      told = w.printed;
      sets_are =
          ap (picked (pointwise nat_eq) split.of_name (λ k. (part_threaded (audited_texts slots accounts) split texts sets marks k).sets))
          (sym (sym (names_are (threaded (audited_texts slots accounts) texts w.all sets).sets) ∙ ap keys_of (owners_told slots accounts texts w.all sets)))
          ∙ w.sets_are;
    }
