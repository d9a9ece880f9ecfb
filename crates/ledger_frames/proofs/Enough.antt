-- A text that makes no data set does over some what it does over all.
use Rattle.std.proofs.Common.{◌≡◌, ℕ, nat_eq, ◌+◌, ◌≤◌, Bool, true, false, List, [], ◌∷◌, length, map, Option, Some, None, refl, sym, ap, ◌∙◌, subst, arith}
use Rattle.std.specs.{Prelude.{if◌then◌else◌}, Option.{option_map_or}, List.{AllByRecursion}, Map.{keys_of, lookup, remove_entry}, Cmp.Lexicographic.{pointwise}}
use Rattle.std.proofs.lemmas.List.{length-map}
use Rattle.mon_text.specs.Lines.{IsLine}
use Rattle.mon_access.specs.{declared.account.Account.{Account}, Accounts.{find_account}, Matches.{is_owner}}
use Rattle.mon_catalogue.specs.{declared.data_set.DataSet.{DataSet}, Sets.{Sets, NamesDiffer}, Stored.{IsStored, IsStoredSet, ArePrintable}}
use Rattle.scheduler.specs.Marks.{Marks}
use Rattle.deck_lines.specs.{declared.command.Command.{Command, TheVariants.{Create, Delete, SetAcl, ShowAcl, List as Listing, Catalog}}, Commands.{account_of}}
use Rattle.mon_monitor.specs.{SystemStates.{SystemState, first_system}, Events.{Event, Serve, Load, Give, Drain}, Played.{Played, played}, Audit.{audit_of}}
use Rattle.frame_laws.specs.{Naming.{of_names, speak_of, makes, event_makes}, Owners.{Owners, owners_of, owners_by, owners_behind, owners_after}}
use Rattle.frame_laws.specs.Laws.{PlayedBeside, TextsAreFramed, NamesAreKnown, NamesStayApart}
use Rattle.frame_audit.specs.Laws.{AuditsAreFramed}
use Rattle.ledger_sets.specs.Changes.{changes_between}
use Rattle.ledger_frames.specs.Laws.{DoesTheSame, SomeAreEnough}
use Rattle.ledger_frames.proofs.{Within.{Names, AreWithin, all_are, behind, under, as_many}, Between.{others, same_between, both_hold, others_hold}}

-- ---- where none is made, the names are some of those before

without : (name : List ℕ) (owners : Owners) (names : Names) → AreWithin (keys_of owners) names → AreWithin (keys_of (remove_entry (pointwise nat_eq name) owners)) names
without name [] names within = within
without name (one ∷ owners) names within = by (pointwise nat_eq name one.0) (without name owners)
  where
    by : (b : Bool) → ((names : Names) → AreWithin (keys_of owners) names → AreWithin (keys_of (remove_entry (pointwise nat_eq name) owners)) names)
        → AreWithin (keys_of (if b then owners else one ∷ remove_entry (pointwise nat_eq name) owners)) names
    by true rest = behind names one.0 (keys_of owners) within
    by false rest = under (keys_of owners) (keys_of (remove_entry (pointwise nat_eq name) owners)) rest names one.0 within

module _ (accounts : List Account) (names : Names) where
  by_command : (account : Account) (command : Command) (owners : Owners) → event_makes (Serve command) ≡ 0 → AreWithin (keys_of owners) names
      → AreWithin (keys_of (owners_by account command owners)) names
  by_command account (Create by name mode) owners none within = cc
  by_command account (Delete by name) owners none within = found (lookup (pointwise nat_eq name) owners)
    where
      mine : (owner : List ℕ) (b : Bool) → AreWithin (keys_of (if b then remove_entry (pointwise nat_eq name) owners else owners)) names
      mine owner true = without name owners names within
      mine owner false = within

      found : (o : Option (List ℕ))
          → AreWithin (keys_of (option_map_or (λ owner. if is_owner account owner then remove_entry (pointwise nat_eq name) owners else owners) o owners)) names
      found None = within
      found (Some owner) = mine owner (is_owner account owner)
  by_command account (SetAcl by name text) owners none within = within
  by_command account (ShowAcl by name) owners none within = within
  by_command account (Listing by name) owners none within = within
  by_command account (Catalog by) owners none within = within

  by_event : (event : Event) (owners : Owners) → event_makes event ≡ 0 → AreWithin (keys_of owners) names → AreWithin (keys_of (owners_behind accounts event owners)) names
  by_event (Serve command) owners none within = by (find_account accounts (account_of command))
    where
      by : (o : Option Account) → AreWithin (keys_of (option_map_or (λ account. owners_by account command owners) o owners)) names
      by None = within
      by (Some account) = by_command account command owners none within
  by_event (Load deck) owners none within = within
  by_event (Give slot count) owners none within = within
  by_event Drain owners none within = within

  by_events : (events : List Event) (owners : Owners) → makes events ≡ 0 → AreWithin (keys_of owners) names → AreWithin (keys_of (owners_after accounts events owners)) names
  by_events [] owners none within = within
  by_events (event ∷ events) owners none within =
      let first : event_makes event ≡ 0 = omega (arith, none) in
      let later : makes events ≡ 0 = omega (arith, none) in
      by_events events (owners_behind accounts event owners) later (by_event event owners first within)

same_keys : (sets : Sets) → keys_of (owners_of sets) ≡ keys_of sets
same_keys [] = refl
same_keys (one ∷ sets) = ap (λ (l : Names). one.0 ∷ l) (same_keys sets)

-- ---- the law

module _ (p : List ℕ → Bool) (sets : Sets) (all : Sets) (within : AreWithin (keys_of all) (keys_of sets)) (stay : others p all ≡ others p sets) where
  no_more : length all ≤ length sets
  no_more =
      let fewer = as_many (keys_of sets) (keys_of all) within in
      let some = length-map all (λ named. named.0) in
      let many = length-map sets (λ named. named.0) in
      omega (arith, fewer, some, many)

  hold : (P : List ℕ × DataSet → Type 0) → AllByRecursion P sets → AllByRecursion P (of_names p all) → AllByRecursion P all
  hold P before own = both_hold p P all own (subst (AllByRecursion P) (sym stay) (others_hold p P sets before))

  all_stored : IsStored sets → NamesDiffer all → IsStored (of_names p all) → IsStored all
  all_stored before differ own =
      let most = before.0.1 in
      let fewer = no_more in
      let few : length all ≤ 1000 = omega (arith, most, fewer) in
      ((differ, few), hold IsStoredSet before.1 own.1)

pub some_are_enough : TextsAreFramed → NamesAreKnown → NamesStayApart → AuditsAreFramed → SomeAreEnough
some_are_enough framed known apart audits slots accounts events m sets p named none stored = record {
  printouts = beside.printouts;
  told = audits slots accounts events m sets p named room;
  changes = ap (changes_between (of_names p sets)) beside.own ∙ same_between p sets after within stored.0.0 beside.others;
  stored = λ own. all_stored p sets after within beside.others stored (apart slots accounts events m sets stored.0.0) (subst IsStored beside.own own);
  printable = λ before own. hold p sets after within beside.others (λ named. AllByRecursion IsLine named.1.records) before (subst ArePrintable beside.own own);
}
  where
    room : length sets + makes events ≤ 1000
    room = let most = stored.0.1 in omega (arith, most, none)

    after : Sets
    after = (played events m (first_system slots accounts sets)).after.scheduler.sets

    beside : PlayedBeside p sets (played events m (first_system slots accounts sets)) (played events m (first_system slots accounts (of_names p sets)))
    beside = framed slots accounts events m sets p named room

    within : AreWithin (keys_of after) (keys_of sets)
    within =
        subst (λ (l : Names). AreWithin l (keys_of sets))
        (ap keys_of (sym (known slots accounts events m sets)) ∙ same_keys after)
        (by_events accounts (keys_of sets) events (owners_of sets) none (subst (λ (l : Names). AreWithin l (keys_of sets)) (sym (same_keys sets)) (all_are (keys_of sets))))
