-- Right entries name their grants.
use Rattle.std.proofs.Common.{◌≡◌, ℕ, Bool, true, false, true≢false, List, [], ◌∷◌, Option, None, Some, refl, sym, ap, ◌∙◌, subst, inl, inr, if◌then◌else◌, IsSome, option_map}
use Rattle.mon_monitor.proofs.Common.{option_and_then, bytes_eq-Decides, Perms, Account, is_owner, DataSet, Sets, find_set, Reason, AclPart, Owns, IsGranted, MaySeeList, AreForReading, IsForSeeing, OwnsNamed, LendsWhereGranted, Command, Create, Delete, SetAcl, ShowAcl, Catalog, Records, Shown, AsOwner, ByEntry, granting_entry, by_entry, by_owner, to_see_list, command_grant, EntriesAreNamed, GrantsAreNamed, ChangesAreNamed, read_named, Exchanged, Entered, Asked, Ordered, IsRight, IsRightRequest, IsRightCommand, NamesItsGrant, NamesGrants, IsNamed, AccessesAreNamed, Told, Entry, Refused, Ended}
use Rattle.mon_acl.specs.Permissions.{to_read, to_execute}
use Rattle.deck_lines.specs.declared.command.Command.TheVariants.{List as Listing}
use Rattle.mon_command.specs.declared.reply.Reply.TheVariants as reply
use Rattle.mon_command.specs.Commanded as commands

-- who owns a data set is its owner
owner_is : (account : Account) (set : DataSet) → Owns account set → is_owner account set.owner ≡ true
owner_is account set owns = (bytes_eq-Decides account.name set.owner).1 owns

module _ (entries : EntriesAreNamed) (law : GrantsAreNamed) (changes : ChangesAreNamed) (lends : LendsWhereGranted) where
  request_named : (e : Exchanged) → IsRightRequest e → NamesItsGrant e
  request_named e right = record {
    got = λ line is. elim ((right.got line).0 is) [
      | inl deck ↦ inl deck.1
      | inr read ↦ inr (read_named law e.number e.account e.reach e.request.statement e.request.act read.0 read.1 read.2 read.3 read.4 read.5)
    ];
    changed = changes e.number e.account e.reach e.request;
  }

  -- COMMANDS

  shown_named : (account : Account) (set : DataSet) (request : Perms) → IsGranted account set request → IsSome (by_entry account set request)
  shown_named account set request granted = mapped (granting_entry account set request) ((entries account set request).0 granted)
    where
      mapped : (o : Option Reason) → IsSome o → IsSome (option_map ByEntry o)
      mapped None h = h
      mapped (Some reason) h = refl

  -- a data set that is there is the one whose list grants
  records_named : (account : Account) (sets : Sets) (by name : List ℕ) (records : List (List ℕ)) → AreForReading account sets name records
      → IsSome (command_grant account sets (Listing by name))
  records_named account sets by name records h =
      subst (λ (o : Option DataSet). IsSome (option_and_then (λ set. by_entry account set to_read) o)) (sym h.1) (shown_named account h.0 to_read h.2)

  list_named : (account : Account) (sets : Sets) (by name : List ℕ) (list : AclPart) → IsForSeeing account sets name list → IsSome (command_grant account sets (ShowAcl by name))
  list_named account sets by name list h = subst (λ (o : Option DataSet). IsSome (option_and_then (to_see_list account) o)) (sym h.1) (by_one h.2 (is_owner account h.0.owner) refl)
    where
      by_one : MaySeeList account h.0 → (b : Bool) → is_owner account h.0.owner ≡ b → IsSome (if b then Some AsOwner else by_entry account h.0 to_execute)
      by_one may true e = refl
      by_one (inl owns) false e = absurd (true≢false (sym (owner_is account h.0 owns) ∙ e))
      by_one (inr granted) false e = shown_named account h.0 to_execute granted

  owned_named : (account : Account) (sets : Sets) (name : List ℕ) → OwnsNamed account sets name → option_and_then (by_owner account) (find_set name sets) ≡ Some AsOwner
  owned_named account sets name h =
      ap (option_and_then (by_owner account)) h.1 ∙ ap (λ (b : Bool). if b then Some AsOwner else None) (owner_is account h.0 h.2)

  -- of an account that is unknown nothing is asked
  module _ (accounts : List Account) (sets : Sets) where
    unknown_told : (command : Command) (answer : commands.Answer) → IsRightCommand accounts None sets command answer → answer ≡ Told reply.NoAccount
    unknown_told command answer right = right.unknown (sym right.by)

    command_named : (known : Option Account) (command : Command) (answer : commands.Answer) → IsRightCommand accounts known sets command answer → NamesGrants known sets command answer
    command_named known (Create by name mode) answer right = tt
    command_named None (Delete by name) answer right = λ is. let no : Told reply.Done ≡ Told reply.NoAccount = sym is ∙ unknown_told (Delete by name) answer right in absurd (cc (no))
    command_named (Some account) (Delete by name) answer right =
        λ is. owned_named account sets name (((right.told account (sym right.by) reply.Done).0 is).1.0)
    command_named None (SetAcl by name text) answer right =
        λ is. let no : Told reply.Done ≡ Told reply.NoAccount = sym is ∙ unknown_told (SetAcl by name text) answer right in absurd (cc (no))
    command_named (Some account) (SetAcl by name text) answer right =
        λ is. owned_named account sets name (((right.told account (sym right.by) reply.Done).0 is).1.0)
    command_named None (ShowAcl by name) answer right =
        λ list is. let no : Shown list ≡ Told reply.NoAccount = sym is ∙ unknown_told (ShowAcl by name) answer right in absurd (cc (no))
    command_named (Some account) (ShowAcl by name) answer right =
        λ list is. list_named account sets by name list ((right.shown account (sym right.by) list).0 is)
    command_named None (Listing by name) answer right =
        λ records is. let no : Records records ≡ Told reply.NoAccount = sym is ∙ unknown_told (Listing by name) answer right in absurd (cc (no))
    command_named (Some account) (Listing by name) answer right =
        λ records is. records_named account sets by name records ((right.shown account (sym right.by) records).0 is)
    command_named known (Catalog by) answer right =
        λ account named is shown. shown_named account named.1 to_execute (((lends account sets []).names named).0 shown).1

  entry_named : (accounts : List Account) (entry : Entry) → IsRight accounts entry → IsNamed entry
  entry_named accounts (Asked e) right = request_named e right
  entry_named accounts (Entered deck) right = tt
  entry_named accounts (Refused deck refusal) right = tt
  entry_named accounts (Ended end) right = tt
  entry_named accounts (Ordered known sets command answer) right = command_named accounts sets known command answer right

  pub accesses_named : AccessesAreNamed
  accesses_named accounts [] right = tt
  accesses_named accounts (entry ∷ entries) right = (entry_named accounts entry right.0, accesses_named accounts entries right.1)
