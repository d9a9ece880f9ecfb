-- The entry that grants is in the list.
use Rattle.std.proofs.Common.{◌≡◌, ℕ, List, Option, None, Some, refl, sym, ap, ◌∙◌, subst, true≢false, inl, inr}
use Rattle.std.specs.{Prelude.{◌↔◌, IsSome, slice_get, option_map}, Option.{option_and_then}}
use Rattle.mon_acl.specs.{declared.entries.Perms.{Perms}, declared.entries.Entry.{Entry}, Permissions.{to_read, to_write}}
use Rattle.mon_access.specs.{declared.account.Account.{Account}, Granting.{granting}, GrantingLaws.{NamedWhereGranted, NamesAnEntry}}
use Rattle.mon_catalogue.specs.{declared.data_set.DataSet.{DataSet}, Sets.{find_set}, Writing.{Change}}
use Rattle.interaction.specs.declared.{answer.Reason.{Reason}, answer.Reason.TheVariants.{By}, request.Act.{Act}, request.Request.{Request}}
use Rattle.interaction.specs.declared.request.Act.TheVariants as act
use Rattle.mon_guard.specs.Laws.{IsGranted, IsThere}
use Rattle.mon_unit.specs.{declared.tie.Target.{Target}, declared.tie.Target.TheVariants.{Set}, Serving.{Reach, note_act, set_at}}
use Rattle.mon_unit.specs.Laws.{target_of, position_of, IsRead, AsksChange, GotWhereGranted, ChangedWhereGranted}
use Rattle.audit.specs.{Grants.{granting_entry}, Requests.{permission, grant, asked_of}, Laws.{EntriesAreNamed, GrantsAreNamed, ReadsAreNamed, ChangesAreNamed}}

-- what is made of an entry that is there
abbrev made : List Entry → Option ℕ → Option Reason
made entries index = option_map (λ e. By e.tag e.name) (option_and_then (slice_get entries) index)

made_there : (entries : List Entry) (index : Option ℕ) → ((i : ℕ) → index ≡ Some i → IsSome (slice_get entries i)) → IsSome index ↔ IsSome (made entries index)
made_there entries None there = ((λ h. absurd (true≢false (sym h))), (λ h. absurd (true≢false (sym h))))
made_there entries (Some i) there = ((λ h. by (slice_get entries i) (there i refl)), (λ h. refl))
  where
    by : (o : Option Entry) → IsSome o → IsSome (option_map (λ e. By e.tag e.name) o)
    by None h = h
    by (Some e) h = refl

-- an entry is named exactly where the access check grants the request
pub entries_are_named : NamedWhereGranted → NamesAnEntry → EntriesAreNamed
entries_are_named where_granted an_entry account set request =
    let named = where_granted account set.owner set.group set.acl request in
    let there = made_there set.acl (granting account set.owner set.group set.acl request) (an_entry account set.owner set.group set.acl request) in
    ((λ h. there.0 (named.0 h)), (λ h. named.1 (there.1 h)))

pub grants_are_named : EntriesAreNamed → GrantsAreNamed
grants_are_named law account act set request is =
    let whole : granting_entry account set request ≡ grant account act set = ap (λ (p : Option Perms). option_and_then (granting_entry account set) p) (sym is) in
    ((λ h. subst IsSome whole ((law account set request).0 h)), (λ h. (law account set request).1 (subst IsSome (sym whole) h)))

-- a grant on the data set that a request looks at is that of the line
module _ (law : GrantsAreNamed) (n : ℕ) (account : Account) (reach : Reach) (statement : ℕ) where
  abbrev asks : Act → Request
  asks a = record { statement = statement; act = a }

  abbrev Named : Act → List ℕ → DataSet → Perms → Type 0
  Named a name set request = target_of reach.units (asks a) ≡ Set name → IsThere name reach.sets set → IsGranted account set request
      → IsSome (asked_of n account reach (asks a)).grant

  named_there : (a : Act) (name : List ℕ) (set : DataSet) → (set_at a (Set name) ≡ Some name) → (request : Perms) → permission (note_act a) ≡ Some request
      → Named a name set request
  named_there a name set looks request is tied there granted =
      let whole : option_and_then (grant account (note_act a)) (option_and_then (λ k. find_set k reach.sets) (set_at a (target_of reach.units (asks a)))) ≡ grant account (note_act a) set =
      ap (λ (t : Target). option_and_then (grant account (note_act a)) (option_and_then (λ k. find_set k reach.sets) (set_at a t))) tied
      ∙ ap (λ (o : Option (List ℕ)). option_and_then (grant account (note_act a)) (option_and_then (λ k. find_set k reach.sets) o)) looks
      ∙ ap (option_and_then (grant account (note_act a))) there in
      subst IsSome (sym whole) ((law account (note_act a) set request is).0 granted)

  pub read_named : (a : Act) (name : List ℕ) (set : DataSet) → IsRead a → Named a name set to_read
  read_named (act.Read u) name set is = named_there (act.Read u) name set refl to_read refl
  read_named (act.Write u line) name set is = absurd is
  read_named (act.Endfile u) name set is = absurd is
  read_named (act.Rewind u) name set is = absurd is

  change_named : (a : Act) (name : List ℕ) (set : DataSet) (change : Change) → AsksChange a (position_of reach.units (asks a)) set change → Named a name set to_write
  change_named (act.Read u) name set change is = absurd is
  change_named (act.Write u line) name set change is = named_there (act.Write u line) name set refl to_write refl
  change_named (act.Endfile u) name set change is = named_there (act.Endfile u) name set refl to_write refl
  change_named (act.Rewind u) name set change is = absurd is

pub reads_are_named : GrantsAreNamed → GotWhereGranted → ReadsAreNamed
reads_are_named law got n account reach q line is = elim ((got account reach q line).0 is) [
  | inl deck ↦ inl deck.1
  | inr read ↦ inr (read_named law n account reach q.statement q.act read.0 read.1 read.2 read.3 read.4 read.5)
]

pub changes_are_named : GrantsAreNamed → ChangedWhereGranted → ChangesAreNamed
changes_are_named law changed n account reach q = elim (changed account reach q).else_none [
  | inl same ↦ inl same
  | inr c ↦ inr (change_named law n account reach q.statement q.act c.0 c.2.0 c.1 c.2.4 c.2.1 c.2.2 c.2.3)
]
