-- What only the owner of a data set may do, and how a data set gets its owner (own).
use Rattle.std.specs.Prelude.{ℕ, true, false, List, [], ◌∷◌, ◌++◌, Option, None, Some, Result, Ok, Err, if◌then◌else◌}
use Rattle.mon_acl.specs.declared.entries.Perms.{Perms}
use Rattle.mon_acl.specs.declared.entries.Tag.{Tag}
use Rattle.mon_acl.specs.declared.entries.Tag.TheVariants.{UserObj, GroupObj, Other}
use Rattle.mon_acl.specs.declared.entries.Entry.{Entry}
use Rattle.acl_text.specs.declared.text.AclText.{AclText}
use Rattle.acl_text.specs.Forms.{list_of_text}
use Rattle.mon_access.specs.declared.account.Account.{Account}
use Rattle.mon_access.specs.Matches.{is_owner}
use Rattle.mon_catalogue.specs.declared.mode.Mode.{Mode}
use Rattle.mon_catalogue.specs.declared.data_set.DataSet.{DataSet}
use Rattle.mon_catalogue.specs.declared.catalogue.CreateError.{CreateError}
use Rattle.mon_catalogue.specs.Sets.{Sets, find_set, empty_set, create_refusal}
use Rattle.mon_catalogue.specs.Changes.{without_set, with_acl}
use Rattle.interaction.specs.declared.answer.Reason.{Reason}
use Rattle.interaction.specs.declared.answer.Reason.TheVariants.{NoSet, NotOwner}
use Rattle.mon_guard.specs.declared.answer.AclAnswer.{AclAnswer}
use Rattle.mon_guard.specs.declared.answer.AclAnswer.TheVariants as acl
use Rattle.std.specs.Option.{option_map_or}

-- why an account may not do what only the owner may: there is no such set, or it is another's
abbrev pub owner_denial : Account → Sets → List ℕ → Option Reason
owner_denial account sets name = option_map_or (λ set. if is_owner account set.owner then None else Some NotOwner) (find_set name sets) (Some NoSet)

-- the owner removes the set; another changes nothing
abbrev pub removed : Account → Sets → List ℕ → Result (Unit {0}) Reason × Sets
removed account sets name = option_map_or (λ reason. (Err reason, sets)) (owner_denial account sets name) (Ok tt, without_set name sets)

-- the owner gives the set another list, and the text is tried last: no such set, not the owner, then the text's refusal
abbrev pub acl_set : Account → Sets → List ℕ → AclText → AclAnswer × Sets
acl_set account sets name text =
    option_map_or (λ reason. (acl.Denied reason, sets)) (owner_denial account sets name)
    (elim (list_of_text text) [ Ok list ↦ (acl.Done, with_acl name list sets) | Err error ↦ (acl.BadList error, sets) ])

-- an entry without a qualifier
abbrev pub plain : Tag → Perms → Entry
plain tag perms = record { tag = tag; name = None; perms = perms }

-- the permission list of a new data set: all for the owner, nothing for others
abbrev pub new_list : List Entry
new_list =
    plain UserObj (record { read = true; write = true; execute = true })
    ∷ plain GroupObj (record { read = false; write = false; execute = false })
    ∷ plain Other (record { read = false; write = false; execute = false }) ∷ []

-- a new data set is its maker's, of the maker's primary group, of the mode that is asked for, and has no records
abbrev pub new_set : Account → Mode → DataSet
new_set account mode = empty_set account.name account.primary mode new_list

-- every account may create a set: it is put last, unless its name is taken or there are 1,000 sets
abbrev pub created : Account → Sets → List ℕ → Mode → Result (Unit {0}) CreateError × Sets
created account sets name mode =
    option_map_or (λ refusal. (Err refusal, sets)) (create_refusal name sets) (Ok tt, sets ++ (name, new_set account mode) ∷ [])
