-- Parts of the definitions by names of their own.
use Rattle.std.specs.{Prelude.{ℕ, List, [], ◌∷◌, ◌++◌, Option, None, Some, Result, Ok, Err, if◌then◌else◌}, Option.{option_map_or}}
use Rattle.mon_access.specs.{declared.account.Account.{Account}, Matches.{is_owner}}
use Rattle.mon_catalogue.specs.{declared.mode.Mode.{Mode}, declared.data_set.DataSet.{DataSet}, declared.catalogue.CreateError.{CreateError}, Sets.{Sets}}
use Rattle.mon_catalogue.specs.{Changes.{without_set}, declared.data_set.SetFull.{SetFull}, Writing.{Change}}
use Rattle.interaction.specs.declared.answer.{Reason.{Reason}, Reason.TheVariants.{NoSet, NotOwner}, Answer.TheVariants.{Done, Full}}
use Rattle.mon_guard.specs.{Deciding.{to_read, to_execute, where_granted}, Views.{AclPart, acl_part}, Acting.{Acted, only_answered}, Owning.{new_set}}
use Rattle.mon_guard.specs.inner.Parts.{position_after}

abbrev pub owner_denial_of : Account → Option DataSet → Option Reason
owner_denial_of account set = option_map_or (λ d. if is_owner account d.owner then None else Some NotOwner) set (Some NoSet)

abbrev pub removed_unless : Option Reason → Sets → List ℕ → Result (Unit {0}) Reason × Sets
removed_unless denial sets name = option_map_or (λ reason. (Err reason, sets)) denial (Ok tt, without_set name sets)

abbrev pub created_unless : Option CreateError → Account → Sets → List ℕ → Mode → Result (Unit {0}) CreateError × Sets
created_unless refusal account sets name mode =
    option_map_or (λ error. (Err error, sets)) refusal (Ok tt, sets ++ (name, new_set account mode) ∷ [])

abbrev pub records_of : Account → Option DataSet → Result (List (List ℕ)) Reason
records_of account set = option_map_or (λ d. where_granted account to_read d d.records) set (Err NoSet)

abbrev pub acl_of : Account → Option DataSet → Result AclPart Reason
acl_of account set =
    option_map_or (λ d. if is_owner account d.owner then Ok (acl_part d) else where_granted account to_execute d (acl_part d)) set (Err NoSet)

abbrev pub made : Change → List (List ℕ) → Option SetFull → Acted
made change records full =
    option_map_or (λ _. only_answered Full) full (record { answer = Done; position = position_after change records; change = Some change })
