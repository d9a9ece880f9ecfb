-- Why something is denied: the entry that decided, as its type and its qualifier (own).
use Rattle.std.specs.Prelude.{List, Option, None, Some, slice_get}
use Rattle.mon_acl.specs.declared.entries.Tag.{Tag}
use Rattle.mon_acl.specs.declared.entries.Tag.TheVariants as tag
use Rattle.mon_acl.specs.declared.entries.Entry.{Entry}
use Rattle.mon_access.specs.declared.access.Decider.{Decider}
use Rattle.mon_access.specs.declared.access.Decider.TheVariants as decider
use Rattle.interaction.specs.declared.answer.Reason.{Reason}
use Rattle.interaction.specs.declared.answer.Reason.TheVariants.{By}
use Rattle.std.specs.Option.{option_map_or}

-- what is named of an entry; where there is none, the type alone
abbrev pub reason_at : Tag → Option Entry → Reason
reason_at t entry = option_map_or (λ e. By e.tag e.name) entry (By t None)

-- what a denial by the access check names of a list's entries
abbrev pub reason_of : List Entry → Decider → Reason
reason_of entries decider.UserObj = By tag.UserObj None
reason_of entries (decider.User index) = reason_at tag.User (slice_get entries index)
reason_of entries (decider.Group index) = reason_at tag.GroupObj (slice_get entries index)
reason_of entries decider.Mask = By tag.Mask None
reason_of entries decider.Other = By tag.Other None
