-- A text in either of the two forms of acl(5), "ACL TEXT FORMS".
use Rattle.std.specs.Prelude.{List, Result}
use Rattle.mon_acl.specs.declared.entries.Entry.{Entry}
use Rattle.mon_acl.specs.declared.refusals.AclError.{AclError}
use Rattle.acl_text.specs.declared.text.AclText.{AclText}
use Rattle.acl_text.specs.declared.text.AclText.TheVariants.{Short, Long}
use Rattle.acl_text.specs.Texts.{pieces, long_pieces}
use Rattle.acl_text.specs.Reading.{read_short, read_long, MayGrow}

-- the list that a text spells, or its first refusal
abbrev pub list_of_text : AclText → Result (List Entry) AclError
list_of_text list = elim list [ Short text ↦ read_short text | Long text ↦ read_long text ]

-- reading a text may take memory: it has five entries or more, and none of the first five is refused
abbrev pub MayTakeMemory : AclText → Type 0
MayTakeMemory (Short text) = MayGrow (pieces text)
MayTakeMemory (Long text) = MayGrow (long_pieces text)
