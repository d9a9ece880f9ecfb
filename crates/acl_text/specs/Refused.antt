-- Why a permission list is refused, as it is printed (own).
use Rattle.std.specs.Prelude.{ℕ, List, ◌++◌, codes}
use Rattle.mon_acl.specs.declared.refusals.AclError.{AclError}
use Rattle.mon_acl.specs.declared.refusals.AclError.TheVariants.{BadTag, BadQualifier, BadPerms, Missing, Twice, NoMask, TooMany}
use Rattle.mon_acl.specs.Entries.{tag_word}
use Rattle.mon_device.specs.Words.{number}

abbrev pub list_refusal : AclError → List ℕ
list_refusal (BadTag n) = codes "A1 BAD TAG ENTRY" ++ number n
list_refusal (BadQualifier n) = codes "A2 BAD QUALIFIER ENTRY" ++ number n
list_refusal (BadPerms n) = codes "A3 BAD PERMS ENTRY" ++ number n
list_refusal (Missing tag) = codes "A4 MISSING " ++ tag_word tag ++ codes "::"
list_refusal (Twice n) = codes "A5 TWICE ENTRY" ++ number n
list_refusal NoMask = codes "A6 NO MASK"
list_refusal (TooMany n) = codes "A7 TOO MANY ENTRY" ++ number n
