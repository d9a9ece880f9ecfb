-- The definitions on worked cases.
use Rattle.std.proofs.Common.{◌≡◌, Some, true, false, refl}
use Rattle.std.specs.Prelude.{codes, Ok}
use Rattle.mon_acl.specs.declared.entries.Tag.TheVariants.{UserObj, User, Other}
use Rattle.mon_acl.specs.declared.refusals.AclError.TheVariants.{BadTag, BadQualifier, BadPerms, Missing, Twice, NoMask}
use Rattle.acl_text.specs.{Refusals.{◌>>=◌, entry_of, acl_refusal, long_refusal}, Reading.{read_short, read_long}, Printing.{entry_head, long_form}}

any_order : read_short (codes "o::, g::r ,u::wr") ≡ read_short (codes "user::rw-,group::r--,other::---")
any_order = refl

lisa : entry_of 1 (codes " u : lisa : rw ") ≡ Ok (record { tag = User; name = Some (codes "lisa"); perms = record { read = true; write = true; execute = false } })
lisa = refl

lisas_head : entry_head (record { tag = User; name = Some (codes "lisa"); perms = record { read = true; write = true; execute = false } }) ≡ codes "user:lisa:"
lisas_head = refl

short_mask : entry_of 1 (codes "m:w") ≡ entry_of 1 (codes "mask::-w-")
short_mask = refl

trailing_comma : acl_refusal (codes "o::,g::r,u::wr,") ≡ Some (BadTag 4)
trailing_comma = refl

empty_text : acl_refusal (codes "") ≡ Some (BadTag 1)
empty_text = refl

two_fields : acl_refusal (codes "u:1bad,g::r,o::") ≡ Some (BadPerms 1)
two_fields = refl

mask_qualified : acl_refusal (codes "u::r,mask:rw:") ≡ Some (BadQualifier 2)
mask_qualified = refl

read_twice : acl_refusal (codes "u::rr") ≡ Some (BadPerms 1)
read_twice = refl

same_twice : acl_refusal (codes "u::r,u::r,g::r,o::r") ≡ Some (Twice 2)
same_twice = refl

missing_other : acl_refusal (codes "u::r,g::r,u:lisa:r") ≡ Some (Missing Other)
missing_other = refl

missing_mask : acl_refusal (codes "u::rw-,u:lisa:rw-,g::r--,o::---") ≡ Some NoMask
missing_mask = refl

-- a head comment, and a tab before an effective comment
long_lisa : read_long (codes "# file: x\nuser::rw-\nuser:lisa:rw-\t#effective:r--\ngroup::r--\nmask::r--\nother::---\n") ≡ read_short (codes "user::rw-,user:lisa:rw-,group::r--,mask::r--,other::---")
long_lisa = refl

-- a last line without LF counts, blank lines do not
last_line : read_long (codes "\n  u::r\n\t\n g::r \n#\no::") ≡ read_short (codes "u::r,g::r,o::")
last_line = refl

no_line : long_refusal (codes "") ≡ Some (Missing UserObj)
no_line = refl

comments_not_counted : long_refusal (codes "u::r\n\n# c\ng::zz\no::\n") ≡ Some (BadPerms 2)
comments_not_counted = refl

no_commas : long_refusal (codes "u::r,\ng::r\no::\n") ≡ Some (BadPerms 1)
no_commas = refl

-- the mask lacks w: told of the named user, not of the owner; of the owning group nothing is left
effective_comments : (read_short (codes "u::rwx,u:lisa:rw,g::w,m::r,o::rw") >>= λ es. Ok (long_form es)) ≡ Ok (codes "user::rwx\nuser:lisa:rw-\t#effective:r--\ngroup::-w-\t#effective:---\nmask::r--\nother::rw-\n")
effective_comments = refl
