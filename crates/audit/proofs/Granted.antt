-- What stands last of a command, by whether it is done or shows something.
use Rattle.std.proofs.Common.{◌≡◌, [], Option, refl, if◌then◌else◌}
use Rattle.mon_command.specs.declared.{reply.Reply.TheVariants.{Done, NoAccount, Denied, NameTaken, CatalogueFull, BadList}, said.Said.{Said}}
use Rattle.mon_command.specs.declared.said.Said.TheVariants.{Told, Records, Entries, Names}
use Rattle.audit.specs.{declared.grants.Grant.{Grant}, Grants.{granted_words, is_granted, last_words}}

pub granted_last : (said : Said) (grant : Option Grant) → (if is_granted said then granted_words grant else []) ≡ last_words said grant
granted_last (Told Done) grant = refl
granted_last (Told NoAccount) grant = refl
granted_last (Told (Denied reason)) grant = refl
granted_last (Told NameTaken) grant = refl
granted_last (Told CatalogueFull) grant = refl
granted_last (Told (BadList error)) grant = refl
granted_last (Records n) grant = refl
granted_last (Entries n) grant = refl
granted_last (Names n) grant = refl
