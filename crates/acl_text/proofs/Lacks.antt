-- A list, or what it lacks.
use Rattle.std.specs.{Prelude.{List, Option, Result, Ok, Err}, Option.{option_map_or}}
use Rattle.mon_acl.specs.declared.{entries.Entry.{Entry}, refusals.AclError.{AclError}}

abbrev pub whole : Option AclError → List Entry → Result (List Entry) AclError
whole refusal es = option_map_or Err refusal (Ok es)
