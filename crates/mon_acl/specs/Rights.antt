-- What permissions are seen as: whether reading, writing and executing are among them (acl(5) "ACL ENTRIES").
use Rattle.std.specs.Prelude.{Bool}

pub record Rights : Type 0 where
  pub read : Bool
  pub write : Bool
  pub execute : Bool
