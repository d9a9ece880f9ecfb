-- Permissions: reading, writing and executing (acl(5) "ACL ENTRIES").
use Rattle.std.specs.Prelude.{Bool, true, false, ◌&&◌, ◌||◌, not}
use Rattle.mon_acl.specs.declared.entries.Perms.{Perms}

-- each permission of the request is held
abbrev pub holds : Perms → Perms → Bool
holds held request =
    (not request.read || held.read) && (not request.write || held.write) && (not request.execute || held.execute)

-- the permissions that both hold
abbrev pub common : Perms → Perms → Perms
common p q = record { read = p.read && q.read; write = p.write && q.write; execute = p.execute && q.execute }

-- the requests of exactly one permission
abbrev pub to_read : Perms
to_read = record { read = true; write = false; execute = false }

abbrev pub to_write : Perms
to_write = record { read = false; write = true; execute = false }

abbrev pub to_execute : Perms
to_execute = record { read = false; write = false; execute = true }

-- exactly one of three holds
abbrev pub one_of : Bool → Bool → Bool → Bool
one_of true false false = true
one_of false true false = true
one_of false false true = true
one_of true true x = false
one_of true false true = false
one_of false true true = false
one_of false false false = false

-- a request is of exactly one permission
abbrev pub is_one : Perms → Bool
is_one request = one_of request.read request.write request.execute
