-- How the users of a site are printed (own): a number of the system and an account on each line.
use Rattle.std.specs.Prelude.{◌≡◌, ◌<◌, ◌^◌, ◌-◌, ℕ, Bool, List, [], ◌∷◌, ◌++◌, map, Result, Ok, decimal}
use Rattle.std.specs.List.{AllByRecursion}
use Rattle.mon_text.specs.Names.{IsName}
use Rattle.mon_access.specs.declared.account.Account.{Account}
use Rattle.site_plan.specs.declared.users.User.{User}
use Rattle.site_plan.specs.declared.users.UsersFault.{UsersFault}
use Rattle.site_plan.specs.Walks.{and_then}
use Rattle.site_plan.specs.Users.{with_known, users_of}
use Rattle.site_plan.specs.Tables.{ended_lines}

abbrev pub user_line : User → List ℕ
user_line user = decimal user.uid ++ 32 ∷ user.account

abbrev pub users_text : List User → List ℕ
users_text users = ended_lines (map user_line users)

-- one after the other is taken, behind these
abbrev pub taken_behind : Bool → List Account → List User → List User → Result (List User) UsersFault
taken_behind several accounts so_far [] = Ok so_far
taken_behind several accounts so_far (user ∷ users) = and_then (with_known several accounts so_far user) (λ more. taken_behind several accounts more users)

-- a number of 32 bits, but the largest, which is nobody's; and a name
abbrev pub IsUser : User → Type 0
IsUser user = (user.uid < 2 ^ 32 - 1) × IsName user.account

-- users that a table may have: one at the least; each an account of the table; none twice
abbrev pub AreUsers : Bool → List Account → List User → Type 0
AreUsers several accounts [] = ⊥
AreUsers several accounts (user ∷ users) =
    AllByRecursion IsUser (user ∷ users) × (taken_behind several accounts [] (user ∷ users) ≡ Ok (user ∷ users))

-- users that are printed are read as themselves
abbrev pub ReadsUsers : Type 0
ReadsUsers = (several : Bool) (accounts : List Account) (users : List User) → AreUsers several accounts users
    → users_of several accounts (users_text users) ≡ Ok users
