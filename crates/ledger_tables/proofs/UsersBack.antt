-- Users that are printed are read as themselves.
use Rattle.std.proofs.Common.{◌≡◌, ℕ, ◌+◌, ◌-◌, ◌<◌, ◌^◌, Bool, true, ◌&&◌, nat_lt, List, [], ◌∷◌, map, length, Option, Some, None, option_map, Result, Ok, Err, is_ok, if◌then◌else◌, refl, sym, ap, ◌∙◌, true≢false, arith}
use Rattle.std.specs.{Prelude.{decimal, option_and_then}, Option.{option_map_or}, List.{list_all, AllByRecursion}}
use Rattle.std.proofs.lemmas.Bool.Decides.{nat_tests}
use borrow.Author.Tests.{ne_eqb}
use Rattle.mon_access.specs.declared.account.Account.{Account}
use Rattle.mon_text.specs.{Characters.{is_printable}, Counts.{value_of}, Lines.{words}}
use Rattle.mon_text.proofs.{Counted.{is_count_of, count_of_decimal}, WrittenLines.{lines_written}}
use Rattle.site_plan.specs.declared.users.{User.{User}, UsersFault.{UsersFault}, UsersFault.TheVariants.{BadLine, NoUser}}
use Rattle.site_plan.specs.{Walks.{and_then, at_line, walked}, Users.{name_on, uid_on, user_on, with_known, after_line, if_any, users_of}}
use Rattle.ledger_tables.specs.Users.{user_line, users_text, taken_behind, IsUser, ReadsUsers}
use Rattle.ledger_tables.proofs.Printed.{two_words, digits_have_no_blank, digits_are_some, digits_are_not_skipped, digits_show, name_has_no_blank, name_is_some, name_shows, both_show}

module _ (user : User) (is : IsUser user) where
  fits : user.uid < 2 ^ 63
  fits = omega (arith, is.0)

  line_shows : list_all is_printable (user_line user) ≡ true
  line_shows = both_show (decimal user.uid) user.account (digits_show user.uid fits) (name_shows user.account is.1)

  uid_back : uid_on (decimal user.uid) ≡ Some user.uid
  uid_back =
      ap (λ (b : Bool). if (b && nat_lt (value_of (decimal user.uid)) (2 ^ 32 - 1)) then Some (value_of (decimal user.uid)) else None) (is_count_of user.uid fits)
      ∙ ap (λ (v : ℕ). if nat_lt v (2 ^ 32 - 1) then Some v else None) ((count_of_decimal user.uid fits).1)
      ∙ ap (λ (b : Bool). if b then Some user.uid else None) small
    where
      small : nat_lt user.uid (2 ^ 32 - 1) ≡ true
      small = let below : user.uid < 2 ^ 32 - 1 = is.0 in grind (arith, nat_tests, below)

  user_back : user_on (decimal user.uid ∷ user.account ∷ []) ≡ Some user
  user_back =
      ap (option_and_then (λ (uid : ℕ). option_map (λ (account : List ℕ). record { uid = uid; account = account }) (name_on user.account))) uid_back
      ∙ ap (λ (b : Bool). option_map (λ (account : List ℕ). record { uid = user.uid; account = account }) (if b then Some user.account else None)) is.1

  takes : (several : Bool) (accounts : List Account) (known : List User) → after_line several accounts known (user_line user) ≡ with_known several accounts known user
  takes several accounts known =
      ap (λ (b : Bool). if b then Ok known else option_map_or (with_known several accounts known) (user_on (words (user_line user))) (Err BadLine))
      (digits_are_not_skipped user.uid fits (32 ∷ user.account))
      ∙ ap (λ (ws : List (List ℕ)). option_map_or (with_known several accounts known) (user_on ws) (Err BadLine))
      (two_words (decimal user.uid) user.account (digits_have_no_blank user.uid fits) (name_has_no_blank user.account is.1)
      (digits_are_some user.uid fits) (name_is_some user.account is.1))
      ∙ ap (λ (o : Option User). option_map_or (with_known several accounts known) o (Err BadLine)) user_back

module _ (several : Bool) (accounts : List Account) where
  walk : (n : ℕ) (known users all : List User) → AllByRecursion IsUser users → taken_behind several accounts known users ≡ Ok all
      → walked (after_line several accounts) n known (map user_line users) ≡ Ok all
  walk n known [] all are taken = ap (at_line n) taken
  walk n known (user ∷ users) all (is, are) taken =
      ap (λ (r : Result (List User) UsersFault). and_then (at_line n r) (λ more. walked (after_line several accounts) (n + 1) more (map user_line users)))
      (takes user is several accounts known)
      ∙ by (with_known several accounts known user) taken (λ more. walk (n + 1) more users all are)
    where
      by : (r : Result (List User) UsersFault) → and_then r (λ more. taken_behind several accounts more users) ≡ Ok all
          → ((more : List User) → taken_behind several accounts more users ≡ Ok all → walked (after_line several accounts) (n + 1) more (map user_line users) ≡ Ok all)
          → and_then (at_line n r) (λ more. walked (after_line several accounts) (n + 1) more (map user_line users)) ≡ Ok all
      by (Ok more) good rest = rest more good
      by (Err why) bad rest = absurd (true≢false (sym (ap is_ok bad)))

  all_show : (users : List User) → AllByRecursion IsUser users → AllByRecursion (λ (line : List ℕ). list_all is_printable line ≡ true) (map user_line users)
  all_show [] are = tt
  all_show (user ∷ users) (is, are) = (line_shows user is, all_show users are)

  -- what lines say
  abbrev read : List (List ℕ) → Result (List User) (ℕ × UsersFault)
  read ls = and_then (walked (after_line several accounts) 1 [] ls) (if_any (length ls))

  read_back : (user : User) (users : List User) → AllByRecursion IsUser (user ∷ users) → taken_behind several accounts [] (user ∷ users) ≡ Ok (user ∷ users)
      → users_of several accounts (users_text (user ∷ users)) ≡ Ok (user ∷ users)
  read_back user users are taken =
      ap read (lines_written is_printable refl refl (map user_line (user ∷ users)) (all_show (user ∷ users) are))
      ∙ ap (λ (r : Result (List User) (ℕ × UsersFault)). and_then r (if_any (length (map user_line (user ∷ users))))) (walk 1 [] (user ∷ users) (user ∷ users) are taken)
      ∙ ap (λ (b : Bool). if b then Err (length (map user_line (user ∷ users)) + 1, NoUser) else Ok (user ∷ users)) (ne_eqb (length (user ∷ users)) 0 (omega arith))

pub reads_users : ReadsUsers
reads_users several accounts [] are = absurd are
reads_users several accounts (user ∷ users) (are, taken) = read_back several accounts user users are taken
