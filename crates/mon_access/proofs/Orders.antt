-- Two lists of the same entries grant alike.
use Rattle.std.proofs.Common.{ℕ, List}
use Rattle.std.specs.Prelude.{Any, Contains}
use Rattle.mon_acl.specs.declared.entries.{Perms.{Perms}, Entry.{Entry}}
use Rattle.mon_access.specs.{declared.account.Account.{Account}, AccessCheck.{Case, Owner, NamedUser, InGroup, Others, case_of}}
use Rattle.mon_access.{specs.FourCases.{Applies, Grants}, specs.Laws.{HaveSameEntries, OrderGrantsNothing}, proofs.Cases.{case_applies, grants_by_case}}

any_same : (P : Entry → Type 0) (entries others : List Entry) → ((e : Entry) → Contains entries e → Contains others e) → Any P entries → Any P others
any_same P entries others into (k, x, within, at, is) = let (j, within', at') = into x (k, within, at) in (j, x, within', at', is)

module _ (account : Account) (owner group : List ℕ) (entries others : List Entry) (same : HaveSameEntries entries others) where
  on : (P : Entry → Type 0) → Any P entries → Any P others
  on P = any_same P entries others (λ e. (same e).0)

  back : (P : Entry → Type 0) → Any P others → Any P entries
  back P = any_same P others entries (λ e. (same e).1)

  applies_same : (case : Case) → Applies case account owner group entries → Applies case account owner group others
  applies_same Owner own = own
  applies_same NamedUser (not_own, user) = (not_own, on _ user)
  applies_same InGroup (not_own, no_user, member) = (not_own, (λ user. no_user (back _ user)), on _ member)
  applies_same Others (not_own, no_user, no_group) = (not_own, (λ user. no_user (back _ user)), (λ member. no_group (back _ member)))

  grants_same : (case : Case) (request : Perms) → Grants case account group entries request → Grants case account group others request
  grants_same Owner request g = on _ g
  grants_same NamedUser request g = (on _ g.0, on _ g.1)
  grants_same InGroup request g = (
    (λ mask. let held = g.0 (back _ mask) in (on _ held.0, on _ held.1)),
    (λ bare. on _ (g.1 (λ mask. bare (on _ mask)))),
  )
  grants_same Others request g = on _ g

pub order_grants_nothing : OrderGrantsNothing
order_grants_nothing = λ account owner group entries others request same granted.
    let case = case_of account owner group entries in
    let applies = case_applies account owner group entries in
    (grants_by_case account owner group others request case (applies_same account owner group entries others same case applies)).1
    (grants_same account owner group entries others same case request ((grants_by_case account owner group entries request case applies).0 granted))
