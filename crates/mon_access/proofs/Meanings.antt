-- The tests on entries say what the relations say.
use Rattle.std.proofs.Common.{◌≡◌, ℕ, Bool, true, false, cond, List, Option, None, Some, refl, sym, ap, subst, ◌∙◌, true≢false}
use Rattle.std.specs.{Prelude.{Any, ◌==◌, bytes_eq, Decides}, List.{list_any}, Option.{option_map_or}, Cmp.Lexicographic.{nat_list_eq_equiv}}
use Rattle.std.proofs.lemmas.{Bool.Decides.{Decides-and, Decides-or, Decides-eqb}, List.Folds.{Any-from_list_any, list_any-from_Any}}
use Rattle.std.proofs.lemmas.{Map.Views.{list_any-from_Contains}, Slice.Eq.{bytes_eq-Decides}}
use Rattle.indexmap.proofs.CallerLemmas.{Contains-list_any}
use Rattle.mon_acl.specs.{declared.entries.Perms.{Perms}, declared.entries.Tag.{Tag}, declared.entries.Entry.{Entry}, Entries.{rank, is_tag, has_tag}}
use Rattle.mon_acl.specs.{declared.entries.Tag.TheVariants.{UserObj, User, GroupObj, Group, Mask, Other}, Permissions.{holds}}
use Rattle.mon_access.specs.{declared.account.Account.{Account}, Matches.{is_owner, is_in_group, is_for_user, is_for_group, some_holds}}
use Rattle.mon_access.specs.FourCases.{IsInGroup, IsOf, IsForUser, IsForGroup, SomeHolds}

-- a test that fails refutes, and what is refuted fails
pub refuted : {P : Type 0} (r : Bool) → Decides r P → r ≡ false → ¬ P
refuted r d e p = true≢false (sym (d.1 p) ∙ e)

pub fails : {P : Type 0} (r : Bool) → Decides r P → (¬ P) → r ≡ false
fails true d n = absurd (n (d.0 refl))
fails false d n = refl

-- some element passes the test exactly where some element is of the kind
pub any_Decides : {X : Type 0} (p : X → Bool) (P : X → Type 0) → ((x : X) → Decides (p x) (P x)) → (xs : List X) → Decides (list_any p xs) (Any P xs)
any_Decides p P each xs = (
  (λ h. let (k, x, within, at, passes) = Any-from_list_any p xs h in (k, x, within, at, (each x).0 passes)),
  (λ (k, x, within, at, is). list_any-from_Any p xs (k, x, within, at, (each x).1 is)),
)

-- each type has its own rank
tag_of : ℕ → Tag
tag_of n =
    cond (n == 0) UserObj (cond (n == 1) User (cond (n == 2) GroupObj (cond (n == 3) Group (cond (n == 4) Mask Other))))

tag_of-rank : (t : Tag) → tag_of (rank t) ≡ t
unfolding tag_of
tag_of-rank UserObj = refl
tag_of-rank User = refl
tag_of-rank GroupObj = refl
tag_of-rank Group = refl
tag_of-rank Mask = refl
tag_of-rank Other = refl

pub is_tag-Decides : (t u : Tag) → Decides (is_tag t u) (t ≡ u)
is_tag-Decides t u = (
  (λ h. sym (tag_of-rank t) ∙ ap tag_of ((Decides-eqb (rank t) (rank u)).0 h) ∙ tag_of-rank u),
  (λ e. (Decides-eqb (rank t) (rank u)).1 (ap rank e)),
)

pub has_tag-Decides : (t : Tag) (e : Entry) → Decides (has_tag t e) (IsOf t e)
has_tag-Decides t e = is_tag-Decides e.tag t

pub is_owner-Decides : (account : Account) (owner : List ℕ) → Decides (is_owner account owner) (account.name ≡ owner)
is_owner-Decides account owner = bytes_eq-Decides account.name owner

pub is_in_group-Decides : (account : Account) (group : List ℕ) → Decides (is_in_group account group) (IsInGroup account group)
is_in_group-Decides account group =
    Decides-or _ _ (bytes_eq-Decides account.primary group) (
      Contains-list_any bytes_eq (λ x y. (bytes_eq-Decides x y).0) account.groups group,
      list_any-from_Contains nat_list_eq_equiv group account.groups,
    )

-- a qualifier that passes a test
pub option-Decides : (p : List ℕ → Bool) (P : List ℕ → Type 0) → ((name : List ℕ) → Decides (p name) (P name)) → (o : Option (List ℕ))
    → Decides (option_map_or p o false) ((name : List ℕ) × (o ≡ Some name) × P name)
option-Decides p P each None = ((λ h. absurd (true≢false (sym h))), (λ (name, e, is). let none : None ≡ Some name = e in cc))
option-Decides p P each (Some n) = (
  (λ h. (n, refl, (each n).0 h)),
  (λ (name, e, is). let same : n ≡ name = cc in (each n).1 (subst P (sym same) is)),
)

pub is_for_user-Decides : (account : Account) (e : Entry) → Decides (is_for_user account e) (IsForUser account e)
is_for_user-Decides account e =
    Decides-and _ _ (has_tag-Decides User e) (by e.name)
  where
    by : (o : Option (List ℕ)) → Decides (option_map_or (bytes_eq account.name) o false) (o ≡ Some account.name)
    by o =
        let d = option-Decides (bytes_eq account.name) (λ name. account.name ≡ name) (bytes_eq-Decides account.name) o in
        ((λ h. let (name, e, is) = d.0 h in e ∙ ap Some (sym is)), (λ e. d.1 (account.name, e, refl)))

pub is_for_group-Decides : (account : Account) (group : List ℕ) (e : Entry) → Decides (is_for_group account group e) (IsForGroup account group e)
is_for_group-Decides account group e =
    Decides-or _ _
    (Decides-and _ _ (has_tag-Decides GroupObj e) (is_in_group-Decides account group))
    (Decides-and _ _ (has_tag-Decides Group e) (option-Decides (is_in_group account) (IsInGroup account) (is_in_group-Decides account) e.name))

pub some_holds-Decides : (kind : Entry → Bool) (Kind : Entry → Type 0) → ((e : Entry) → Decides (kind e) (Kind e)) → (entries : List Entry) (request : Perms)
    → Decides (some_holds kind entries request) (SomeHolds Kind entries request)
some_holds-Decides kind Kind each entries request =
    any_Decides _ _ (λ (e : Entry). Decides-and (kind e) (holds e.perms request) (each e) ((λ h. h), (λ h. h))) entries
