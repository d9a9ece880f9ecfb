-- Other permissions in the entries of one type change nothing for an account that is judged by entries of other types.
use Rattle.std.proofs.Common.{◌≡◌, ℕ, ◌+◌, Bool, true, false, not, cond, ◌||◌, ◌&&◌, ◌⊎◌, inl, inr, List, [], ◌∷◌, refl, sym, subst, ◌∙◌, true≢false}
use Rattle.std.specs.{Prelude.{if◌then◌else◌}, List.{list_any, position_or_len}, Option.{option_map_or}}
use Rattle.mon_acl.specs.{declared.entries.Perms.{Perms}, declared.entries.Tag.{Tag}, declared.entries.Entry.{Entry}, Entries.{is_tag, has_tag}}
use Rattle.mon_acl.specs.{declared.entries.Tag.TheVariants.{UserObj, User, GroupObj, Group, Mask, Other}, Permissions.{holds}}
use Rattle.mon_access.specs.{declared.account.Account.{Account}, Matches.{is_owner, is_in_group, is_for_user, is_for_group, some_holds}, FourCases.{Applies}}
use Rattle.mon_access.specs.AccessCheck.{Case, Owner, NamedUser, InGroup, Others, case_of, decision_in, decision}
use Rattle.mon_access.specs.Laws.{HasEntry, with_perms, MaskSparesOwnerAndOthers}
use Rattle.mon_access.proofs.{Meanings.{refuted, is_tag-Decides, is_owner-Decides}, Cases.{applies_once}, Smaller.{both}}

-- an entry has one type
pub one_type : (t u v : Tag) → is_tag u v ≡ false → is_tag t u ≡ true → is_tag t v ≡ false
one_type t u v differ h = subst (λ (w : Tag). is_tag w v ≡ false) (sym ((is_tag-Decides t u).0 h)) differ

-- a kind of entry that is told by type and qualifier alone
IsBlind : (Entry → Bool) → Type 0
IsBlind kind = (e : Entry) (perms : Perms) → kind (record e { perms = perms }) ≡ kind e

module _ (t : Tag) (perms : Perms) where
  -- such kinds are found where they were
  any_with_perms : (kind : Entry → Bool) → IsBlind kind → (entries : List Entry) → list_any kind (with_perms t perms entries) ≡ list_any kind entries
  unfolding IsBlind
  any_with_perms kind blind [] = refl
  any_with_perms kind blind (e ∷ es) = by (has_tag t e) (any_with_perms kind blind es)
    where
      by : (b : Bool) → list_any kind (with_perms t perms es) ≡ list_any kind es
          → (kind (if b then record e { perms = perms } else e) || list_any kind (with_perms t perms es)) ≡ (kind e || list_any kind es)
      by true rest = rw (blind e perms, rest) refl
      by false rest = rw rest refl

  place_with_perms : (kind : Entry → Bool) → IsBlind kind → (entries : List Entry)
      → position_or_len kind (with_perms t perms entries) ≡ position_or_len kind entries
  unfolding IsBlind
  place_with_perms kind blind [] = refl
  place_with_perms kind blind (e ∷ es) = by (has_tag t e) (place_with_perms kind blind es)
    where
      by : (b : Bool) → position_or_len kind (with_perms t perms es) ≡ position_or_len kind es
          → cond (not (kind (if b then record e { perms = perms } else e))) (1 + position_or_len kind (with_perms t perms es)) 0
          ≡ cond (not (kind e)) (1 + position_or_len kind es) 0
      by true rest = rw (blind e perms, rest) refl
      by false rest = rw rest refl

  -- and where they are not of the type, they hold what they held
  holds_with_perms : (kind : Entry → Bool) → IsBlind kind → ((e : Entry) → kind e ≡ true → has_tag t e ≡ false) → (entries : List Entry) (request : Perms)
      → some_holds kind (with_perms t perms entries) request ≡ some_holds kind entries request
  unfolding IsBlind
  holds_with_perms kind blind other [] request = refl
  holds_with_perms kind blind other (e ∷ es) request = by (has_tag t e) (kind e) refl refl (holds_with_perms kind blind other es request)
    where
      by : (b k : Bool) → has_tag t e ≡ b → kind e ≡ k → some_holds kind (with_perms t perms es) request ≡ some_holds kind es request
          → (let f = if b then record e { perms = perms } else e in (kind f && holds f.perms request) || some_holds kind (with_perms t perms es) request)
          ≡ ((kind e && holds e.perms request) || some_holds kind es request)
      by true true eb ek rest = absurd (true≢false (sym eb ∙ other e ek))
      by true false eb ek rest = rw (blind e perms, ek, rest) refl
      by false k eb ek rest = rw rest refl

blind_tag : (u : Tag) → IsBlind (has_tag u)
unfolding IsBlind
blind_tag u = λ e perms. refl

blind_user : (account : Account) → IsBlind (is_for_user account)
unfolding IsBlind
blind_user account = λ e perms. refl

blind_group : (account : Account) (group : List ℕ) → IsBlind (is_for_group account group)
unfolding IsBlind
blind_group account group = λ e perms. refl

-- the case stays
pub case_with_perms : (t : Tag) (perms : Perms) (account : Account) (owner group : List ℕ) (entries : List Entry)
    → case_of account owner group (with_perms t perms entries) ≡ case_of account owner group entries
case_with_perms t perms account owner group entries =
    rw (any_with_perms t perms (is_for_user account) (blind_user account) entries, any_with_perms t perms (is_for_group account group) (blind_group account group) entries) refl

-- which types of entries are asked in a case
abbrev pub Spares : Case → Tag → Type 0
Spares Owner t = is_tag UserObj t ≡ false
Spares NamedUser t = (is_tag User t ≡ false) × (is_tag Mask t ≡ false)
Spares InGroup t = (is_tag GroupObj t ≡ false) × (is_tag Group t ≡ false) × (is_tag Mask t ≡ false)
Spares Others t = is_tag Other t ≡ false

user_is : (account : Account) (e : Entry) → is_for_user account e ≡ true → has_tag User e ≡ true
user_is account e h = (both _ _ h).0

group_is_not : (t : Tag) (account : Account) (group : List ℕ) → is_tag GroupObj t ≡ false → is_tag Group t ≡ false → (e : Entry)
    → is_for_group account group e ≡ true → has_tag t e ≡ false
group_is_not t account group obj named e h = by (has_tag GroupObj e) (has_tag Group e) refl refl h
  where
    by : (o n : Bool) → has_tag GroupObj e ≡ o → has_tag Group e ≡ n
        → ((o && is_in_group account group) || (n && option_map_or (is_in_group account) e.name false)) ≡ true → has_tag t e ≡ false
    by true n eo en h = one_type e.tag GroupObj t obj eo
    by false true eo en h = one_type e.tag Group t named en
    by false false eo en h = absurd (true≢false (sym h))

pub decision_with_perms : (case : Case) (t : Tag) → Spares case t → (perms : Perms) (account : Account) (group : List ℕ) (entries : List Entry) (request : Perms)
    → decision_in case account group (with_perms t perms entries) request ≡ decision_in case account group entries request
decision_with_perms Owner t spared perms account group entries request =
    rw (holds_with_perms t perms (has_tag UserObj) (blind_tag UserObj) (λ e. one_type e.tag UserObj t spared) entries request) refl
decision_with_perms NamedUser t spared perms account group entries request =
    let user = holds_with_perms t perms (is_for_user account) (blind_user account) (λ e h. one_type e.tag User t spared.0 (user_is account e h)) entries request in
    let mask = holds_with_perms t perms (has_tag Mask) (blind_tag Mask) (λ e. one_type e.tag Mask t spared.1) entries request in
    let place = place_with_perms t perms (is_for_user account) (blind_user account) entries in
    rw (user, mask, place) refl
decision_with_perms InGroup t spared perms account group entries request =
    let member = holds_with_perms t perms (is_for_group account group) (blind_group account group) (group_is_not t account group spared.0 spared.1) entries request in
    let mask = holds_with_perms t perms (has_tag Mask) (blind_tag Mask) (λ e. one_type e.tag Mask t spared.2) entries request in
    let has = any_with_perms t perms (has_tag Mask) (blind_tag Mask) entries in
    let bare = holds_with_perms t perms (has_tag GroupObj) (blind_tag GroupObj) (λ e. one_type e.tag GroupObj t spared.0) entries request in
    let place = place_with_perms t perms (is_for_group account group) (blind_group account group) entries in
    rw (member, mask, has, bare, place) refl
decision_with_perms Others t spared perms account group entries request =
    rw (holds_with_perms t perms (has_tag Other) (blind_tag Other) (λ e. one_type e.tag Other t spared) entries request) refl

-- so a case that is known to spare a type is blind to its permissions
pub spared : (case : Case) (t : Tag) (account : Account) (owner group : List ℕ) (entries : List Entry) (request perms : Perms)
    → case_of account owner group entries ≡ case → Spares case t
    → decision account owner group (with_perms t perms entries) request ≡ decision account owner group entries request
unfolding decision
spared case t account owner group entries request perms is spares =
    rw (case_with_perms t perms account owner group entries, is) (decision_with_perms case t spares perms account group entries request)

pub mask_spares : MaskSparesOwnerAndOthers
mask_spares = λ account owner group entries request perms who. by account owner group entries request perms who (is_owner account owner) refl
  where
    by : (account : Account) (owner group : List ℕ) (entries : List Entry) (request perms : Perms) → (account.name ≡ owner) ⊎ (¬ HasEntry account group entries)
        → (o : Bool) → is_owner account owner ≡ o
        → decision account owner group (with_perms Mask perms entries) request ≡ decision account owner group entries request
    by account owner group entries request perms who true eo =
        spared Owner Mask account owner group entries request perms (sym (applies_once account owner group entries Owner ((is_owner-Decides account owner).0 eo))) refl
    by account owner group entries request perms (inl own) false eo = absurd (refuted _ (is_owner-Decides account owner) eo own)
    by account owner group entries request perms (inr none) false eo =
        let others : Applies Others account owner group entries = (refuted _ (is_owner-Decides account owner) eo, (λ u. none (inl u)), (λ g. none (inr g))) in
        spared Others Mask account owner group entries request perms (sym (applies_once account owner group entries Others others)) refl
