-- Why and by what: words that are read back.
use Rattle.std.proofs.Common.{◌≡◌, ℕ, Bool, true, false, ◌&&◌, List, [], ◌∷◌, ◌++◌, get_or, refl, sym, ap, ◌∙◌, true≢false, append-nil, Option, Some, None}
use Rattle.std.specs.{Prelude.{codes, ◌==◌, if◌then◌else◌, IfSome, option_map}, Option.{unwrap_or}, List.{list_all}}
use Rattle.std.proofs.lemmas.{Bool.Decides.{Decides-eqb}, List.Folds.{list_all-append}}
use Rattle.mon_text.specs.{Characters.{is_letter, is_digit}, Names.{is_name_character, IsName}}
use Rattle.mon_acl.specs.{declared.entries.Tag.{Tag}, declared.entries.Tag.TheVariants.{UserObj, User, GroupObj, Group, Mask, Other}, Entries.{tag_word}}
use Rattle.interaction.specs.declared.answer.Reason.{Reason, TheVariants.{By, NoSet, NotOwner, NoUnit, InStream, SpoolUnit, Mode as WrongMode}}
use Rattle.mon_command.specs.{Printouts.{word}, Replies.{reason_text}}
use Rattle.audit.specs.{declared.grants.Grant.{Grant}, declared.grants.Grant.TheVariants.{AsOwner, ByEntry}, Grants.{granted_words}}
use Rattle.audit_laws.specs.{Sound.{IsEntryNamed}, Telling.{told_reason, told_grant}, Reading.{name_in, named_in, reason_in, reason_if, grant_in}}
use Rattle.audit_laws.proofs.Words.{both, is_dark, is_word, IsWord, Reads, no_words, name_word, first_of}

-- an entry's word
abbrev pub entry_word : Tag → Option (List ℕ) → List ℕ
entry_word tag name = tag_word tag ++ codes ":" ++ unwrap_or name [] ++ codes ":"

abbrev pub reason_list : Reason → List (List ℕ)
reason_list (By tag name) = codes "BY" ∷ entry_word tag name ∷ []
reason_list NoSet = codes "NO" ∷ codes "DATA" ∷ codes "SET" ∷ []
reason_list NotOwner = codes "NOT" ∷ codes "OWNER" ∷ []
reason_list NoUnit = codes "NO" ∷ codes "UNIT" ∷ []
reason_list InStream = codes "IN" ∷ codes "STREAM" ∷ []
reason_list SpoolUnit = codes "SPOOL" ∷ codes "UNIT" ∷ []
reason_list WrongMode = codes "MODE" ∷ []

colon_word : (name : List ℕ) → IsName name → is_word (name ++ 58 ∷ []) ≡ true
colon_word name h = list_all-append is_dark name (58 ∷ []) ∙ ap (λ (b : Bool). b && true) (name_word name h)

pub entry_is : (tag : Tag) (name : Option (List ℕ)) → IsEntryNamed (By tag name) → IsWord (entry_word tag name)
entry_is UserObj None h = refl
entry_is UserObj (Some name) h = absurd (true≢false (sym h))
entry_is User None h = refl
entry_is User (Some name) h = colon_word name h
entry_is GroupObj None h = refl
entry_is GroupObj (Some name) h = absurd (true≢false (sym h))
entry_is Group None h = refl
entry_is Group (Some name) h = colon_word name h
entry_is Mask None h = refl
entry_is Mask (Some name) h = absurd (true≢false (sym h))
entry_is Other None h = refl
entry_is Other (Some name) h = absurd (true≢false (sym h))

pub reason_reads : (reason : Reason) → IsEntryNamed reason → Reads (word (reason_text reason)) (reason_list reason)
reason_reads (By tag name) h = (
  ap (λ (l : List ℕ). 32 ∷ 66 ∷ 89 ∷ 32 ∷ l) (sym (append-nil (entry_word tag name))),
  ap (λ (b : Bool). b && true) (entry_is tag name h),
)
reason_reads NoSet h = (refl, refl)
reason_reads NotOwner h = (refl, refl)
reason_reads NoUnit h = (refl, refl)
reason_reads InStream h = (refl, refl)
reason_reads SpoolUnit h = (refl, refl)
reason_reads WrongMode h = (refl, refl)

-- READ BACK

characters_back : (name : List ℕ) → list_all is_name_character name ≡ true → name_in (name ++ 58 ∷ []) ≡ name
characters_back [] h = refl
characters_back (c ∷ cs) h =
    let parts = both (is_name_character c) (list_all is_name_character cs) h in
    ap (λ (b : Bool). if b then c ∷ name_in (cs ++ 58 ∷ []) else []) parts.0 ∙ ap (λ (l : List ℕ). c ∷ l) (characters_back cs parts.1)

all_characters : (name : List ℕ) → IsName name → list_all is_name_character name ≡ true
all_characters [] h = absurd (true≢false (sym h))
all_characters (c ∷ cs) h =
    let parts = both (is_letter c) (list_all is_name_character cs) (both (is_letter c && list_all is_name_character cs) _ h).0 in
    ap (λ (b : Bool). b && list_all is_name_character cs) (first_of (is_letter c) (is_digit c) (c == 46) (c == 95) (c == 45) parts.0) ∙ parts.1

-- a name begins with a letter, and so with none of these
pub begins_other : (n : ℕ) → is_letter n ≡ false → (name : List ℕ) → IsName name → (get_or name 0 0 == n) ≡ false
begins_other n wrong [] h = absurd (true≢false (sym h))
begins_other n wrong (c ∷ cs) h = by (c == n) refl
  where
    by : (b : Bool) → (c == n) ≡ b → b ≡ false
    by false e = refl
    by true e =
        let letter = (both (is_letter c) (list_all is_name_character cs) (both (is_letter c && list_all is_name_character cs) _ h).0).0 in
        absurd (true≢false (sym letter ∙ ap is_letter ((Decides-eqb c n).0 e) ∙ wrong))

front : (name : List ℕ) → IsName name → get_or (name ++ 58 ∷ []) 0 0 ≡ get_or name 0 0
front [] h = absurd (true≢false (sym h))
front (c ∷ cs) h = refl

named_back : (plain qualified : Tag) (name : List ℕ) → IsName name → named_in plain qualified (name ++ 58 ∷ []) ≡ By qualified (Some name)
named_back plain qualified name h =
    ap (λ (b : Bool). if b then By plain None else By qualified (Some (name_in (name ++ 58 ∷ [])))) (ap (λ (c : ℕ). c == 58) (front name h) ∙ begins_other 58 refl name h)
    ∙ ap (λ (w : List ℕ). By qualified (Some w)) (characters_back name (all_characters name h))

pub reason_back : (reason : Reason) → IsEntryNamed reason → (more : List (List ℕ)) → reason_in (reason_list reason ++ more) ≡ told_reason reason
reason_back (By UserObj None) h more = refl
reason_back (By UserObj (Some name)) h more = absurd (true≢false (sym h))
reason_back (By User None) h more = refl
reason_back (By User (Some name)) h more = named_back UserObj User name h
reason_back (By GroupObj None) h more = refl
reason_back (By GroupObj (Some name)) h more = absurd (true≢false (sym h))
reason_back (By Group None) h more = refl
reason_back (By Group (Some name)) h more = named_back GroupObj Group name h
reason_back (By Mask None) h more = refl
reason_back (By Mask (Some name)) h more = absurd (true≢false (sym h))
reason_back (By Other None) h more = refl
reason_back (By Other (Some name)) h more = absurd (true≢false (sym h))
reason_back NoSet h more = refl
reason_back NotOwner h more = refl
reason_back NoUnit h more = refl
reason_back InStream h more = refl
reason_back SpoolUnit h more = refl
reason_back WrongMode h more = refl

alone : (reason : Reason) → IsEntryNamed reason → reason_in (reason_list reason) ≡ told_reason reason
alone reason h = ap reason_in (sym (append-nil (reason_list reason))) ∙ reason_back reason h []

pub if_back : (reason : Reason) → IsEntryNamed reason → reason_if (reason_list reason) ≡ Some (told_reason reason)
if_back (By tag name) h = ap (λ (r : Reason). Some r) (alone (By tag name) h)
if_back NoSet h = refl
if_back NotOwner h = refl
if_back NoUnit h = refl
if_back InStream h = refl
if_back SpoolUnit h = refl
if_back WrongMode h = refl

-- GRANTS

abbrev pub IsGrantNamed : Grant → Type 0
IsGrantNamed AsOwner = Unit {0}
IsGrantNamed (ByEntry reason) = IsEntryNamed reason

abbrev pub grant_list : Option Grant → List (List ℕ)
grant_list None = []
grant_list (Some AsOwner) = codes "BY" ∷ codes "owner" ∷ []
grant_list (Some (ByEntry reason)) = reason_list reason

pub grant_reads : (grant : Option Grant) → IfSome grant IsGrantNamed → Reads (granted_words grant) (grant_list grant)
grant_reads None h = no_words
grant_reads (Some AsOwner) h = (refl, refl)
grant_reads (Some (ByEntry reason)) h = reason_reads reason h

by_entry_back : (reason : Reason) → IsEntryNamed reason → grant_in (reason_list reason) ≡ Some (ByEntry (told_reason reason))
by_entry_back (By UserObj name) h = ap (λ (r : Reason). Some (ByEntry r)) (alone (By UserObj name) h)
by_entry_back (By User name) h = ap (λ (r : Reason). Some (ByEntry r)) (alone (By User name) h)
by_entry_back (By GroupObj name) h = ap (λ (r : Reason). Some (ByEntry r)) (alone (By GroupObj name) h)
by_entry_back (By Group name) h = ap (λ (r : Reason). Some (ByEntry r)) (alone (By Group name) h)
by_entry_back (By Mask name) h = ap (λ (r : Reason). Some (ByEntry r)) (alone (By Mask name) h)
by_entry_back (By Other name) h = ap (λ (r : Reason). Some (ByEntry r)) (alone (By Other name) h)
by_entry_back NoSet h = refl
by_entry_back NotOwner h = refl
by_entry_back NoUnit h = refl
by_entry_back InStream h = refl
by_entry_back SpoolUnit h = refl
by_entry_back WrongMode h = refl

pub grant_back : (grant : Option Grant) → IfSome grant IsGrantNamed → grant_in (grant_list grant) ≡ option_map told_grant grant
grant_back None h = refl
grant_back (Some AsOwner) h = refl
grant_back (Some (ByEntry reason)) h = by_entry_back reason h
