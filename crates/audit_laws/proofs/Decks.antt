-- What the cards of a deck name: its accounts, its data sets, and what its stream asks for.
use Rattle.std.proofs.Common.{◌≡◌, ℕ, suc, Bool, true, false, ◌&&◌, List, [], ◌∷◌, ◌++◌, take, ◌-◌, Option, Some, None, refl, subst, inl, inr, cond}
use Rattle.std.specs.{Prelude.{◌==◌, ◌⊎◌, IfSome, IsTrue, bytes_eq, nat_eq, codes, if◌then◌else◌}, Option.{option_and_then}, List.{AllByRecursion, list_all}}
use Rattle.std.specs.Cmp.Lexicographic.{pointwise}
use Rattle.mon_text.specs.{Names.{IsName, is_name}, Counts.{is_count, value_of}, Lines.{words}}
use Rattle.mon_access.specs.{declared.account.Account.{Account}, Accounts.{find_account}}
use Rattle.mon_catalogue.specs.declared.{mode.Mode.{Mode}, mode.Mode.TheVariants.{Seq}, version.Version.{Version}, head.Head.{Head}}
use Rattle.mon_catalogue.specs.{declared.version.Version.TheVariants.{One, Two}, Head.{head_of, head_with}, Modes.{mode_of}, Sets.{Sets}}
use Rattle.mon_catalogue.specs.Spelling.{SpellsSets, head_for}
use Rattle.acl_text.specs.declared.text.AclText.TheVariants.{Short, Long}
use Rattle.deck_lines.specs.declared.command.Command.{Command, TheVariants.{Create, Delete, SetAcl, ShowAcl, List as Listing, Catalog}}
use Rattle.deck_syntax.specs.{declared.job_deck.JobDeck.{JobDeck}, declared.job_deck.UnitCard.{UnitCard}, Sections.{deck_of}, JobSpelling.{SpellsUnits}}
use Rattle.deck_syntax.specs.{Decks.{Deck, Asked, Commands, Enters, Gives, Drains, Ending, Stopped, Refused}, Laws.{ReadingSpells, GoodBeginnings, BeginsGood}}
use Rattle.deck_syntax.specs.Spelling.{SpellsAccounts, SpellsCommand, SpellsAsked, SpellsStream, IsDeck}
use Rattle.mon_monitor.specs.{Events.{Event, Serve, Load, Give, Drain}, Headline.{cards_of, job_of}}
use Rattle.deck_driver.specs.RunStates.{events_of}
use Rattle.audit_laws.{specs.Sound.{AreWellNamed, AreNamed}, proofs.Words.{both}, proofs.Exchanges.{NameSets}}

-- ACCOUNTS

abbrev pub HaveNames : List Account → Type 0
HaveNames accounts = AllByRecursion (λ account. IsName account.name) accounts

first_name : (account : Account) (ws : List (List ℕ)) → ws ≡ account.name ∷ account.primary ∷ account.groups → IsTrue (list_all is_name ws) → IsName account.name
first_name account ws is h =
    (both (is_name account.name) (list_all is_name (account.primary ∷ account.groups)) (subst (λ (l : List (List ℕ)). IsTrue (list_all is_name l)) is h)).0

accounts_named : (table : List (List ℕ)) (accounts : List Account) → SpellsAccounts table accounts → HaveNames accounts
accounts_named table [] h = tt
accounts_named table (account ∷ accounts) (blanks, line, rest, is, are_blank, spelled, more) =
    (first_name account (words line) spelled.words_are spelled.names_are, accounts_named rest accounts more)

pub known_name : (accounts : List Account) (name : List ℕ) → HaveNames accounts → IfSome (find_account accounts name) (λ account. IsName account.name)
known_name [] name h = tt
known_name (account ∷ accounts) name h = by (bytes_eq name account.name) (known_name accounts name h.1)
  where
    by : (b : Bool) → IfSome (find_account accounts name) (λ account. IsName account.name)
        → IfSome (cond b (Some account) (find_account accounts name)) (λ account. IsName account.name)
    by true more = h.0
    by false more = more

-- DATA SETS

module _ (card name owner group count : List ℕ) (mode : Mode) (head : Head) where
  abbrev is_set : Bool
  is_set = pointwise nat_eq card (codes "$SET")

  abbrev made : Head
  made = record { name = name; owner = owner; group = group; mode = mode; count = value_of count }

  name_among : (is_set && is_name name && is_name owner && is_name group && is_count count) ≡ true → IsName name
  name_among is =
      let four = both (is_set && is_name name && is_name owner && is_name group) (is_count count) is in
      let three = both (is_set && is_name name && is_name owner) (is_name group) four.0 in
      let two = both (is_set && is_name name) (is_name owner) three.0 in
      (both is_set (is_name name) two.0).1

  with_name_if : (b : Bool) → (is_set && is_name name && is_name owner && is_name group && is_count count) ≡ b → (if b then Some made else None) ≡ Some head → IsName head.name
  with_name_if true is k = subst (λ (o : Option Head). IfSome o (λ (x : Head). IsName x.name)) k (name_among is)
  with_name_if false is k = let wrong : None ≡ Some head = k in absurd cc

  with_name : head_with card name owner group count mode ≡ Some head → IsName head.name
  with_name h = with_name_if (is_set && is_name name && is_name owner && is_name group && is_count count) refl h

moded_name : (card name owner group count : List ℕ) (o : Option Mode) (head : Head) → option_and_then (head_with card name owner group count) o ≡ Some head → IsName head.name
moded_name card name owner group count None head h = let k : None ≡ Some head = h in absurd cc
moded_name card name owner group count (Some mode) head h = with_name card name owner group count mode head h

head_name : (version : Version) (ws : List (List ℕ)) (head : Head) → head_of version ws ≡ Some head → IsName head.name
head_name One (card ∷ name ∷ owner ∷ group ∷ count ∷ []) head h = with_name card name owner group count Seq head h
head_name Two (card ∷ name ∷ owner ∷ group ∷ mode ∷ count ∷ []) head h = moded_name card name owner group count (mode_of mode) head h
head_name One [] head h = let k : None ≡ Some head = h in absurd cc
head_name One (a ∷ []) head h = let k : None ≡ Some head = h in absurd cc
head_name One (a ∷ b ∷ []) head h = let k : None ≡ Some head = h in absurd cc
head_name One (a ∷ b ∷ c ∷ []) head h = let k : None ≡ Some head = h in absurd cc
head_name One (a ∷ b ∷ c ∷ d ∷ []) head h = let k : None ≡ Some head = h in absurd cc
head_name One (a ∷ b ∷ c ∷ d ∷ e ∷ f ∷ ws) head h = let k : None ≡ Some head = h in absurd cc
head_name Two [] head h = let k : None ≡ Some head = h in absurd cc
head_name Two (a ∷ []) head h = let k : None ≡ Some head = h in absurd cc
head_name Two (a ∷ b ∷ []) head h = let k : None ≡ Some head = h in absurd cc
head_name Two (a ∷ b ∷ c ∷ []) head h = let k : None ≡ Some head = h in absurd cc
head_name Two (a ∷ b ∷ c ∷ d ∷ []) head h = let k : None ≡ Some head = h in absurd cc
head_name Two (a ∷ b ∷ c ∷ d ∷ e ∷ []) head h = let k : None ≡ Some head = h in absurd cc
head_name Two (a ∷ b ∷ c ∷ d ∷ e ∷ f ∷ g ∷ ws) head h = let k : None ≡ Some head = h in absurd cc

sets_named : (version : Version) (text : List (List ℕ)) (sets : Sets) → SpellsSets version text sets → AreWellNamed sets
sets_named version text [] h = tt
sets_named version text (named ∷ sets) (rest, first, more) =
    ((head_name version (words first.head) (head_for named) first.head_is, first.list_is.0.valid.entries), sets_named version rest sets more)

-- WHAT IS ASKED FOR

abbrev pub IsNamedJob : JobDeck → Type 0
IsNamedJob deck = IsName deck.account × NameSets deck.ties

abbrev pub IsNamedAsked : Asked → Type 0
IsNamedAsked (Commands command) = AreNamed command
IsNamedAsked (Enters job) = IsName job.account × NameSets job.ties
IsNamedAsked (Gives turn) = Unit {0}
IsNamedAsked Drains = Unit {0}

two_names : (a b : List ℕ) → IsTrue (list_all is_name (a ∷ b ∷ [])) → IsName a × IsName b
two_names a b h =
    let first = both (is_name a) (is_name b && true) h in
    (first.0, (both (is_name b) true first.1).0)

command_named : (line : List ℕ) (more : List (List ℕ)) (command : Command) → SpellsCommand line more command → AreNamed command
command_named line more (Create account name mode) h = both (is_name account) (is_name name) h.0.names_are
command_named line more (Delete account name) h = two_names account name h.0.1
command_named line more (ShowAcl account name) h = two_names account name h.0.1
command_named line more (Listing account name) h = two_names account name h.0.1
command_named line more (Catalog account) h = (both (is_name account) true h.0.1).0
command_named line more (SetAcl account name (Short text)) h = both (is_name account) (is_name name) h.0.names_are
command_named line more (SetAcl account name (Long text)) h = two_names account name h.0.1

units_named : (ls : List (List ℕ)) (ties : List UnitCard) → SpellsUnits ls ties → NameSets ties
units_named ls [] h = tt
units_named [] (tie ∷ ties) h = absurd h
units_named (line ∷ ls) (tie ∷ ties) h = (h.0.set_is, units_named ls ties h.1)

asked_named : (line : List ℕ) (more : List (List ℕ)) (one : Asked) → SpellsAsked line more one → IsNamedAsked one
asked_named line more (Commands command) h = command_named line more command h
asked_named line more (Enters job) h = (h.account_is, units_named h.unit_lines job.ties h.units_are)
asked_named line more (Gives turn) h = tt
asked_named line more Drains h = tt

stream_named : (ls : List (List ℕ)) (asked : List Asked) → SpellsStream ls asked → AllByRecursion IsNamedAsked asked
stream_named ls [] h = tt
stream_named ls (one ∷ others) (blanks, line, more, rest, is, are_blank, spelled, behind) = (asked_named line more one spelled, stream_named rest others behind)

-- what is asked of a deck, and over what
pub record AllNamed (deck : Deck) : Type 0 where
  pub accounts : HaveNames deck.accounts
  pub asked : AllByRecursion IsNamedAsked deck.cards.asked
  pub sets : (deck.cards.asked ≡ []) ⊎ AreWellNamed deck.catalogue

front : {A : Type 0} (P : A → Type 0) (xs ys : List A) → AllByRecursion P (xs ++ ys) → AllByRecursion P xs
front P [] ys h = tt
front P (x ∷ xs) ys h = (h.0, front P xs ys h.1)

good_named : (ls : List (List ℕ)) (deck : Deck) → IsDeck ls deck → AllNamed deck
good_named ls deck d = record {
  accounts = accounts_named d.table deck.accounts d.table_is;
  asked = stream_named d.stream deck.cards.asked d.stream_is;
  sets = inr (sets_named d.version d.text deck.catalogue d.text_is.0);
}

begun_named : (ls : List (List ℕ)) (n : ℕ) (deck : Deck) (last : List Asked) → BeginsGood n ls deck last → AllNamed (deck_of ls)
begun_named ls n deck last b =
    let all = good_named (take (n - 1) ls ++ b.rest) deck b.good in
    record {
      accounts = subst HaveNames b.accounts all.accounts;
      asked = front IsNamedAsked (deck_of ls).cards.asked last (subst (AllByRecursion IsNamedAsked) b.asked all.asked);
      sets = elim b.over [ inl none ↦ inl none | inr same ↦ inr (sets_named b.good.version b.good.text (deck_of ls).catalogue (subst (λ (s : Sets). SpellsSets b.good.version b.good.text s) same b.good.text_is.0)) ];
    }

pub deck_named : ReadingSpells → GoodBeginnings → (ls : List (List ℕ)) → AllNamed (deck_of ls)
deck_named spells begins ls = by (deck_of ls).cards.ending refl
  where
    by : (end : Ending) → (deck_of ls).cards.ending ≡ end → AllNamed (deck_of ls)
    by Stopped is = good_named ls (deck_of ls) ((spells ls (deck_of ls)).1 (refl, is))
    by (Refused n code) is = let b = begins ls n code is in begun_named ls n b.0 b.1 b.2

-- AS EVENTS

abbrev pub IsNamedEvent : Event → Type 0
IsNamedEvent (Serve command) = AreNamed command
IsNamedEvent (Load deck) = IsNamedJob deck
IsNamedEvent (Give slot count) = Unit {0}
IsNamedEvent Drain = Unit {0}

abbrev pub AreNamedEvents : List Event → Type 0
AreNamedEvents events = AllByRecursion IsNamedEvent events

pub events_named : (k : ℕ) (asked : List Asked) (last : List Event) → AllByRecursion IsNamedAsked asked → AreNamedEvents last → AreNamedEvents (events_of k asked ++ last)
events_named k [] last h more = more
events_named k (Commands command ∷ asked) last h more = (h.0, events_named k asked last h.1 more)
events_named k (Enters job ∷ asked) last h more = (h.0, events_named (suc k) asked last h.1 more)
events_named k (Gives turn ∷ asked) last h more = (tt, events_named k asked last h.1 more)
events_named k (Drains ∷ asked) last h more = (tt, events_named k asked last h.1 more)

pub cards_named : (events : List Event) → AreNamedEvents events → AreNamedEvents (cards_of events)
cards_named [] h = tt
cards_named (Load deck ∷ events) h = (h.0, cards_named events h.1)
cards_named (Serve command ∷ events) h = (h.0, cards_named events h.1)
cards_named (Give slot count ∷ events) h = cards_named events h.1
cards_named (Drain ∷ events) h = cards_named events h.1

pub job_named : (n : ℕ) (events : List Event) → AreNamedEvents events → IfSome (job_of n events) IsNamedJob
job_named n [] h = tt
job_named n (Load deck ∷ events) h = by (deck.number == n) (job_named n events h.1)
  where
    by : (b : Bool) → IfSome (job_of n events) IsNamedJob → IfSome (if b then Some deck else job_of n events) IsNamedJob
    by true more = h.0
    by false more = more
job_named n (Serve command ∷ events) h = job_named n events h.1
job_named n (Give slot count ∷ events) h = job_named n events h.1
job_named n (Drain ∷ events) h = job_named n events h.1
