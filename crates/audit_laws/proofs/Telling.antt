-- What the lines of entries tell.
use Rattle.std.proofs.Common.{◌≡◌, ℕ, Bool, true, false, List, [], ◌∷◌, ◌++◌, map, Option, Some, None, Result, Ok, Err, refl, sym, ap, ◌∙◌, subst, inl, inr}
use Rattle.std.specs.{Prelude.{◌⊎◌, IfSome, if◌then◌else◌, option_map}, Option.{option_and_then}, Result.{result_ok}, List.{AllByRecursion, flat_map, list_all}}
use Rattle.mon_text.{specs.Names.{IsName}, proofs.Counted.{digits_of_decimal}}
use Rattle.mon_acl.specs.{Permissions.{to_execute}, declared.entries.Entry.{Entry as ListEntry}, declared.refusals.AclError.{AclError}, Entries.{IsAcl}}
use Rattle.acl_text.specs.{Forms.{list_of_text}, Printing.{short_form}, Laws.{ReadsBack}}
use Rattle.mon_access.specs.{declared.account.Account.{Account}, Matches.{is_owner}}
use Rattle.mon_catalogue.specs.{declared.data_set.DataSet.{DataSet}, Sets.{Sets, find_set}}
use Rattle.mon_guard.specs.Views.{names_shown}
use Rattle.deck_lines.specs.declared.command.Command.{Command, TheVariants.{Create, Delete, SetAcl, ShowAcl, List as Listing, Catalog}}
use Rattle.mon_command.specs.{Printouts.{word}, Saying.{said_of}}
use Rattle.mon_command.specs.Commanded as commands
use Rattle.job_end.specs.AuditLines.{loaded_line, refused_line, ended_line}
use Rattle.audit.specs.{declared.grants.Grant.{Grant}, declared.grants.Grant.TheVariants.{AsOwner}, Grants.{by_entry, by_owner, known_grant}}
use Rattle.audit.proofs.Ordered.{as_said}
use Rattle.audit.specs.{Requests.{asked_of, request_line}, Catalogs.{shown_line, shown_lines}, Commands.{said_line, spelled}}
use Rattle.mon_monitor.specs.{History.{Entry, Entered, Refused, Asked, Ended, Ordered}, Audit.{audit_line, audit}}
use Rattle.deck_run.specs.{Audited.{Audited}, Headline.{history_of}}
use Rattle.audit_laws.specs.{Telling.{Told, Loads, Refuses, Asks, Ends, Orders, Shows, told_number, told_grant, told_command}, Reading.{audit_tells}}
use Rattle.audit_laws.{specs.Histories.{list_of, told_shown, told_of}, specs.Sound.{ListsAreSpelled, AreWellNamed, AreNamed, IsSound}, proofs.Words.{both}}
use Rattle.audit_laws.{specs.Laws.{NumbersAreTold, LinesAreTold, AuditsAreRead, HistoriesAreSound, AuditTellsHistory}, proofs.Exchanges.{request_sound}}
use Rattle.audit_laws.proofs.{Lines.{Tells, no_lines, one_line, then_lines, whole}, Sets.{by_entry_named, known_grant_named, shown_named}}
use Rattle.audit_laws.proofs.Jobs.{loaded_reads, loaded_back, refused_reads, refused_back, ended_reads, ended_back, asked_reads, asked_back}
use Rattle.audit_laws.proofs.Commands.{spelled_text, IsGrantFor, IsSoundCommand, said_line_reads, ordered_back, shown_reads, shown_back}

pub numbers_are_told : NumbersAreTold
numbers_are_told n small = (digits_of_decimal n small).1

-- A COMMAND

spelled_is : (command : Command) → spelled command ≡ spelled_text (list_of command)
spelled_is (SetAcl account name text) = by (list_of_text text)
  where
    by : (r : Result (List ListEntry) AclError) → elim r [ Ok list ↦ word (short_form list) | Err refusal ↦ [] ] ≡ spelled_text (result_ok r)
    by (Ok list) = refl
    by (Err refusal) = refl
spelled_is (Create account name mode) = refl
spelled_is (Delete account name) = refl
spelled_is (ShowAcl account name) = refl
spelled_is (Listing account name) = refl
spelled_is (Catalog account) = refl

list_is : ListsAreSpelled → (command : Command) → IfSome (list_of command) IsAcl
list_is lists (SetAcl account name text) = by (list_of_text text) refl
  where
    by : (r : Result (List ListEntry) AclError) → list_of_text text ≡ r → IfSome (result_ok r) IsAcl
    by (Ok list) is = lists text list is
    by (Err refusal) is = tt
list_is lists (Create account name mode) = tt
list_is lists (Delete account name) = tt
list_is lists (ShowAcl account name) = tt
list_is lists (Listing account name) = tt
list_is lists (Catalog account) = tt

abbrev IsOwners : Option Grant → Type 0
IsOwners grant = (grant ≡ None) ⊎ (grant ≡ Some AsOwner)

owner_fits : (account : Account) (o : Option DataSet) → IsOwners (option_and_then (by_owner account) o)
owner_fits account None = inl refl
owner_fits account (Some set) = by (is_owner account set.owner)
  where
    by : (b : Bool) → IsOwners (if b then Some AsOwner else None)
    by true = inr refl
    by false = inl refl

grant_fits : (known : Option Account) (sets : Sets) (command : Command) → IsGrantFor command (known_grant known sets command)
grant_fits None sets (Create account name mode) = refl
grant_fits (Some known) sets (Create account name mode) = refl
grant_fits None sets (SetAcl account name text) = inl refl
grant_fits (Some known) sets (SetAcl account name text) = owner_fits known (find_set name sets)
grant_fits known sets (Delete account name) = tt
grant_fits known sets (ShowAcl account name) = tt
grant_fits known sets (Listing account name) = tt
grant_fits known sets (Catalog account) = tt

-- the data sets that are shown
sets_tell : (by : List ℕ) → IsName by → (account : Account) (sets : Sets) → AreWellNamed sets
    → Tells (flat_map (shown_line by account) sets) (map (λ named. Shows by named.0 (option_map told_grant (by_entry account named.1 to_execute))) sets)
sets_tell by ok account [] h = no_lines
sets_tell by ok account (named ∷ sets) h =
    let grant = by_entry account named.1 to_execute in
    let entry = by_entry_named account named.1 to_execute h.0.1 in
    then_lines (shown_line by account named) (flat_map (shown_line by account) sets) (Shows by named.0 (option_map told_grant grant) ∷ []) _
    (one_line (shown_line by account named) _ (Shows by named.0 (option_map told_grant grant)) (shown_reads by named.0 grant ok h.0.0 entry) (shown_back by named.0 grant entry))
    (sets_tell by ok account sets h.1)

shown_tell : (known : Option Account) (sets : Sets) (command : Command) → AreNamed command → AreWellNamed sets
    → Tells (shown_lines known sets command) (told_shown known sets command)
shown_tell None sets (Catalog by) ok h = no_lines
shown_tell (Some account) sets (Catalog by) ok h = sets_tell by ok account (names_shown account sets) (shown_named account sets h)
shown_tell known sets (Create account name mode) ok h = no_lines
shown_tell known sets (Delete account name) ok h = no_lines
shown_tell known sets (SetAcl account name text) ok h = no_lines
shown_tell known sets (ShowAcl account name) ok h = no_lines
shown_tell known sets (Listing account name) ok h = no_lines

module _ (lists : ListsAreSpelled) (back : ReadsBack) where
  ordered_tells : (known : Option Account) (sets : Sets) (command : Command) (answer : commands.Answer) → IsSound (Ordered known sets command answer)
      → Tells (audit_line (Ordered known sets command answer)) (told_of (Ordered known sets command answer))
  ordered_tells known sets command answer h =
      let said = said_of answer in
      let grant = known_grant known sets command in
      let list = list_of command in
      let sound : IsSoundCommand command said list grant =
      record { names = h.0; answer = h.1.1; spelled = list_is lists command; entry = known_grant_named known sets command h.1.0; fits = grant_fits known sets command } in
      subst (λ (text : List ℕ). Tells text (told_command command said list grant ∷ told_shown known sets command)) (sym (as_said known sets command answer))
      (then_lines (said_line command said (spelled command) grant) (shown_lines known sets command) (told_command command said list grant ∷ []) (told_shown known sets command)
      (subst (λ (text : List ℕ). Tells (said_line command said text grant) (told_command command said list grant ∷ [])) (sym (spelled_is command))
      (one_line (said_line command said (spelled_text list) grant) _ (told_command command said list grant) (said_line_reads command said list grant sound) (ordered_back back command said list grant sound)))
      (shown_tell known sets command h.0 h.1.0))

  entry_tells : (entry : Entry) → IsSound entry → Tells (audit_line entry) (told_of entry)
  entry_tells (Entered deck) h =
      one_line (loaded_line deck.number deck.account) _ (Loads (told_number deck.number) deck.account) (loaded_reads deck.number deck.account h) (loaded_back deck.number deck.account)
  entry_tells (Refused deck refusal) h =
      one_line (refused_line deck.number deck.account refusal) _ _ (refused_reads deck.number deck.account refusal h) (refused_back deck.number deck.account refusal)
  entry_tells (Asked e) h =
      let asked = asked_of e.number e.account e.reach e.request in
      one_line (request_line asked e.answer) _ _ (asked_reads asked e.answer (request_sound e h)) (asked_back asked e.answer (request_sound e h))
  entry_tells (Ended end) h =
      one_line (ended_line end) _ _ (ended_reads end.number end.account end.ending end.statements h) (ended_back end.number end.account end.ending end.statements)
  entry_tells (Ordered known sets command answer) h = ordered_tells known sets command answer h

  all_tell : (entries : List Entry) → AllByRecursion IsSound entries → Tells (audit entries) (flat_map told_of entries)
  all_tell [] h = no_lines
  all_tell (entry ∷ entries) h =
      then_lines (audit_line entry) (audit entries) (told_of entry) (flat_map told_of entries) (entry_tells entry h.0) (all_tell entries h.1)

  pub lines_are_told : LinesAreTold
  lines_are_told entry other h k same =
      sym (whole (audit_line entry) (told_of entry) (entry_tells entry h)) ∙ ap audit_tells same ∙ whole (audit_line other) (told_of other) (entry_tells other k)

  pub audits_are_read : AuditsAreRead
  audits_are_read entries h = whole (audit entries) (flat_map told_of entries) (all_tell entries h)

-- ENTRY BY ENTRY

-- a line that tells more of the entry before
abbrev is_more : Told → Bool
is_more (Loads n account) = false
is_more (Refuses n account refusal) = false
is_more (Asks asked answer) = false
is_more (Ends n account ending statements) = false
is_more (Orders command) = false
is_more (Shows account name grant) = true

-- what stands in front that is of an entry before, and the entries behind it
abbrev pending : List Told → List Told
pending [] = []
pending (t ∷ ts) = if is_more t then t ∷ pending ts else []

abbrev groups : List Told → List (List Told)
groups [] = []
groups (t ∷ ts) = if is_more t then groups ts else (t ∷ pending ts) ∷ groups ts

abbrev IsGroup : List Told → Type 0
IsGroup [] = ⊥
IsGroup (t ∷ ts) = (is_more t ≡ false) × (list_all is_more ts ≡ true)

pending_more : (ts rest : List Told) → list_all is_more ts ≡ true → pending rest ≡ [] → pending (ts ++ rest) ≡ ts
pending_more [] rest h none = none
pending_more (t ∷ ts) rest h none =
    let two = both (is_more t) (list_all is_more ts) h in
    ap (λ (b : Bool). if b then t ∷ pending (ts ++ rest) else []) two.0 ∙ ap (λ (l : List Told). t ∷ l) (pending_more ts rest two.1 none)

groups_more : (ts rest : List Told) → list_all is_more ts ≡ true → groups (ts ++ rest) ≡ groups rest
groups_more [] rest h = refl
groups_more (t ∷ ts) rest h =
    let two = both (is_more t) (list_all is_more ts) h in
    ap (λ (b : Bool). if b then groups (ts ++ rest) else (t ∷ pending (ts ++ rest)) ∷ groups (ts ++ rest)) two.0 ∙ groups_more ts rest two.1

group_first : (g rest : List Told) → IsGroup g → pending rest ≡ [] → (pending (g ++ rest) ≡ []) × (groups (g ++ rest) ≡ g ∷ groups rest)
group_first [] rest h none = absurd h
group_first (t ∷ ts) rest h none = (
  ap (λ (b : Bool). if b then t ∷ pending (ts ++ rest) else []) h.0,
  ap (λ (b : Bool). if b then groups (ts ++ rest) else (t ∷ pending (ts ++ rest)) ∷ groups (ts ++ rest)) h.0
      ∙ ap (λ (l : List Told). (t ∷ l) ∷ groups (ts ++ rest)) (pending_more ts rest h.1 none)
      ∙ ap (λ (l : List (List Told)). (t ∷ ts) ∷ l) (groups_more ts rest h.1),
)

shows_more : (by : List ℕ) (account : Account) (sets : Sets)
    → list_all is_more (map (λ named. Shows by named.0 (option_map told_grant (by_entry account named.1 to_execute))) sets) ≡ true
shows_more by account [] = refl
shows_more by account (named ∷ sets) = shows_more by account sets

shown_more : (known : Option Account) (sets : Sets) (command : Command) → list_all is_more (told_shown known sets command) ≡ true
shown_more None sets (Catalog by) = refl
shown_more (Some account) sets (Catalog by) = shows_more by account (names_shown account sets)
shown_more known sets (Create account name mode) = refl
shown_more known sets (Delete account name) = refl
shown_more known sets (SetAcl account name text) = refl
shown_more known sets (ShowAcl account name) = refl
shown_more known sets (Listing account name) = refl

entry_group : (entry : Entry) → IsGroup (told_of entry)
entry_group (Entered deck) = (refl, refl)
entry_group (Refused deck refusal) = (refl, refl)
entry_group (Asked e) = (refl, refl)
entry_group (Ended end) = (refl, refl)
entry_group (Ordered known sets command answer) = (refl, shown_more known sets command)

grouped : (entries : List Entry) → (pending (flat_map told_of entries) ≡ []) × (groups (flat_map told_of entries) ≡ map told_of entries)
grouped [] = (refl, refl)
grouped (entry ∷ entries) =
    let rest = grouped entries in
    let first = group_first (told_of entry) (flat_map told_of entries) (entry_group entry) rest.0 in
    (first.0, first.1 ∙ ap (λ (l : List (List Told)). told_of entry ∷ l) rest.1)

pub audit_tells_history : AuditsAreRead → HistoriesAreSound → Audited → AuditTellsHistory
audit_tells_history read sound audited options other m n bytes more runs too same =
    let one = history_of options m bytes in
    let two = history_of other n more in
    sym (grouped one).1
    ∙ ap groups
    (sym (read one (sound options m bytes runs)) ∙ ap audit_tells (sym (audited options m bytes runs) ∙ same ∙ audited other n more too) ∙ read two (sound other n more too))
    ∙ (grouped two).1
