-- Lines of commands: their words, and what is read of them.
use Rattle.std.proofs.Common.{◌≡◌, ℕ, Bool, true, false, ◌&&◌, ◌⊎◌, List, [], ◌∷◌, ◌++◌, refl, sym, ap, ◌∙◌, append_assoc, inl, inr, Option, Some, None, Result, Ok, Err}
use Rattle.std.specs.{Prelude.{codes, decimal, if◌then◌else◌, IfSome, option_map, All}, Option.{unwrap_or}}
use Rattle.std.proofs.lemmas.List.{Elements.{All-head, All-tail}, Folds.{list_all-append}}
use Rattle.mon_text.specs.Names.{IsName}
use Rattle.mon_acl.specs.declared.{entries.Perms.{Perms}, entries.Tag.{Tag}, entries.Entry.{Entry}, refusals.AclError.{AclError}}
use Rattle.mon_acl.specs.{declared.entries.Tag.TheVariants.{UserObj, User, GroupObj, Group, Mask, Other}, Entries.{tag_word, is_qualified, IsEntry, IsAcl}}
use Rattle.mon_acl.specs.declared.refusals.AclError.TheVariants.{BadTag, BadQualifier, BadPerms, Missing, Twice, NoMask, TooMany}
use Rattle.acl_text.specs.{Printing.{entry_head, entry_text, perms_text, letter, short_form}, Laws.{ReadsBack}}
use Rattle.mon_catalogue.specs.{declared.mode.Mode.{Mode}, declared.mode.Mode.TheVariants.{Seq, Append}, Modes.{mode_word}}
use Rattle.interaction.specs.declared.answer.Reason.{Reason, TheVariants.{By}}
use Rattle.acl_text.specs.Refused.{list_refusal}
use Rattle.mon_command.specs.{Printouts.{word, number}, declared.reply.Reply.{Reply}, declared.said.Said.{Said}}
use Rattle.mon_command.specs.{Replies.{reason_text, reply_text}, declared.reply.Reply.TheVariants.{Done, NoAccount, Denied, NameTaken, CatalogueFull, BadList}}
use Rattle.mon_command.specs.declared.said.Said.TheVariants.{Told as ToldReply, Records, Entries, Names}
use Rattle.audit.specs.{declared.grants.Grant.{Grant}, declared.grants.Grant.TheVariants.{AsOwner}, Grants.{last_words, is_granted, granted_words}}
use Rattle.audit.specs.{Commands.{said_words, card_words, done_words, if_done, said_line}, Words.{command_line}}
use Rattle.deck_lines.specs.{declared.command.Command.{Command}, Commands.{account_of}}
use Rattle.deck_lines.specs.declared.command.Command.TheVariants.{Create, Delete, SetAcl, ShowAcl, List as Listing, Catalog}
use Rattle.audit_laws.specs.Sound.{IsEntryNamed, IsReplyNamed, IsSaidNamed, AreNamed}
use Rattle.audit_laws.specs.Reading.{said_in, grant_in, mode_in, list_in, behind, ordering, list_set, told_in}
use Rattle.audit_laws.proofs.Words.{is_dark, is_word, IsWord, Reads, no_words, one_word, joined, ended, same_words, name_word, number_word, IsLineOf, line_of}
use Rattle.audit_laws.proofs.Reasons.{entry_word, entry_is, reason_list, reason_reads, reason_back, IsGrantNamed, grant_list, grant_reads, grant_back}
use Rattle.audit_laws.specs.Telling.{Told, Order, Creates, Deletes, SetsList, ShowsList, Lists, ShowsNames, Shows, told_error, told_said, told_grant, if_told, last_told, told_command}

number_reads : (n : ℕ) → Reads (number n) (decimal n ∷ [])
number_reads n = one_word (decimal n) (number_word n)

-- WHAT WAS ANSWERED

abbrev pub error_list : AclError → List (List ℕ)
error_list (BadTag n) = codes "A1" ∷ codes "BAD" ∷ codes "TAG" ∷ codes "ENTRY" ∷ decimal n ∷ []
error_list (BadQualifier n) = codes "A2" ∷ codes "BAD" ∷ codes "QUALIFIER" ∷ codes "ENTRY" ∷ decimal n ∷ []
error_list (BadPerms n) = codes "A3" ∷ codes "BAD" ∷ codes "PERMS" ∷ codes "ENTRY" ∷ decimal n ∷ []
error_list (Missing tag) = codes "A4" ∷ codes "MISSING" ∷ (tag_word tag ++ codes "::") ∷ []
error_list (Twice n) = codes "A5" ∷ codes "TWICE" ∷ codes "ENTRY" ∷ decimal n ∷ []
error_list NoMask = codes "A6" ∷ codes "NO" ∷ codes "MASK" ∷ []
error_list (TooMany n) = codes "A7" ∷ codes "TOO" ∷ codes "MANY" ∷ codes "ENTRY" ∷ decimal n ∷ []

error_reads : (error : AclError) → Reads (codes " " ++ list_refusal error) (error_list error)
error_reads (BadTag n) = joined (codes " A1 BAD TAG ENTRY") (number n) (codes "A1" ∷ codes "BAD" ∷ codes "TAG" ∷ codes "ENTRY" ∷ []) (decimal n ∷ []) (refl, refl) (number_reads n)
error_reads (BadQualifier n) =
    joined (codes " A2 BAD QUALIFIER ENTRY") (number n) (codes "A2" ∷ codes "BAD" ∷ codes "QUALIFIER" ∷ codes "ENTRY" ∷ []) (decimal n ∷ []) (refl, refl) (number_reads n)
error_reads (BadPerms n) = joined (codes " A3 BAD PERMS ENTRY") (number n) (codes "A3" ∷ codes "BAD" ∷ codes "PERMS" ∷ codes "ENTRY" ∷ []) (decimal n ∷ []) (refl, refl) (number_reads n)
error_reads (Missing UserObj) = (refl, refl)
error_reads (Missing User) = (refl, refl)
error_reads (Missing GroupObj) = (refl, refl)
error_reads (Missing Group) = (refl, refl)
error_reads (Missing Mask) = (refl, refl)
error_reads (Missing Other) = (refl, refl)
error_reads (Twice n) = joined (codes " A5 TWICE ENTRY") (number n) (codes "A5" ∷ codes "TWICE" ∷ codes "ENTRY" ∷ []) (decimal n ∷ []) (refl, refl) (number_reads n)
error_reads NoMask = (refl, refl)
error_reads (TooMany n) = joined (codes " A7 TOO MANY ENTRY") (number n) (codes "A7" ∷ codes "TOO" ∷ codes "MANY" ∷ codes "ENTRY" ∷ []) (decimal n ∷ []) (refl, refl) (number_reads n)

abbrev pub reply_list : Reply → List (List ℕ)
reply_list Done = codes "DONE" ∷ []
reply_list NoAccount = codes "REFUSED" ∷ codes "M2" ∷ codes "NO" ∷ codes "ACCOUNT" ∷ []
reply_list (Denied reason) = codes "DENIED" ∷ reason_list reason
reply_list NameTaken = codes "REFUSED" ∷ codes "K1" ∷ codes "NAME" ∷ codes "TAKEN" ∷ []
reply_list CatalogueFull = codes "REFUSED" ∷ codes "K4" ∷ codes "CATALOGUE" ∷ codes "FULL" ∷ []
reply_list (BadList error) = codes "REFUSED" ∷ error_list error

reply_reads : (reply : Reply) → IsReplyNamed reply → Reads (word (reply_text reply)) (reply_list reply)
reply_reads Done h = (refl, refl)
reply_reads NoAccount h = (refl, refl)
reply_reads (Denied reason) h = joined (codes " DENIED") (word (reason_text reason)) (codes "DENIED" ∷ []) (reason_list reason) (refl, refl) (reason_reads reason h)
reply_reads NameTaken h = (refl, refl)
reply_reads CatalogueFull h = (refl, refl)
reply_reads (BadList error) h = joined (codes " REFUSED") (codes " " ++ list_refusal error) (codes "REFUSED" ∷ []) (error_list error) (refl, refl) (error_reads error)

abbrev pub said_list : Said → List (List ℕ)
said_list (ToldReply reply) = reply_list reply
said_list (Records n) = codes "RECORDS" ∷ decimal n ∷ []
said_list (Entries n) = codes "ENTRIES" ∷ decimal n ∷ []
said_list (Names n) = codes "NAMES" ∷ decimal n ∷ []

said_reads : (said : Said) → IsSaidNamed said → Reads (said_words said) (said_list said)
said_reads (ToldReply reply) h = reply_reads reply h
said_reads (Records n) h = joined (codes " RECORDS") (number n) (codes "RECORDS" ∷ []) (decimal n ∷ []) (refl, refl) (number_reads n)
said_reads (Entries n) h = joined (codes " ENTRIES") (number n) (codes "ENTRIES" ∷ []) (decimal n ∷ []) (refl, refl) (number_reads n)
said_reads (Names n) h = joined (codes " NAMES") (number n) (codes "NAMES" ∷ []) (decimal n ∷ []) (refl, refl) (number_reads n)

error_back : (error : AclError) (more : List (List ℕ)) → said_in (reply_list (BadList error) ++ more) ≡ ToldReply (BadList (told_error error))
error_back (BadTag n) more = refl
error_back (BadQualifier n) more = refl
error_back (BadPerms n) more = refl
error_back (Missing UserObj) more = refl
error_back (Missing User) more = refl
error_back (Missing GroupObj) more = refl
error_back (Missing Group) more = refl
error_back (Missing Mask) more = refl
error_back (Missing Other) more = refl
error_back (Twice n) more = refl
error_back NoMask more = refl
error_back (TooMany n) more = refl

said_back : (said : Said) → IsSaidNamed said → (more : List (List ℕ)) → said_in (said_list said ++ more) ≡ told_said said
said_back (ToldReply Done) h more = refl
said_back (ToldReply NoAccount) h more = refl
said_back (ToldReply (Denied reason)) h more = ap (λ (r : Reason). ToldReply (Denied r)) (reason_back reason h more)
said_back (ToldReply NameTaken) h more = refl
said_back (ToldReply CatalogueFull) h more = refl
said_back (ToldReply (BadList error)) h more = error_back error more
said_back (Records n) h more = refl
said_back (Entries n) h more = refl
said_back (Names n) h more = refl

-- WHAT STANDS BEHIND IT

abbrev pub if_done_list : Said → List (List ℕ) → List (List ℕ)
if_done_list (ToldReply Done) ws = ws
if_done_list said ws = []

abbrev pub last_list : Said → Option Grant → List (List ℕ)
last_list said grant = if is_granted said then grant_list grant else []

if_done_reads : (said : Said) (text : List ℕ) (ws : List (List ℕ)) → Reads text ws → Reads (if_done said text) (if_done_list said ws)
if_done_reads (ToldReply Done) text ws reads = reads
if_done_reads (ToldReply NoAccount) text ws reads = no_words
if_done_reads (ToldReply (Denied reason)) text ws reads = no_words
if_done_reads (ToldReply NameTaken) text ws reads = no_words
if_done_reads (ToldReply CatalogueFull) text ws reads = no_words
if_done_reads (ToldReply (BadList error)) text ws reads = no_words
if_done_reads (Records n) text ws reads = no_words
if_done_reads (Entries n) text ws reads = no_words
if_done_reads (Names n) text ws reads = no_words

last_reads : (said : Said) (grant : Option Grant) → IfSome grant IsGrantNamed → Reads (last_words said grant) (last_list said grant)
last_reads (ToldReply Done) grant h = grant_reads grant h
last_reads (ToldReply NoAccount) grant h = no_words
last_reads (ToldReply (Denied reason)) grant h = no_words
last_reads (ToldReply NameTaken) grant h = no_words
last_reads (ToldReply CatalogueFull) grant h = no_words
last_reads (ToldReply (BadList error)) grant h = no_words
last_reads (Records n) grant h = grant_reads grant h
last_reads (Entries n) grant h = grant_reads grant h
last_reads (Names n) grant h = grant_reads grant h

-- of a command that neither makes a data set nor sets a list
tail_back : (said : Said) (grant : Option Grant) → IfSome grant IsGrantNamed
    → grant_in (behind (said_list said ++ (if_done_list said [] ++ last_list said grant))) ≡ last_told said grant
tail_back (ToldReply Done) grant h = grant_back grant h
tail_back (ToldReply NoAccount) grant h = refl
tail_back (ToldReply (Denied reason)) grant h = refl
tail_back (ToldReply NameTaken) grant h = refl
tail_back (ToldReply CatalogueFull) grant h = refl
tail_back (ToldReply (BadList error)) grant h = refl
tail_back (Records n) grant h = grant_back grant h
tail_back (Entries n) grant h = grant_back grant h
tail_back (Names n) grant h = grant_back grant h

-- of one that makes a data set, which no entry grants
mode_back : (said : Said) (mode : Mode)
    → mode_in (behind (said_list said ++ (if_done_list said (mode_word mode ∷ []) ++ last_list said None))) ≡ if_told said (Some mode)
mode_back (ToldReply Done) Seq = refl
mode_back (ToldReply Done) Append = refl
mode_back (ToldReply NoAccount) mode = refl
mode_back (ToldReply (Denied reason)) mode = refl
mode_back (ToldReply NameTaken) mode = refl
mode_back (ToldReply CatalogueFull) mode = refl
mode_back (ToldReply (BadList error)) mode = refl
mode_back (Records n) mode = refl
mode_back (Entries n) mode = refl
mode_back (Names n) mode = refl

-- A LIST

perms_dark : (perms : Perms) → IsWord (perms_text perms)
perms_dark perms = by perms.read perms.write perms.execute
  where
    by : (r w x : Bool) → IsWord (letter r 114 ∷ letter w 119 ∷ letter x 120 ∷ [])
    by true true true = refl
    by true true false = refl
    by true false true = refl
    by true false false = refl
    by false true true = refl
    by false true false = refl
    by false false true = refl
    by false false false = refl

entry_named : (t : Tag) (name : Option (List ℕ)) → is_qualified t name ≡ true → IsEntryNamed (By t name)
entry_named t None h = tt
entry_named t (Some name) h = h

-- an entry without its permissions
head_is : (t : Tag) (name : Option (List ℕ)) → tag_word t ++ 58 ∷ unwrap_or name [] ++ 58 ∷ [] ≡ entry_word t name
head_is UserObj name = refl
head_is User name = refl
head_is GroupObj name = refl
head_is Group name = refl
head_is Mask name = refl
head_is Other name = refl

entry_dark : (e : Entry) → IsEntry e → IsWord (entry_text e)
entry_dark e h =
    list_all-append is_dark (entry_head e) (perms_text e.perms)
    ∙ ap (λ (w : List ℕ). is_word w && is_word (perms_text e.perms)) (head_is e.tag e.name)
    ∙ ap (λ (b : Bool). b && is_word (perms_text e.perms)) (entry_is e.tag e.name (entry_named e.tag e.name h)) ∙ perms_dark e.perms

short_dark : (es : List Entry) → All IsEntry es → IsWord (short_form es)
short_dark [] h = refl
short_dark (e ∷ []) h = entry_dark e (All-head IsEntry e [] h)
short_dark (e ∷ f ∷ es) h =
    list_all-append is_dark (entry_text e) (44 ∷ short_form (f ∷ es))
    ∙ ap (λ (b : Bool). b && is_word (short_form (f ∷ es))) (entry_dark e (All-head IsEntry e (f ∷ es) h)) ∙ short_dark (f ∷ es) (All-tail IsEntry e (f ∷ es) h)

abbrev pub spelled_text : Option (List Entry) → List ℕ
spelled_text None = []
spelled_text (Some es) = word (short_form es)

abbrev pub spelled_list : Option (List Entry) → List (List ℕ)
spelled_list None = []
spelled_list (Some es) = short_form es ∷ []

spelled_reads : (list : Option (List Entry)) → IfSome list IsAcl → Reads (spelled_text list) (spelled_list list)
spelled_reads None h = no_words
spelled_reads (Some es) h = one_word (short_form es) (short_dark es h.valid.entries)

module _ (law : ReadsBack) where
  list_back : (es : List Entry) → IsAcl es → list_in (short_form es) ≡ Some es
  list_back es h = ap (λ (r : Result (List Entry) AclError). elim r [ Ok list ↦ Some list | Err refusal ↦ None ]) (law es h)

  -- of one that sets a list: only the owner may
  set_back : (told : Option (List Entry) → Option Grant → Told) (said : Said) (list : Option (List Entry)) (grant : Option Grant)
      → IfSome list IsAcl → (grant ≡ None) ⊎ (grant ≡ Some AsOwner)
      → list_set told (behind (said_list said ++ (if_done_list said (spelled_list list) ++ last_list said grant))) ≡ told (if_told said list) (last_told said grant)
  set_back told said list grant h (inl none) =
      ap (λ (g : Option Grant). list_set told (behind (said_list said ++ (if_done_list said (spelled_list list) ++ last_list said g)))) none
      ∙ by said list h ∙ ap (λ (g : Option Grant). told (if_told said list) (last_told said g)) (sym none)
    where
      by : (said : Said) (list : Option (List Entry)) → IfSome list IsAcl
          → list_set told (behind (said_list said ++ (if_done_list said (spelled_list list) ++ last_list said None))) ≡ told (if_told said list) (last_told said None)
      by (ToldReply Done) None h = refl
      by (ToldReply Done) (Some es) h = ap (λ (l : Option (List Entry)). told l None) (list_back es h)
      by (ToldReply NoAccount) list h = refl
      by (ToldReply (Denied reason)) list h = refl
      by (ToldReply NameTaken) list h = refl
      by (ToldReply CatalogueFull) list h = refl
      by (ToldReply (BadList error)) list h = refl
      by (Records n) list h = refl
      by (Entries n) list h = refl
      by (Names n) list h = refl
  set_back told said list grant h (inr owner) =
      ap (λ (g : Option Grant). list_set told (behind (said_list said ++ (if_done_list said (spelled_list list) ++ last_list said g)))) owner
      ∙ by said list h ∙ ap (λ (g : Option Grant). told (if_told said list) (last_told said g)) (sym owner)
    where
      by : (said : Said) (list : Option (List Entry)) → IfSome list IsAcl
          → list_set told (behind (said_list said ++ (if_done_list said (spelled_list list) ++ last_list said (Some AsOwner)))) ≡ told (if_told said list) (last_told said (Some AsOwner))
      by (ToldReply Done) None h = refl
      by (ToldReply Done) (Some es) h = ap (λ (l : Option (List Entry)). told l (Some AsOwner)) (list_back es h)
      by (ToldReply NoAccount) list h = refl
      by (ToldReply (Denied reason)) list h = refl
      by (ToldReply NameTaken) list h = refl
      by (ToldReply CatalogueFull) list h = refl
      by (ToldReply (BadList error)) list h = refl
      by (Records n) list h = refl
      by (Entries n) list h = refl
      by (Names n) list h = refl

-- THE LINE

abbrev pub card_list : Command → List (List ℕ)
card_list (Create account name mode) = codes "CREATE" ∷ name ∷ []
card_list (Delete account name) = codes "DELETE" ∷ name ∷ []
card_list (SetAcl account name text) = codes "SETACL" ∷ name ∷ []
card_list (ShowAcl account name) = codes "SHOWACL" ∷ name ∷ []
card_list (Listing account name) = codes "LIST" ∷ name ∷ []
card_list (Catalog account) = codes "CATALOG" ∷ []

named_reads : (card : List ℕ) (w name : List ℕ) → Reads card (w ∷ []) → IsName name → Reads (card ++ word name) (w ∷ name ∷ [])
named_reads card w name reads h = joined card (word name) (w ∷ []) (name ∷ []) reads (one_word name (name_word name h))

card_reads : (c : Command) → AreNamed c → Reads (card_words c) (card_list c)
card_reads (Create account name mode) h = named_reads (codes " CREATE") (codes "CREATE") name (refl, refl) h.1
card_reads (Delete account name) h = named_reads (codes " DELETE") (codes "DELETE") name (refl, refl) h.1
card_reads (SetAcl account name text) h = named_reads (codes " SETACL") (codes "SETACL") name (refl, refl) h.1
card_reads (ShowAcl account name) h = named_reads (codes " SHOWACL") (codes "SHOWACL") name (refl, refl) h.1
card_reads (Listing account name) h = named_reads (codes " LIST") (codes "LIST") name (refl, refl) h.1
card_reads (Catalog account) h = (refl, refl)

account_named : (c : Command) → AreNamed c → IsName (account_of c)
account_named (Create account name mode) h = h.0
account_named (Delete account name) h = h.0
account_named (SetAcl account name text) h = h.0
account_named (ShowAcl account name) h = h.0
account_named (Listing account name) h = h.0
account_named (Catalog account) h = h

abbrev pub command_words : List ℕ → List (List ℕ) → List (List ℕ)
command_words account ws = codes "COMMAND" ∷ codes "0" ∷ account ∷ ws

pub command_reads : (account what : List ℕ) (ws : List (List ℕ)) → IsName account → Reads what ws → IsLineOf (command_line account what) (command_words account ws)
command_reads account what ws named reads =
    line_of (command_line account what) (codes "COMMAND") (codes "0" ∷ account ∷ ws)
    (ended (codes " COMMAND 0" ++ word account ++ what) (command_words account ws)
    (joined (codes " COMMAND 0" ++ word account) what (codes "COMMAND" ∷ codes "0" ∷ account ∷ []) ws
    (joined (codes " COMMAND 0") (word account) (codes "COMMAND" ∷ codes "0" ∷ []) (account ∷ []) (refl, refl) (one_word account (name_word account named))) reads))

-- the words of what a command that is done has made or set
abbrev pub done_list : Command → Option (List Entry) → List (List ℕ)
done_list (Create account name mode) list = mode_word mode ∷ []
done_list (SetAcl account name text) list = spelled_list list
done_list (Delete account name) list = []
done_list (ShowAcl account name) list = []
done_list (Listing account name) list = []
done_list (Catalog account) list = []

mode_dark : (mode : Mode) → IsWord (mode_word mode)
mode_dark Seq = refl
mode_dark Append = refl

done_reads : (c : Command) (list : Option (List Entry)) → IfSome list IsAcl → Reads (done_words c (spelled_text list)) (done_list c list)
done_reads (Create account name mode) list h = one_word (mode_word mode) (mode_dark mode)
done_reads (SetAcl account name text) list h = spelled_reads list h
done_reads (Delete account name) list h = no_words
done_reads (ShowAcl account name) list h = no_words
done_reads (Listing account name) list h = no_words
done_reads (Catalog account) list h = no_words

abbrev pub ordered_list : Command → Said → Option (List Entry) → Option Grant → List (List ℕ)
ordered_list c said list grant = card_list c ++ (said_list said ++ (if_done_list said (done_list c list) ++ last_list said grant))

-- what is granted by what: a data set is made by no entry, a list set by its owner
abbrev pub IsGrantFor : Command → Option Grant → Type 0
IsGrantFor (Create account name mode) grant = grant ≡ None
IsGrantFor (SetAcl account name text) grant = (grant ≡ None) ⊎ (grant ≡ Some AsOwner)
IsGrantFor (Delete account name) grant = Unit {0}
IsGrantFor (ShowAcl account name) grant = Unit {0}
IsGrantFor (Listing account name) grant = Unit {0}
IsGrantFor (Catalog account) grant = Unit {0}

pub record IsSoundCommand (c : Command) (said : Said) (list : Option (List Entry)) (grant : Option Grant) : Type 0 where
  pub names : AreNamed c
  pub answer : IsSaidNamed said
  pub spelled : IfSome list IsAcl
  pub entry : IfSome grant IsGrantNamed
  pub fits : IsGrantFor c grant

pub said_line_reads : (c : Command) (said : Said) (list : Option (List Entry)) (grant : Option Grant) → IsSoundCommand c said list grant
    → IsLineOf (said_line c said (spelled_text list) grant) (command_words (account_of c) (ordered_list c said list grant))
said_line_reads c said list grant sound =
    let card = card_words c in
    let done = if_done said (done_words c (spelled_text list)) in
    let done_ws = if_done_list said (done_list c list) in
    let all = card ++ said_words said ++ done ++ last_words said grant in
    command_reads (account_of c) all (ordered_list c said list grant) (account_named c sound.names)
    (same_words all (card_list c ++ said_list said ++ done_ws ++ last_list said grant) (ordered_list c said list grant)
    (append_assoc (card_list c ++ said_list said) done_ws (last_list said grant) ∙ append_assoc (card_list c) (said_list said) (done_ws ++ last_list said grant))
    (joined (card ++ said_words said ++ done) (last_words said grant) (card_list c ++ said_list said ++ done_ws) (last_list said grant)
    (joined (card ++ said_words said) done (card_list c ++ said_list said) done_ws
    (joined card (said_words said) (card_list c) (said_list said) (card_reads c sound.names) (said_reads said sound.answer))
    (if_done_reads said (done_words c (spelled_text list)) (done_list c list) (done_reads c list sound.spelled)))
    (last_reads said grant sound.entry)))

nothing_told : {A : Type 0} (said : Said) → if_told {A = A} said None ≡ None
nothing_told (ToldReply Done) = refl
nothing_told (ToldReply NoAccount) = refl
nothing_told (ToldReply (Denied reason)) = refl
nothing_told (ToldReply NameTaken) = refl
nothing_told (ToldReply CatalogueFull) = refl
nothing_told (ToldReply (BadList error)) = refl
nothing_told (Records n) = refl
nothing_told (Entries n) = refl
nothing_told (Names n) = refl

no_grant : (said : Said) → last_told said None ≡ None
no_grant (ToldReply Done) = refl
no_grant (ToldReply NoAccount) = refl
no_grant (ToldReply (Denied reason)) = refl
no_grant (ToldReply NameTaken) = refl
no_grant (ToldReply CatalogueFull) = refl
no_grant (ToldReply (BadList error)) = refl
no_grant (Records n) = refl
no_grant (Entries n) = refl
no_grant (Names n) = refl

module _ (account : List ℕ) (order : Order) (said : Said) (named : IsSaidNamed said) where
  -- with neither a mode nor a list
  plain_back : (grant : Option Grant) → IfSome grant IsGrantNamed
      → (let rest = said_list said ++ (if_done_list said [] ++ last_list said grant) in
      ordering account order (said_in rest) None None (grant_in (behind rest))
      ≡ ordering account order (told_said said) (if_told said None) (if_told said None) (last_told said grant))
  plain_back grant h =
      ap (λ (s : Said). ordering account order s None None (grant_in (behind (said_list said ++ (if_done_list said [] ++ last_list said grant)))))
      (said_back said named (if_done_list said [] ++ last_list said grant))
      ∙ ap (λ (g : Option Grant). ordering account order (told_said said) None None g) (tail_back said grant h)
      ∙ ap (λ (m : Option Mode). ordering account order (told_said said) m None (last_told said grant)) (sym (nothing_told said))
      ∙ ap (λ (l : Option (List Entry)). ordering account order (told_said said) (if_told said None) l (last_told said grant)) (sym (nothing_told said))

  made_back : (mode : Mode)
      → (let rest = said_list said ++ (if_done_list said (mode_word mode ∷ []) ++ last_list said None) in
      ordering account order (said_in rest) (mode_in (behind rest)) None None
      ≡ ordering account order (told_said said) (if_told said (Some mode)) (if_told said None) (last_told said None))
  made_back mode =
      ap (λ (s : Said). ordering account order s (mode_in (behind (said_list said ++ (if_done_list said (mode_word mode ∷ []) ++ last_list said None)))) None None)
      (said_back said named (if_done_list said (mode_word mode ∷ []) ++ last_list said None))
      ∙ ap (λ (m : Option Mode). ordering account order (told_said said) m None None) (mode_back said mode)
      ∙ ap (λ (l : Option (List Entry)). ordering account order (told_said said) (if_told said (Some mode)) l None) (sym (nothing_told said))
      ∙ ap (λ (g : Option Grant). ordering account order (told_said said) (if_told said (Some mode)) (if_told said None) g) (sym (no_grant said))

  listed_back : (law : ReadsBack) (list : Option (List Entry)) (grant : Option Grant) → IfSome list IsAcl → (grant ≡ None) ⊎ (grant ≡ Some AsOwner)
      → (let rest = said_list said ++ (if_done_list said (spelled_list list) ++ last_list said grant) in
      list_set (ordering account order (said_in rest) None) (behind rest)
      ≡ ordering account order (told_said said) (if_told said None) (if_told said list) (last_told said grant))
  listed_back law list grant acl owner =
      ap (λ (s : Said). list_set (ordering account order s None) (behind (said_list said ++ (if_done_list said (spelled_list list) ++ last_list said grant))))
      (said_back said named (if_done_list said (spelled_list list) ++ last_list said grant))
      ∙ set_back law (ordering account order (told_said said) None) said list grant acl owner
      ∙ ap (λ (m : Option Mode). ordering account order (told_said said) m (if_told said list) (last_told said grant)) (sym (nothing_told said))

pub ordered_back : ReadsBack → (c : Command) (said : Said) (list : Option (List Entry)) (grant : Option Grant) → IsSoundCommand c said list grant
    → told_in (command_words (account_of c) (ordered_list c said list grant)) ≡ told_command c said list grant
ordered_back law (Create account name mode) said list grant sound =
    ap (λ (g : Option Grant). told_in (command_words account (ordered_list (Create account name mode) said list g))) sound.fits
    ∙ made_back account (Creates name) said sound.answer mode
    ∙ ap (λ (g : Option Grant). told_command (Create account name mode) said list g) (sym sound.fits)
ordered_back law (Delete account name) said list grant sound = plain_back account (Deletes name) said sound.answer grant sound.entry
ordered_back law (SetAcl account name text) said list grant sound = listed_back account (SetsList name) said sound.answer law list grant sound.spelled sound.fits
ordered_back law (ShowAcl account name) said list grant sound = plain_back account (ShowsList name) said sound.answer grant sound.entry
ordered_back law (Listing account name) said list grant sound = plain_back account (Lists name) said sound.answer grant sound.entry
ordered_back law (Catalog account) said list grant sound = names_back said sound.answer
  where
    -- the first word of what is answered is not SHOWN
    names_back : (s : Said) → IsSaidNamed s → told_in (command_words account (ordered_list (Catalog account) s list grant)) ≡ told_command (Catalog account) s list grant
    names_back (ToldReply Done) h = plain_back account ShowsNames (ToldReply Done) h grant sound.entry
    names_back (ToldReply NoAccount) h = plain_back account ShowsNames (ToldReply NoAccount) h grant sound.entry
    names_back (ToldReply (Denied reason)) h = plain_back account ShowsNames (ToldReply (Denied reason)) h grant sound.entry
    names_back (ToldReply NameTaken) h = plain_back account ShowsNames (ToldReply NameTaken) h grant sound.entry
    names_back (ToldReply CatalogueFull) h = plain_back account ShowsNames (ToldReply CatalogueFull) h grant sound.entry
    names_back (ToldReply (BadList error)) h = plain_back account ShowsNames (ToldReply (BadList error)) h grant sound.entry
    names_back (Records n) h = plain_back account ShowsNames (Records n) h grant sound.entry
    names_back (Entries n) h = plain_back account ShowsNames (Entries n) h grant sound.entry
    names_back (Names n) h = plain_back account ShowsNames (Names n) h grant sound.entry

-- A DATA SET THAT IS SHOWN

abbrev pub shown_text : List ℕ → List ℕ → Option Grant → List ℕ
shown_text account name grant = command_line account (codes " CATALOG SHOWN" ++ word name ++ granted_words grant)

abbrev pub shown_list : List ℕ → Option Grant → List (List ℕ)
shown_list name grant = codes "CATALOG" ∷ codes "SHOWN" ∷ name ∷ grant_list grant

pub shown_reads : (account name : List ℕ) (grant : Option Grant) → IsName account → IsName name → IfSome grant IsGrantNamed
    → IsLineOf (shown_text account name grant) (command_words account (shown_list name grant))
shown_reads account name grant by named h =
    command_reads account (codes " CATALOG SHOWN" ++ word name ++ granted_words grant) (shown_list name grant) by
    (joined (codes " CATALOG SHOWN" ++ word name) (granted_words grant) (codes "CATALOG" ∷ codes "SHOWN" ∷ name ∷ []) (grant_list grant)
    (joined (codes " CATALOG SHOWN") (word name) (codes "CATALOG" ∷ codes "SHOWN" ∷ []) (name ∷ []) (refl, refl) (one_word name (name_word name named))) (grant_reads grant h))

pub shown_back : (account name : List ℕ) (grant : Option Grant) → IfSome grant IsGrantNamed
    → told_in (command_words account (shown_list name grant)) ≡ Shows account name (option_map told_grant grant)
shown_back account name grant h = ap (Shows account name) (grant_back grant h)
