-- The definitions at worked cases.
use Rattle.std.proofs.Common.{subst, sym}
use Rattle.std.specs.{Prelude.{◌≡◌, ℕ, true, false, List, [], ◌∷◌, ◌++◌, Some, None, codes, refl, replicate}, Fmt.{digits}, Str.Lines.{lines}}
use Rattle.mon_acl.specs.declared.entries.{Entry.{Entry}, Tag.TheVariants.{UserObj, GroupObj, Other}}
use Rattle.mon_access.specs.{declared.account.Account.{Account}, AccessCheck.{decision}, Accounts.{find_account}}
use Rattle.mon_catalogue.specs.{declared.mode.Mode.TheVariants.{Seq}, Sets.{Sets}}
use Rattle.interaction.specs.declared.answer.Reason.TheVariants.{By, NoSet}
use Rattle.mon_command.specs.{declared.reply.Reply.TheVariants.{Denied}, Commanded.{Told}}
use Rattle.mon_command.specs.Commanded as commands
use Rattle.scheduler.specs.Marks.{Marks}
use Rattle.mon_monitor.specs.{History.{Entry as AnEntry, Ordered, history}, Turns.{Stage, BringInOrder}}
use Rattle.deck_lines.specs.declared.card.Card.TheVariants as card
use Rattle.deck_lines.specs.declared.deck_error.DeckError.TheVariants.{BadName, BadCharacter, AccountTwice, UnknownCard, BadCard, OutOfPlace, Truncated}
use Rattle.deck_lines.specs.{Cards.{card_of}, Refusing.{line_refusal, lone_card_refusal}}
use Rattle.deck_syntax.specs.{Decks.{Commands, Stopped, Refused}, Sections.{account_refusal, deck_of}, Requests.{two_names_refusal, request_on}}
use Rattle.deck_syntax.specs.declared.request.Request.TheVariants.{Asks, OpensList}
use Rattle.deck_run.specs.{Laws.{printout}, Runs.{deck_ending, counts_of}, Headline.{history_of}}
use Rattle.acl_text.specs.declared.text.AclText.TheVariants.{Short, Long}
use Rattle.deck_lines.specs.declared.command.Command.TheVariants as command
use Rattle.deck_driver.specs.{declared.options.Options.{Options}, RunStates.{opening, events_in}}

stop_card : card_of (codes "$STOP") ≡ Some card.Stop
stop_card = refl

no_small_letters : card_of (codes "$stop") ≡ None
no_small_letters = refl

no_tab_in_a_line : line_refusal 200 (codes "anna\tadmin") ≡ Some BadCharacter
no_tab_in_a_line = refl

another_card_is_out_of_place : lone_card_refusal card.Stream (codes "$STOP" ∷ codes "now" ∷ []) ≡ Some OutOfPlace
another_card_is_out_of_place = refl

no_card : lone_card_refusal card.Stream (codes "$FOO" ∷ []) ≡ Some UnknownCard
no_card = refl

a_word_too_many : lone_card_refusal card.Stop (codes "$STOP" ∷ codes "now" ∷ []) ≡ Some BadCard
a_word_too_many = refl

abbrev anna : Account
anna = record { name = codes "anna"; primary = codes "admin"; groups = [] }

too_few_words_before_a_bad_name : account_refusal [] (codes "2anna" ∷ []) ≡ Some BadCard
too_few_words_before_a_bad_name = refl

a_bad_name_before_an_account_twice : account_refusal (anna ∷ []) (codes "anna" ∷ codes "9g" ∷ []) ≡ Some BadName
a_bad_name_before_an_account_twice = refl

an_account_twice : account_refusal (anna ∷ []) (codes "anna" ∷ codes "ops" ∷ []) ≡ Some AccountTwice
an_account_twice = refl

a_card_of_two_words : two_names_refusal (codes "$LIST" ∷ codes "lisa" ∷ []) ≡ Some BadCard
a_card_of_two_words = refl

the_empty_deck : deck_ending [] ≡ Refused 1 Truncated
the_empty_deck = refl

the_least_deck : deck_ending (codes "$ACCOUNTS\n$CATALOGUE\n\r\n$STREAM\n$STOP") ≡ Stopped
the_least_deck = refl

a_deck_without_stop : deck_ending (codes "$ACCOUNTS\n$CATALOGUE\n$STREAM\n") ≡ Refused 4 Truncated
a_deck_without_stop = refl

a_card_out_of_place : deck_ending (codes "$ACCOUNTS\n$STREAM\n") ≡ Refused 2 OutOfPlace
a_card_out_of_place = refl

the_text_of_a_list : request_on (codes "$SETACL anna  X u::r, g::,o:: ") ≡ Asks (command.SetAcl (codes "anna") (codes "X") (Short (codes " u::r, g::,o:: ")))
the_text_of_a_list = refl

the_lines_of_a_list_follow : request_on (codes "$SETACL anna X ") ≡ OpensList (codes "anna") (codes "X")
the_lines_of_a_list_follow = refl

a_list_in_lines : (let deck = deck_of (lines (codes "$ACCOUNTS\n$CATALOGUE\n$STREAM\n$SETACL anna X\n\tu::r\n\n$ENDACL\n$STOP")) in deck.cards.asked) ≡ Commands (command.SetAcl (codes "anna") (codes "X") (Long (codes "\tu::r\n\n"))) ∷ []
a_list_in_lines = refl

a_card_within_a_list : deck_ending (codes "$ACCOUNTS\n$CATALOGUE\n$STREAM\n$SETACL anna X\n$LIST anna X\n") ≡ Refused 5 OutOfPlace
a_card_within_a_list = refl

a_job_that_is_left_open : deck_ending (codes "$ACCOUNTS\n$CATALOGUE\n$STREAM\n$JOB anna\n OUTPUT = 'A'\nEND\n$STOP\n") ≡ Refused 7 OutOfPlace
a_job_that_is_left_open = refl

jobs_and_commands : counts_of (codes "$ACCOUNTS\n$CATALOGUE\n$STREAM\n$JOB anna\n OUTPUT = 'A'\nEND\n$EOJ\n$TURN 1 3\n$CATALOG anna\n$DRAIN\n$STOP\n") ≡ record { jobs = 1; commands = 1 }
jobs_and_commands = refl

-- user::rwx,group::---,other::---
abbrev owner_alone : List Entry
owner_alone =
    record { tag = UserObj; name = None; perms = record { read = true; write = true; execute = true } }
    ∷ record { tag = GroupObj; name = None; perms = record { read = false; write = false; execute = false } }
    ∷ record { tag = Other; name = None; perms = record { read = false; write = false; execute = false } } ∷ []

-- anna's data set of one record
abbrev one_set : Sets
one_set = (codes "X", record { owner = codes "anna"; group = codes "admin"; mode = Seq; acl = owner_alone; records = codes "one" ∷ [] }) ∷ []

abbrev hugo : Account
hugo = record { name = codes "hugo"; primary = codes "ops"; groups = [] }

-- what a card prints, of an account and a name
abbrev printed : List ℕ → List ℕ → List ℕ
printed account name = printout (anna ∷ hugo ∷ []) one_set (command.List account name)

the_owner_sees_the_record : printed (codes "anna") (codes "X") ≡ codes "LIST anna X\n one\nRECORDS 1\n"
unfolding decision digits
the_owner_sees_the_record = refl

others_are_denied : printed (codes "hugo") (codes "X") ≡ codes "LIST hugo X\nDENIED BY other::\n"
unfolding decision
others_are_denied = refl

a_missing_set : printed (codes "anna") (codes "GONE") ≡ codes "LIST anna GONE\nDENIED NO DATA SET\n"
a_missing_set = refl

an_unknown_account : printed (codes "lisa") (codes "X") ≡ codes "LIST lisa X\nREFUSED M2 NO ACCOUNT\n"
an_unknown_account = refl

-- the deck of the README, `examples/payroll.deck`
abbrev payroll : List ℕ
payroll =
    codes "$ACCOUNTS\nanna admin\nlisa staff\nhugo ops staff\n$CATALOGUE\n$SET PAYROLL anna admin 3\nuser::rwx,user:lisa:rw-,group::r--,mask::r--,other::---\n"
    ++ codes "ADA 100\nBOB 200\n\n$STREAM\n$LIST lisa PAYROLL\n$LIST hugo PAYROLL\n$LIST anna GONE\n$STOP\n"

abbrev lists : List ℕ → List ℕ → commands.Answer → AnEntry
lists account name answer =
    let deck = deck_of (lines payroll) in Ordered (find_account deck.accounts account) deck.catalogue (command.List account name) answer

-- Its history, with four slots: three records; denied by `other::---`; and denied, as there is no such data set.
abbrev payroll_listed : List AnEntry
payroll_listed =
    lists (codes "lisa") (codes "PAYROLL") (commands.Records (codes "ADA 100" ∷ codes "BOB 200" ∷ [] ∷ []))
    ∷ lists (codes "hugo") (codes "PAYROLL") (Told (Denied (By Other None)))
    ∷ lists (codes "anna") (codes "GONE") (Told (Denied NoSet)) ∷ []

the_history_of_payroll : (options : Options) (m : Marks) → options.slots.number ≡ 4 → history_of options m payroll ≡ payroll_listed
unfolding decision
the_history_of_payroll options m is =
    subst (λ (n : ℕ). (let run_state = opening n (deck_of (lines payroll)) in history (events_in 0 run_state) m run_state.system ≡ payroll_listed)) (sym is) refl

-- four empty slots
abbrev stage : Marks → Stage
stage m = record { seats = replicate 4 None; marks = m }

-- The cards bring it in their order: each `$LIST` one entry, and `$STOP` no turn, as no job is there.
payroll_in_order : (m : Marks) → (let deck = deck_of (lines payroll) in BringInOrder deck.accounts (events_in 0 (opening 4 deck)) (stage m) payroll_listed (stage m))
payroll_in_order m =
    let deck = deck_of (lines payroll) in
    let lisa = commands.Records (codes "ADA 100" ∷ codes "BOB 200" ∷ [] ∷ []) in
    let hugo_is_denied = Told (Denied (By Other None)) in
    let none_there = Told (Denied NoSet) in
    let one = lists (codes "lisa") (codes "PAYROLL") lisa in
    let two = lists (codes "hugo") (codes "PAYROLL") hugo_is_denied in
    let three = lists (codes "anna") (codes "GONE") none_there in (
      one ∷ [],
      two ∷ three ∷ [],
      stage m,
      refl,
      (find_account deck.accounts (codes "lisa"), deck.catalogue, lisa, refl, refl),
      (
        two ∷ [],
        three ∷ [],
        stage m,
        refl,
        (find_account deck.accounts (codes "hugo"), deck.catalogue, hugo_is_denied, refl, refl),
        (three ∷ [], [], stage m, refl, (find_account deck.accounts (codes "anna"), deck.catalogue, none_there, refl, refl), ([], [], stage m, refl, ([], refl, (refl, refl)), (refl, refl))),
      ),
    )
