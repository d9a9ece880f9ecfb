-- A round's deck, written with LF behind each line, is read as the same lines.
use Rattle.std.proofs.Common.{◌≡◌, ℕ, Bool, true, false, ◌||◌, List, [], ◌∷◌, ◌++◌, refl, sym, subst, ◌==◌}
use Rattle.std.specs.{Prelude.{codes}, List.{list_all, AllByRecursion}, Str.Lines.{lines}}
use Rattle.mon_text.{specs.Characters.{is_printable}, specs.Lines.{IsLine}, proofs.WrittenLines.{lines_written}}
use Rattle.acl_text.specs.declared.text.AclText.TheVariants.{Short, Long}
use Rattle.mon_access.specs.declared.account.Account.{Account}
use Rattle.mon_catalogue.specs.{Sets.{Sets}, Stored.{IsStored, ArePrintable}, Text.{text_of, catalogue_lines}}
use Rattle.mon_catalogue.proofs.{Blanks.{both}, Printable.{catalogue_lines_show}}
use Rattle.deck_syntax.specs.{declared.job_deck.UnitCard.{UnitCard}, Decks.{Asked, Commands, Enters, Gives, Drains}, Requests.{is_list_character}}
use Rattle.deck_syntax.specs.{Spelling.{AreBlank, SpellsAccounts, IsListLine, SpellsCommand, SpellsAsked, SpellsStream}, JobSpelling.{SpellsUnits, SpellsTexts}}
use Rattle.deck_syntax.proofs.Spelled.{both_hold, blank_is_line}
use Rattle.deck_lines.specs.declared.command.Command.{Command}
use Rattle.deck_lines.specs.declared.command.Command.TheVariants as command
use Rattle.preflight.specs.Rounds.{Handed, AreHanded, stream_lines, round_lines}

-- ---- lines without line ends in them

abbrev pub IsWritable : List ℕ → Type 0
IsWritable line = list_all is_list_character line ≡ true

pub lines_of_writable : (ls : List (List ℕ)) → AllByRecursion IsWritable ls → lines (text_of ls) ≡ ls
lines_of_writable ls are = lines_written is_list_character refl refl ls are

-- ---- the lines of a text

either : (a b : Bool) → b ≡ true → (a || b) ≡ true
either true b h = refl
either false b h = h

weaker : (line : List ℕ) → list_all is_printable line ≡ true → IsWritable line
weaker [] h = refl
weaker (c ∷ cs) h =
    let p = both (is_printable c) (list_all is_printable cs) h in
    both_hold (is_list_character c) (list_all is_list_character cs) (either (c == 9) (is_printable c) p.0) (weaker cs p.1)

pub both_writable : (ls ms : List (List ℕ)) → AllByRecursion IsWritable ls → AllByRecursion IsWritable ms → AllByRecursion IsWritable (ls ++ ms)
both_writable [] ms these others = others
both_writable (l ∷ ls) ms (is, these) others = (is, both_writable ls ms these others)

pub all_weaker : (ls : List (List ℕ)) → AllByRecursion IsLine ls → AllByRecursion IsWritable ls
all_weaker [] are = tt
all_weaker (l ∷ ls) (is, are) = (weaker l is, all_weaker ls are)

blanks_writable : (blanks : List (List ℕ)) → AreBlank blanks → AllByRecursion IsWritable blanks
blanks_writable [] are = tt
blanks_writable (line ∷ blanks) (is, are) = (weaker line (blank_is_line line is.1), blanks_writable blanks are)

list_writable : (list : List (List ℕ)) → AllByRecursion IsListLine list → AllByRecursion IsWritable list
list_writable [] are = tt
list_writable (line ∷ list) (is, are) = (is.1, list_writable list are)

units_writable : (ls : List (List ℕ)) (ties : List UnitCard) → SpellsUnits ls ties → AllByRecursion IsWritable ls
units_writable [] [] are = tt
units_writable [] (tie ∷ ties) are = absurd are
units_writable (line ∷ ls) [] are = absurd are
units_writable (line ∷ ls) (tie ∷ ties) (is, are) = (weaker line is.card_is.line_is.1, units_writable ls ties are)

texts_writable : (ls texts : List (List ℕ)) → SpellsTexts ls texts → AllByRecursion IsWritable ls
texts_writable [] [] are = tt
texts_writable [] (text ∷ texts) are = absurd are
texts_writable (line ∷ ls) [] are = absurd are
texts_writable (line ∷ ls) (text ∷ texts) (is, are) = (weaker line is.0.1, texts_writable ls texts are)

-- a card, with no line of its own behind it
alone : (line : List ℕ) (more : List (List ℕ)) → more ≡ [] → list_all is_printable line ≡ true → AllByRecursion IsWritable (line ∷ more)
alone line more none is = subst (λ (ls : List (List ℕ)). AllByRecursion IsWritable (line ∷ ls)) (sym none) (weaker line is, tt)

command_writable : (line : List ℕ) (more : List (List ℕ)) (asked : Command) → SpellsCommand line more asked → AllByRecursion IsWritable (line ∷ more)
command_writable line more (command.Create account name mode) (is, none) = alone line more none is.card_is.line_is.1
command_writable line more (command.Delete account name) (is, none) = alone line more none is.0.line_is.1
command_writable line more (command.ShowAcl account name) (is, none) = alone line more none is.0.line_is.1
command_writable line more (command.List account name) (is, none) = alone line more none is.0.line_is.1
command_writable line more (command.Catalog account) (is, none) = alone line more none is.0.line_is.1
command_writable line more (command.SetAcl account name (Short text)) (is, none) = alone line more none is.card_is.line_is.1
command_writable line more (command.SetAcl account name (Long text)) (is, long) = (
  weaker line is.0.line_is.1,
  subst (AllByRecursion IsWritable) (sym long.lines_are)
      (both_writable long.list (long.end_card ∷ []) (list_writable long.list long.list_is) (weaker long.end_card long.ends.line_is.1, tt)),
)

asked_writable : (line : List ℕ) (more : List (List ℕ)) (one : Asked) → SpellsAsked line more one → AllByRecursion IsWritable (line ∷ more)
asked_writable line more (Commands asked) is = command_writable line more asked is
asked_writable line more (Enters job) is = (
  weaker line is.card_is.line_is.1,
  subst (AllByRecursion IsWritable) (sym is.lines_are)
      (both_writable is.unit_lines (is.program ++ is.end_card ∷ []) (units_writable is.unit_lines job.ties is.units_are)
      (both_writable is.program (is.end_card ∷ []) (texts_writable is.program job.lines is.program_is) (weaker is.end_card is.ends.line_is.1, tt))),
)
asked_writable line more (Gives turn) (is, none) = alone line more none is.card_is.line_is.1
asked_writable line more Drains (is, none) = alone line more none is.line_is.1

pub stream_writable : (asked : List Asked) (ls : List (List ℕ)) → SpellsStream ls asked → AllByRecursion IsWritable ls
stream_writable [] ls are = blanks_writable ls are
stream_writable (one ∷ asked) ls (blanks, line, more, rest, are, blanks_are, is, others) =
    subst (AllByRecursion IsWritable) (sym are)
    (both_writable blanks (line ∷ more ++ rest) (blanks_writable blanks blanks_are)
    (both_writable (line ∷ more) rest (asked_writable line more one is) (stream_writable asked rest others)))

pub texts_all : (texts : List Handed) → AreHanded texts → AllByRecursion IsWritable (stream_lines texts)
texts_all [] are = tt
texts_all (text ∷ texts) (is, are) =
    both_writable text.lines (codes "$DRAIN" ∷ stream_lines texts) (stream_writable text.asked text.lines is.spelled) (refl, texts_all texts are)

pub table_writable : (accounts : List Account) (table : List (List ℕ)) → SpellsAccounts table accounts → AllByRecursion IsWritable table
table_writable [] table are = blanks_writable table are
table_writable (account ∷ accounts) table (blanks, line, rest, are, blanks_are, is, others) =
    subst (AllByRecursion IsWritable) (sym are)
    (both_writable blanks (line ∷ rest) (blanks_writable blanks blanks_are) (weaker line is.line_is.1, table_writable accounts rest others))

pub round_reads : (table : List (List ℕ)) (accounts : List Account) (sets : Sets) (texts : List Handed)
    → SpellsAccounts table accounts → IsStored sets → ArePrintable sets → AreHanded texts
    → lines (text_of (round_lines table sets texts)) ≡ round_lines table sets texts
round_reads table accounts sets texts are stored printable handed =
    lines_of_writable (round_lines table sets texts) (
      refl,
      both_writable table (codes "$CATALOGUE 2" ∷ catalogue_lines sets ++ (codes "$STREAM" ∷ stream_lines texts ++ codes "$STOP" ∷ [])) (table_writable accounts table are) (
        refl,
        both_writable (catalogue_lines sets) (codes "$STREAM" ∷ stream_lines texts ++ codes "$STOP" ∷ []) (all_weaker (catalogue_lines sets) (catalogue_lines_show sets stored.1 printable)) (
          refl,
          both_writable (stream_lines texts) (codes "$STOP" ∷ []) (texts_all texts handed) (refl, tt),
        ),
      ),
    )
