-- What is written of a catalogue is good in the next deck.
use Rattle.std.proofs.Common.{◌≡◌, ℕ, suc, ◌+◌, ◌*◌, ◌≤◌, true, cond, ◌&&◌, List, [], ◌∷◌, ◌++◌, ◌||◌, map, filter, length, None, Some, refl, sym, subst, ◌∙◌, arith, true≢false, length-append}
use Rattle.std.specs.{Prelude.{codes, decimal}, List.{list_all, join_with_byte, AllByRecursion}, Str.Lines.{lines}, Option.{unwrap_or}}
use Rattle.std.proofs.lemmas.{Bool.Decides.{nat_tests}, Fmt.{length-decimal-le}, List.Elements.{recursion_from_All}, List.Sums.{length-filter}}
use Rattle.mon_text.specs.{Names.{IsName, is_name_character}, Characters.{is_letter}, Lines.{IsLine}}
use Rattle.mon_acl.specs.declared.entries.Tag.{Tag, TheVariants.{UserObj, User, GroupObj, Group, Mask, Other}}
use Rattle.mon_acl.specs.{declared.entries.Entry.{Entry}, Entries.{IsEntry, IsAcl, has_tag, is_tag, is_named, is_qualified, qualifier, tag_word}}
use Rattle.acl_text.specs.Printing.{entry_text, entry_head, perms_text, short_form}
use Rattle.mon_access.specs.{declared.account.Account.{Account}, Accounts.{HaveDifferentNames}}
use Rattle.mon_catalogue.specs.declared.{mode.Mode.{Mode}, mode.Mode.TheVariants.{Seq, Append}, version.Version.TheVariants.{Two}}
use Rattle.mon_catalogue.specs.{declared.data_set.DataSet.{DataSet}, Modes.{mode_word}, Records.{is_record}, Sets.{Sets}}
use Rattle.mon_catalogue.specs.{Stored.{IsStored, IsStoredSet, ArePrintable}, Text.{set_line, catalogue_lines, text_of}}
use Rattle.mon_catalogue.proofs.{Back.{lines_spell}, Blanks.{both}, Bytes.{lines_of_text}, Printable.{catalogue_lines_show}}
use Rattle.deck_syntax.specs.{Laws.{deck_lines, deck_over}, Decks.{Asked, Stopped}, Spelling.{AreBlank, SpellsAccounts, SpellsStream, IsDeck}}
use Rattle.deck_syntax.proofs.Spelled.{blank_is_line}
use Rattle.deck_lines.specs.CardLines.{IsLineWithin}

-- ---- how long the lines of a catalogue are

name_fits : (name : List ℕ) → IsName name → length name ≤ 31
name_fits [] is = absurd (true≢false (sym is))
name_fits (c ∷ cs) is = let few = (both (is_letter c && list_all is_name_character cs) _ is).1 in grind (arith, nat_tests, few)

word_fits : (t : Tag) → length (tag_word t) ≤ 5
word_fits UserObj = omega arith
word_fits User = omega arith
word_fits GroupObj = omega arith
word_fits Group = omega arith
word_fits Mask = omega arith
word_fits Other = omega arith

qualifier_fits : (e : Entry) → IsEntry e → length (qualifier e) ≤ 31
qualifier_fits e is = by e.tag e.name is
  where
    by : (t : Tag) (name : _) → is_qualified t name ≡ true → length (unwrap_or name []) ≤ 31
    by UserObj None h = omega arith
    by UserObj (Some name) h = absurd (true≢false (sym h))
    by User None h = omega arith
    by User (Some name) h = name_fits name h
    by GroupObj None h = omega arith
    by GroupObj (Some name) h = absurd (true≢false (sym h))
    by Group None h = omega arith
    by Group (Some name) h = name_fits name h
    by Mask None h = omega arith
    by Mask (Some name) h = absurd (true≢false (sym h))
    by Other None h = omega arith
    by Other (Some name) h = absurd (true≢false (sym h))

entry_fits : (e : Entry) → IsEntry e → length (entry_text e) ≤ 41
entry_fits e is =
    let word = word_fits e.tag in
    let name = qualifier_fits e is in
    let all = length-append (entry_head e) (perms_text e.perms) in
    let head = length-append (tag_word e.tag ++ 58 ∷ qualifier e) (58 ∷ []) in
    let front = length-append (tag_word e.tag) (58 ∷ qualifier e) in
    omega (arith, word, name, all, head, front)

entries_fit : (es : List Entry) → AllByRecursion IsEntry es → length (join_with_byte 44 (map entry_text es)) ≤ 42 * length es
entries_fit [] are = omega arith
entries_fit (e ∷ []) (is, are) = let one = entry_fits e is in omega (arith, one)
entries_fit (e ∷ d ∷ es) (is, are) =
    let one = entry_fits e is in
    let others = entries_fit (d ∷ es) are in
    omega (arith, one, others, length-append (entry_text e) (44 ∷ join_with_byte 44 (map entry_text (d ∷ es))))

-- each entry is of one of five kinds
by_kind : (es : List Entry) → length es
    ≤ length (filter (has_tag UserObj) es) + length (filter is_named es) + length (filter (has_tag GroupObj) es) + length (filter (has_tag Mask) es) + length (filter (has_tag Other) es)
by_kind [] = omega arith
by_kind (e ∷ es) = by e.tag (filter (has_tag UserObj) es) (filter is_named es) (filter (has_tag GroupObj) es) (filter (has_tag Mask) es) (filter (has_tag Other) es) (by_kind es)
  where
    by : (t : Tag) (owner named group mask other : List Entry) → length es ≤ length owner + length named + length group + length mask + length other
        → suc (length es)
        ≤ length (cond (is_tag t UserObj) (e ∷ owner) owner) + length (cond (is_tag t User || is_tag t Group) (e ∷ named) named) + length (cond (is_tag t GroupObj) (e ∷ group) group)
        + length (cond (is_tag t Mask) (e ∷ mask) mask) + length (cond (is_tag t Other) (e ∷ other) other)
    by UserObj owner named group mask other h = omega (arith, h)
    by User owner named group mask other h = omega (arith, h)
    by GroupObj owner named group mask other h = omega (arith, h)
    by Group owner named group mask other h = omega (arith, h)
    by Mask owner named group mask other h = omega (arith, h)
    by Other owner named group mask other h = omega (arith, h)

few_entries : (es : List Entry) → IsAcl es → length es ≤ 104
few_entries es is =
    let all = by_kind es in
    let owner = length-filter (has_tag UserObj) es ∙ is.valid.owner in
    let group = length-filter (has_tag GroupObj) es ∙ is.valid.owning_group in
    let other = length-filter (has_tag Other) es ∙ is.valid.other in
    let named = length-filter is_named es in
    let mask = length-filter (has_tag Mask) es in
    let few_masks = is.valid.one_mask in
    let few_named = is.valid.few in
    omega (arith, all, owner, group, other, named, mask, few_masks, few_named)

list_fits : (es : List Entry) → IsAcl es → length (short_form es) ≤ 5000
list_fits es is =
    let text = entries_fit es (recursion_from_All IsEntry es is.valid.entries) in
    let few = few_entries es is in
    omega (arith, text, few)

-- a mode is a short word
mode_fits : (mode : Mode) → length (mode_word mode) ≤ 6
mode_fits Seq = omega arith
mode_fits Append = omega arith

head_fits : (named : List ℕ × DataSet) → IsStoredSet named → length (set_line named.0 named.1) ≤ 5000
head_fits named (name, owner, group, list, records) =
    let a = name_fits named.0 name in
    let b = name_fits named.1.owner owner in
    let c = name_fits named.1.group group in
    let d = mode_fits named.1.mode in
    let digits = length-decimal-le 6 (length named.1.records) (omega arith) (omega (arith, records.0)) (omega (arith, records.0)) in
    let one = length-append (codes "$SET ") named.0 in
    let two = length-append (codes "$SET " ++ named.0) (codes " ") in
    let three = length-append (codes "$SET " ++ named.0 ++ codes " ") named.1.owner in
    let four = length-append (codes "$SET " ++ named.0 ++ codes " " ++ named.1.owner) (codes " ") in
    let five = length-append (codes "$SET " ++ named.0 ++ codes " " ++ named.1.owner ++ codes " ") named.1.group in
    let six = length-append (codes "$SET " ++ named.0 ++ codes " " ++ named.1.owner ++ codes " " ++ named.1.group) (codes " ") in
    let seven = length-append (codes "$SET " ++ named.0 ++ codes " " ++ named.1.owner ++ codes " " ++ named.1.group ++ codes " ") (mode_word named.1.mode) in
    let eight = length-append (codes "$SET " ++ named.0 ++ codes " " ++ named.1.owner ++ codes " " ++ named.1.group ++ codes " " ++ mode_word named.1.mode) (codes " ") in
    let all = length-append (codes "$SET " ++ named.0 ++ codes " " ++ named.1.owner ++ codes " " ++ named.1.group ++ codes " " ++ mode_word named.1.mode ++ codes " ") (decimal (length named.1.records)) in
    omega (arith, a, b, c, d, digits, one, two, three, four, five, six, seven, eight, all)

records_fit : (records : List (List ℕ)) → list_all is_record records ≡ true → AllByRecursion IsLine records → AllByRecursion (IsLineWithin 5000) records
records_fit [] are shown = tt
records_fit (line ∷ records) are (shown, others) =
    let parts = both (is_record line) (list_all is_record records) are in
    let short = parts.0 in
    ((grind (arith, nat_tests, short), shown), records_fit records parts.1 others)

-- the first of some lines, and the others
all_of : (ls ms : List (List ℕ)) → AllByRecursion IsLine (ls ++ ms) → AllByRecursion IsLine ls × AllByRecursion IsLine ms
all_of [] ms are = (tt, are)
all_of (l ∷ ls) ms (is, are) = let rest = all_of ls ms are in ((is, rest.0), rest.1)

both_fit : (ls ms : List (List ℕ)) → AllByRecursion (IsLineWithin 5000) ls → AllByRecursion (IsLineWithin 5000) ms → AllByRecursion (IsLineWithin 5000) (ls ++ ms)
both_fit [] ms these others = others
both_fit (l ∷ ls) ms (is, these) others = (is, both_fit ls ms these others)

pub lines_fit : (sets : Sets) → AllByRecursion IsStoredSet sets → AllByRecursion IsLine (catalogue_lines sets) → AllByRecursion (IsLineWithin 5000) (catalogue_lines sets)
lines_fit [] stored shown = tt
lines_fit (named ∷ sets) (is, stored) (head, (list, rest)) =
    let parts = all_of named.1.records (catalogue_lines sets) rest in (
      (head_fits named is, head),
      ((list_fits named.1.acl is.3, list), both_fit named.1.records (catalogue_lines sets) (records_fit named.1.records is.4.1 parts.0) (lines_fit sets stored parts.1)),
    )

-- ---- the deck

-- the lines of an account table are printable
blanks_show : (blanks : List (List ℕ)) → AreBlank blanks → AllByRecursion IsLine blanks
blanks_show [] are = tt
blanks_show (line ∷ blanks) (is, are) = (blank_is_line line is.1, blanks_show blanks are)

both_show : (ls ms : List (List ℕ)) → AllByRecursion IsLine ls → AllByRecursion IsLine ms → AllByRecursion IsLine (ls ++ ms)
both_show [] ms these others = others
both_show (l ∷ ls) ms (is, these) others = (is, both_show ls ms these others)

table_shows : (accounts : List Account) (table : List (List ℕ)) → SpellsAccounts table accounts → AllByRecursion IsLine table
table_shows [] table are = blanks_show table are
table_shows (account ∷ accounts) table (blanks, line, rest, are, blanks_are, is, others) =
    subst (AllByRecursion IsLine) (sym are) (both_show blanks (line ∷ rest) (blanks_show blanks blanks_are) (is.line_is.1, table_shows accounts rest others))

module _ (table : List (List ℕ)) (accounts : List Account) (sets : Sets) (are : SpellsAccounts table accounts) (differ : HaveDifferentNames accounts)
    (stored : IsStored sets) (printable : ArePrintable sets) where
  shown : AllByRecursion IsLine (catalogue_lines sets)
  shown = catalogue_lines_show sets stored.1 printable

  -- and any stream behind it
  pub good_deck : (stream : List (List ℕ)) (asked : List Asked) → SpellsStream stream asked
      → IsDeck (codes "$ACCOUNTS" ∷ table ++ (codes "$CATALOGUE 2" ∷ catalogue_lines sets ++ (codes "$STREAM" ∷ stream ++ codes "$STOP" ∷ [])))
      (record { accounts = accounts; catalogue = sets; cards = record { asked = asked; ending = Stopped } })
  good_deck stream asked spelled = record {
    blanks = [];
    accounts_card = codes "$ACCOUNTS";
    table = table;
    catalogue_card = codes "$CATALOGUE 2";
    version = Two;
    text = catalogue_lines sets;
    stream_card = codes "$STREAM";
    stream = stream;
    stop_card = codes "$STOP";
    unread = [];
    lines_are = refl;
    blanks_are = tt;
    accounts_begin = record { word = codes "$ACCOUNTS"; line_is = (omega arith, refl); words_are = refl; names_it = refl };
    table_is = are;
    names_differ = differ;
    catalogue_begins = record { word = codes "$CATALOGUE"; line_is = (omega arith, refl); words_are = refl; names_it = refl };
    at_once = refl;
    text_is = lines_spell sets stored;
    text_fits = lines_fit sets stored.1 shown;
    stream_begins = record { word = codes "$STREAM"; line_is = (omega arith, refl); words_are = refl; names_it = refl };
    stream_is = spelled;
    stops = record { word = codes "$STOP"; line_is = (omega arith, refl); words_are = refl; names_it = refl };
    ends = refl;
  }

  pub comes_back : IsDeck (deck_lines table sets) (deck_over accounts sets) × IsDeck (lines (text_of (deck_lines table sets))) (deck_over accounts sets)
  comes_back =
      let good : IsDeck (deck_lines table sets) (deck_over accounts sets) = good_deck [] [] tt in
      let cards : AllByRecursion IsLine (codes "$STREAM" ∷ codes "$STOP" ∷ []) = (refl, (refl, tt)) in
      let all : AllByRecursion IsLine (deck_lines table sets) = (
        refl,
        both_show table (codes "$CATALOGUE 2" ∷ catalogue_lines sets ++ codes "$STREAM" ∷ codes "$STOP" ∷ []) (table_shows accounts table are)
            (refl, both_show (catalogue_lines sets) (codes "$STREAM" ∷ codes "$STOP" ∷ []) shown cards),
      ) in
      (good, subst (λ (ls : List (List ℕ)). IsDeck ls (deck_over accounts sets)) (sym (lines_of_text (deck_lines table sets) all)) good)
