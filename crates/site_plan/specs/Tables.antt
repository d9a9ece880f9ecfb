-- The account table of a site (own): the lines that stand in a deck behind `$ACCOUNTS`, the last one ended or not.
use Rattle.std.specs.Prelude.{ℕ, ◌+◌, ◌==◌, List, [], ◌∷◌, ◌++◌, Result, Ok, Err, length, if◌then◌else◌}
use Rattle.std.specs.Option.{option_or, option_map_or}
use Rattle.std.specs.List.{flat_map}
use Rattle.std.specs.Str.Lines.{lines}
use Rattle.mon_access.specs.declared.account.Account.{Account}
use Rattle.deck_lines.specs.Refusing.{line_refusal, is_dollar_line}
use Rattle.deck_syntax.specs.Sections.{accounts_refusal, table_after}
use Rattle.site_plan.specs.declared.table.TableFault.{TableFault}
use Rattle.site_plan.specs.declared.table.TableFault.TheVariants.{Line, Heading, NoAccount}
use Rattle.site_plan.specs.Walks.{and_then, walked}

abbrev pub after_line : List Account → List ℕ → Result (List Account) TableFault
after_line accounts line =
    option_map_or (λ code. Err (Line code)) (option_or (line_refusal 200 line) (accounts_refusal accounts line))
    (if is_dollar_line line then Err Heading else Ok (table_after accounts line))

-- lines as they stand in a deck, each ended by a line feed
abbrev pub ended_lines : List (List ℕ) → List ℕ
ended_lines lines = flat_map (λ line. line ++ 10 ∷ []) lines

-- there is one at the least: where none is, one is missed behind so many lines
abbrev pub if_any : ℕ → List Account → Result (List Account) (ℕ × TableFault)
if_any count accounts = if length accounts == 0 then Err (count + 1, NoAccount) else Ok accounts

-- the accounts of a table, or its first line that is wrong, and why
abbrev pub table_of : List ℕ → Result (List Account) (ℕ × TableFault)
table_of text = and_then (walked after_line 1 [] (lines text)) (if_any (length (lines text)))
