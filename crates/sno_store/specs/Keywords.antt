-- Keywords (the SNOBOL4 book, chapter 6; limits, first values, ranges and faults are own).
use Rattle.std.specs.Prelude.{ℕ, ℤ, pos, nat_le, Bool, true, false, List, codes, bytes_eq, Option, Result, Ok, Err, if◌then◌else◌, [], ◌∷◌}
use Rattle.std.specs.Map.{lookup}
use Rattle.sno_text.specs.declared.fault.Fault.{Fault}
use Rattle.sno_text.specs.declared.fault.Fault.TheVariants as fault
use Rattle.sno_store.specs.declared.keyword.Keyword.{Keyword}
use Rattle.sno_store.specs.declared.keyword.Keywords.{Keywords}
use Rattle.sno_store.specs.declared.keyword.Keyword.TheVariants.{Anchor, FullScan, Trim, StatementLimit, MaximumLength, StatementCount, StatementNumber, FunctionLevel}

-- at first, in a job that may begin so many statements
abbrev pub first_keywords : ℕ → Keywords
first_keywords limit = record { anchor = pos 0; full_scan = pos 0; trim = pos 0; statement_limit = limit; maximum_length = 5000; begun = 0; statement = 0 }

-- the keywords, by their names
abbrev pub keywords : List (List ℕ × Keyword)
keywords =
    (codes "ANCHOR", Anchor) ∷ (codes "FULLSCAN", FullScan) ∷ (codes "TRIM", Trim) ∷ (codes "STLIMIT", StatementLimit) ∷ (codes "MAXLNGTH", MaximumLength)
    ∷ (codes "STCOUNT", StatementCount) ∷ (codes "STNO", StatementNumber) ∷ (codes "FNCLEVEL", FunctionLevel) ∷ []

abbrev pub keyword_named : List ℕ → Option Keyword
keyword_named name = lookup (bytes_eq name) keywords

-- the value of a keyword, so many calls deep
abbrev pub keyword_value : Keyword → ℕ → Keywords → ℤ
keyword_value Anchor level k = k.anchor
keyword_value FullScan level k = k.full_scan
keyword_value Trim level k = k.trim
keyword_value StatementLimit level k = pos k.statement_limit
keyword_value MaximumLength level k = pos k.maximum_length
keyword_value StatementCount level k = pos k.begun
keyword_value StatementNumber level k = pos k.statement
keyword_value FunctionLevel level k = pos level

-- whether a program may set it
abbrev pub is_settable : Keyword → Bool
is_settable keyword = elim keyword [ StatementCount ↦ false | StatementNumber ↦ false | FunctionLevel ↦ false | _ ↦ true ]

-- a limit is not negative, and that of characters is at most 100,000
abbrev pub with_keyword : Keyword → ℤ → Keywords → Result Keywords Fault
with_keyword Anchor z k = Ok (record k { anchor = z })
with_keyword FullScan z k = Ok (record k { full_scan = z })
with_keyword Trim z k = Ok (record k { trim = z })
with_keyword StatementLimit (pos n) k = Ok (record k { statement_limit = n })
with_keyword MaximumLength (pos n) k = if nat_le n 100000 then Ok (record k { maximum_length = n }) else Err fault.Keyword
with_keyword _ z k = Err fault.Keyword
