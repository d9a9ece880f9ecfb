-- What to write instead of a name that other SNOBOL4 systems have (own): the rows of LANGUAGE's index by name.
use Rattle.std.specs.Prelude.{ℕ, Bool, List, codes, bytes_eq, Option, Some, None, if◌then◌else◌}
use Rattle.std.specs.List.{list_any, slice_split}
use Rattle.mon_text.specs.Characters.{is_blank}
use Rattle.program_advice.specs.declared.instead.Instead.{Instead}
use Rattle.program_advice.specs.declared.instead.Instead.TheVariants as instead

-- a name is one of the words of a row, which have a blank between them
abbrev pub is_among : List ℕ → List ℕ → Bool
is_among name row = list_any (λ word. bytes_eq word name) (slice_split is_blank row)

-- FUNCTIONS

-- that reach outside the program, and further ones
abbrev pub instead_of_library_function : List ℕ → Option Instead
instead_of_library_function name =
    if is_among name (codes "CHAR ORD") then Some instead.Characters
    else if is_among name (codes "VALUE") then Some instead.ByName
    else if is_among name (codes "BACKSPACE SET") then Some instead.Rereading
    else if is_among name (codes "DUMP STOPTR TRACE") then Some instead.Printing
    else if is_among name (codes "DATE TIME") then Some instead.DataRecord
    else if is_among name (codes "ATAN CHOP COS EXP LN SIN SQRT TAN") then Some instead.SmallerUnit
    else if is_among name (codes "APPEND BUFFER CLEAR COLLECT DELETE EJECT EXIT FREEZE HOST") then Some instead.Nothing
    else if is_among name (codes "INSERT IO_FINDUNIT LOAD RENAME SERV_LISTEN SETEXIT SSET THAW UNLOAD") then Some instead.Nothing
    else None

-- that search and compare strings
abbrev pub instead_of_string_function : List ℕ → Option Instead
instead_of_string_function name =
    if is_among name (codes "REVERSE") then Some instead.Reversal
    else if is_among name (codes "BREAKX") then Some instead.BreakAgain
    else if is_among name (codes "FENCE") then Some instead.LoneFence
    else if is_among name (codes "LEQ") then Some instead.Identical
    else if is_among name (codes "LNE") then Some instead.Different
    else if is_among name (codes "LLT") then Some instead.ComesBefore
    else if is_among name (codes "LGE") then Some instead.NotBefore
    else if is_among name (codes "LLE") then Some instead.NotAfter
    else if is_among name (codes "VDIFFER") then Some instead.ValueIfDifferent
    else instead_of_library_function name

-- all
abbrev pub instead_of_function : List ℕ → Option Instead
instead_of_function name =
    if is_among name (codes "ARRAY COPY ITEM PROTOTYPE") then Some instead.Table
    else if is_among name (codes "RSORT SORT") then Some instead.Sorting
    else if is_among name (codes "DATA FIELD") then Some instead.Fields
    else if is_among name (codes "APPLY ARG LOCAL OPSYN FUNCTION LABEL") then Some instead.ComputedGoto
    else if is_among name (codes "CODE EVAL") then Some instead.OwnFunction
    else if is_among name (codes "CONVERT") then Some instead.Conversion
    else if is_among name (codes "REMDR") then Some instead.Remainder
    else if is_among name (codes "LPAD") then Some instead.PaddingBefore
    else if is_among name (codes "RPAD") then Some instead.PaddingBehind
    else if is_among name (codes "SUBSTR") then Some instead.Part
    else instead_of_string_function name

-- OTHER NAMES

-- keywords, without the `&`
abbrev pub instead_of_keyword : List ℕ → Option Instead
instead_of_keyword name =
    if is_among name (codes "ABORT ARB BAL FAIL FENCE REM SUCCEED") then Some instead.PatternVariable
    else if is_among name (codes "ALPHABET DIGITS LCASE UCASE") then Some instead.Characters
    else if is_among name (codes "INPUT OUTPUT") then Some instead.Detaching
    else if is_among name (codes "ABEND CASE CODE COMPARE DUMP ERRLIMIT ERRTEXT ERRTYPE FATALLIMIT FILE FTRACE GTRACE") then Some instead.Nothing
    else if is_among name (codes "LASTFILE LASTLINE LASTNO LINE MAXINT PARM PI PROFILE RTNTYPE STEXEC STFCOUNT TRACE") then Some instead.Nothing
    else None

-- labels that have a meaning elsewhere
abbrev pub instead_of_label : List ℕ → Option Instead
instead_of_label name =
    if is_among name (codes "NRETURN") then Some instead.ReturnedName
    else if is_among name (codes "END RETURN FRETURN") then Some instead.Capitals  -- in small letters
    else if is_among name (codes "ABORT CONTINUE SCONTINUE") then Some instead.Nothing
    else None

-- variables that read or write elsewhere
abbrev pub instead_of_variable : List ℕ → Option Instead
instead_of_variable name =
    if is_among name (codes "TERMINAL") then Some instead.Output
    else None
