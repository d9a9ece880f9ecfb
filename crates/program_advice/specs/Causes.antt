-- Why a program is refused (own): by the code, and by the characters around the place.
use Rattle.std.specs.Prelude.{ℕ, Bool, not, ◌&&◌, ◌||◌, ◌==◌, List, reverse, find, slice_get, Option, if◌then◌else◌}
use Rattle.std.specs.Option.{unwrap_or}
use Rattle.mon_text.specs.Characters.{is_letter, is_digit, is_blank, is_quote, is_identifier_character}
use Rattle.sno_cards.specs.declared.refusal.SyntaxCode.{SyntaxCode}
use Rattle.sno_cards.specs.declared.refusal.SyntaxCode.TheVariants as code
use Rattle.program_advice.specs.Brackets.{found_behind}
use Rattle.program_advice.specs.declared.around.Around.{Around}
use Rattle.program_advice.specs.declared.cause.Cause.{Cause}
use Rattle.program_advice.specs.declared.cause.Cause.TheVariants as cause

-- AROUND A PLACE

-- a line feed, where the line has no such character
abbrev pub or_end : Option ℕ → ℕ
or_end c = unwrap_or c 10

abbrev pub is_apart : ℕ → Bool
is_apart c = not (is_identifier_character c)

abbrev pub is_no_blank : ℕ → Bool
is_no_blank c = not (is_blank c)

-- what stands before a place of a line, and from there on
abbrev pub around : List ℕ → List ℕ → Around
around before from_here = record {
  sign = or_end (find is_apart (reverse before));
  before = or_end (slice_get (reverse before) 0);
  ended = or_end (find is_no_blank (reverse before));
  opened = found_behind (reverse before);
  here = or_end (slice_get from_here 0);
  behind = or_end (slice_get from_here 1);
  follows = or_end (find is_apart from_here);
}

-- THE TABLE

-- `#`; `|` and `!` in the first column; `*` behind `;`
abbrev pub is_comment : Around → Bool
is_comment a = a.here == 35 || (a.here == 124 || a.here == 33) && a.before == 10 || a.here == 42 && a.before == 59

-- the end of an element: of a name or number, of a literal, of a parenthesis or item
abbrev pub ends_element : ℕ → Bool
ends_element c = is_identifier_character c || is_quote c || c == 41 || c == 62

-- a binary operator between blanks, behind an element: behind a subject there is none
unfoldable pub is_behind_subject : Around → Bool
is_behind_subject a =
    (a.here == 43 || a.here == 45 || a.here == 42 || a.here == 47 || a.here == 124 || a.here == 46 || a.here == 36)
    && a.before == 32 && a.behind == 32 && ends_element a.ended

-- a token would fit with other blanks
abbrev pub blank_cause : Around → Cause
blank_cause a =
    if a.here == 46 && is_digit a.before && not (is_letter a.behind) then cause.Real  -- `3.5`
    else if is_quote a.here && a.before == a.here then cause.QuoteInLiteral  -- `'it''s'`
    else if a.here == 40 && a.sign == 42 then cause.LaterThanVariables  -- `*F(X)`
    else if a.here == 63 || a.here == 38 || a.here == 64 || a.here == 126 then cause.NotBinary  -- `S ? P`, and by `&`, `@`, `~`
    else if a.here == 61 then cause.TightEquals  -- `A=B`
    else if a.here == 58 then cause.TightColon  -- `X:(L)`
    else if a.here == 60 && a.behind == 32 then cause.Comparison  -- `A < B`; an item would touch its variable
    else if is_behind_subject a then cause.SubjectOfOne  -- `A * B P`
    else cause.OtherBlanks

-- a sign that fits with no blanks
abbrev pub sign_cause : Around → Cause
sign_cause a =
    if a.here == 44 && a.opened == 40 then cause.Alternatives  -- `(A, B)`
    else if a.here == 44 then cause.Comma  -- `A<I,J>`
    else if a.here == 91 || a.here == 93 then cause.SquareBracket  -- `A[I]`
    else if a.here == 60 || a.here == 62 then cause.Comparison  -- `A < B`
    else if a.here == 61 then cause.Assignment  -- `(A = B)`
    else if a.here == 33 || a.here == 94 then cause.Power  -- `A ! B`, `A ^ B`
    else if a.here == 92 then cause.Not  -- `\A`
    else if a.here == 32 || a.here == 59 || a.here == 10 then cause.EndsEarly  -- `(1 + 2`
    else if a.here == 41 then cause.NoneOpen  -- `1 + 2)`
    else if a.before == 10 then cause.FirstColumn
    else if is_behind_subject a then cause.SubjectOfOne  -- `A / B P`
    else cause.Unexpected

-- something fits with no blanks
abbrev pub unexpected_cause : Around → Cause
unexpected_cause a =
    if is_comment a then cause.Comment
    else if a.here == 40 && a.sign == 42 then cause.LaterThanVariables  -- `*(A B)`
    else if a.here == 60 && a.before == 58 then cause.CodeGoto  -- `:<C>`
    else if a.here == 60 && (a.before == 62 || a.before == 41) then cause.ItemOfValue  -- `T<1><2>`, `F(X)<1>`
    else if a.here == 62 && a.before == 60 then cause.NoKey  -- `T<>`
    else if (a.here == 115 || a.here == 102) && a.behind == 40 then cause.SmallOutcome  -- `:s(L)`, `:f(L)`
    else sign_cause a

-- what is no variable stands where one has to be
abbrev pub variable_cause : Around → Cause
variable_cause a =
    if is_digit a.here && a.before == 46 then cause.Real  -- `.5`
    else if a.follows == 40 then cause.CallAssigned  -- `AGE(X) = 3`
    else if a.follows == 60 then cause.ItemNamed  -- `'A' . T<1>`
    else cause.VariableNeeded

abbrev pub cause_of : SyntaxCode → Around → Cause
cause_of code.NoEndLine a = cause.NoEndLine
cause_of code.NothingToContinue a = cause.NothingToContinue
cause_of code.UnknownControlCard a = cause.ControlCard
cause_of code.BadConstant a = if is_quote a.here then cause.OpenLiteral else cause.LargeInteger
cause_of code.BlankMissing a = blank_cause a
cause_of code.Unexpected a = unexpected_cause a
cause_of code.LabelTaken a = cause.LabelTaken
cause_of code.VariableNeeded a = variable_cause a
cause_of code.StatementTooLarge a = cause.StatementTooLarge
cause_of code.BadEnd a = cause.BadEnd
