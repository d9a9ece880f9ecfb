-- What a user is told whose text does not run (own): the name of his file, and why; where a line is wrong, the line too, with a mark
-- under the place.
use Rattle.std.specs.Prelude.{ℕ, ◌+◌, ◌-◌, ◌==◌, Bool, not, ◌&&◌, List, [], ◌++◌, map, take, drop, length, replicate, position, unwrap_or, slice_index_or, decimal, codes, if◌then◌else◌}
use Rattle.std.specs.Str.Lines.{lines}
use Rattle.mon_text.specs.Characters.{is_printable, is_blank}
use Rattle.deck_lines.specs.declared.deck_error.DeckError.TheVariants.{BadCharacter, LineTooLong}
use Rattle.deck_lines.specs.Refusing.{is_dollar_line}
use Rattle.preflight.specs.declared.why.Why.{Why}
use Rattle.preflight.specs.declared.why.Why.TheVariants.{Line, Foreign}
use Rattle.preflight.specs.declared.why.Refusal.{Refusal}
use Rattle.preflight.specs.Whys.{why_text}
use Rattle.site_plan.specs.declared.reason.Reason.{Reason}
use Rattle.site_plan.specs.declared.reason.Reason.TheVariants as reason
use Rattle.site_plan.specs.Terms.{limit_name}

-- ---- under which place of a line the mark stands, counted from 0

abbrev pub is_no_blank : ℕ → Bool
is_no_blank c = not (is_blank c)

abbrev pub is_unprintable : ℕ → Bool
is_unprintable c = not (is_printable c)

-- what stands in no line, not even in one of a permission list
abbrev pub is_never_good : ℕ → Bool
is_never_good c = is_unprintable c && not (c == 9)

-- the place of the first such character, or this one
abbrev pub first_or : ℕ → (ℕ → Bool) → List ℕ → ℕ
first_or place is_one line = unwrap_or (position is_one line) place

abbrev pub first_bad : List ℕ → ℕ
first_bad line = if is_dollar_line line then first_or 0 is_unprintable line else first_or (first_or 0 is_unprintable line) is_never_good line

abbrev pub first_word : List ℕ → ℕ
first_word line = first_or 0 is_no_blank line

abbrev pub behind_word : List ℕ → ℕ
behind_word line = let rest = drop (first_word line) line in first_word line + first_or (length rest) is_blank rest

abbrev pub second_word : List ℕ → ℕ
second_word line = let rest = drop (behind_word line) line in behind_word line + first_or (length rest) is_no_blank rest

-- a character that may not stand there; the first that is too many; the account of another; else the first that is no blank
abbrev pub mark_of : Why → List ℕ → ℕ
mark_of (Line BadCharacter) line = first_bad line
mark_of (Line LineTooLong) line = 200
mark_of Foreign line = second_word line
mark_of _ line = first_word line

-- ---- the reply

abbrev pub shown : ℕ → ℕ
shown c = if is_printable c then c else 63

abbrev pub shown_line : List ℕ → List ℕ
shown_line line = codes " " ++ map shown (take 200 line) ++ codes "\n"

abbrev pub mark_line : ℕ → List ℕ
mark_line place = codes " " ++ replicate place 32 ++ codes "^\n"

-- the line of this number, counted from 1; an empty one behind the last
abbrev pub line_at : ℕ → List (List ℕ) → List ℕ
line_at number lines = slice_index_or lines (number - 1) []

abbrev pub heading : Refusal → List ℕ
heading refusal = codes "LINE " ++ decimal refusal.line ++ codes ": " ++ why_text refusal.why ++ codes "\n"

abbrev pub refusal_text : Refusal → List ℕ → List ℕ
refusal_text refusal line = heading refusal ++ shown_line line ++ mark_line (mark_of refusal.why line)

abbrev pub reason_text : List ℕ → Reason → List ℕ → List ℕ
reason_text account reason.NotOwn text = codes "NOT A FILE OF " ++ account ++ codes "\n"
reason_text account reason.TooLong text = codes "TOO LONG\n"
reason_text account reason.NotReadable text = codes "NOT READABLE\n"
reason_text account reason.Memory text = codes "OUT OF MEMORY\n"
reason_text account (reason.Limit limit amount allowed) text =
    codes "LIMIT " ++ limit_name limit ++ codes ": " ++ decimal amount ++ codes " of " ++ decimal allowed ++ codes "\n"
reason_text account (reason.Line refusal) text = refusal_text refusal (line_at refusal.line (lines text))

abbrev pub reply_text : List ℕ → List ℕ → Reason → List ℕ → List ℕ
reply_text file account reason text = codes "REFUSED " ++ file ++ codes "\n" ++ reason_text account reason text
