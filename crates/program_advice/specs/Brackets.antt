-- Which bracket is open behind a text (own): the text is read from its end, up to the first that nothing behind it closes.
use Rattle.std.specs.Prelude.{ℕ, ◌||◌, ◌==◌, nat_lt, List, ◌+◌, ◌-◌, if◌then◌else◌}
use Rattle.std.specs.List.{fold}
use Rattle.mon_text.specs.Characters.{is_quote}
use Rattle.program_advice.specs.declared.brackets.Walk.{Walk}

-- one that opens
abbrev pub over_bracket : Walk → ℕ → Walk
over_bracket w c =
    if nat_lt 0 w.closed then record { quote = w.quote; closed = w.closed - 1; found = w.found }
    else record { quote = w.quote; closed = w.closed; found = c }

-- one in no literal
abbrev pub over_character : Walk → ℕ → Walk
over_character w c =
    if is_quote c then record { quote = c; closed = w.closed; found = w.found }
    else if c == 41 || c == 62 then record { quote = w.quote; closed = if nat_lt w.closed 200 then w.closed + 1 else w.closed; found = w.found }
    else if c == 40 || c == 60 then over_bracket w c
    else w

-- any: once a bracket was found, nothing changes; a literal ends at the quote that it began with
abbrev pub back_over : Walk → ℕ → Walk
back_over w c =
    if w.found == 10 then
    (if w.quote == 10 then over_character w c
    else if w.quote == c then record { quote = 10; closed = w.closed; found = w.found }
    else w)
    else w

-- of a text whose last character comes first; a line feed, where no bracket is open
abbrev pub found_behind : List ℕ → ℕ
found_behind text = (fold back_over (record { quote = 10; closed = 0; found = 10 }) text).found
