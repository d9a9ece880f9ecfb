-- How many lines end in bytes.
use Rattle.std.specs.Prelude.{ℕ, ◌+◌, List, [], ◌∷◌, if◌then◌else◌}
use Rattle.mon_text.specs.Characters.{is_line_feed}

abbrev pub lines_ended : List ℕ → ℕ
lines_ended [] = 0
lines_ended (c ∷ cs) = if is_line_feed c then lines_ended cs + 1 else lines_ended cs
