-- Whether a line ends with a part of a deck in which at most one ends.
use Rattle.std.specs.Prelude.{ℕ, ◌-◌, List, length, get_or, if◌then◌else◌}
use Rattle.mon_text.specs.Characters.{is_line_feed}

abbrev pub ended_by : List ℕ → ℕ
ended_by part = if is_line_feed (get_or part (length part - 1) 0) then 1 else 0
