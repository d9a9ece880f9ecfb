-- The blocks so far are printable.
use Rattle.std.proofs.Common.{◌≡◌, ◌-◌, true, length, take}
use Rattle.std.specs.List.{list_all}
use Rattle.mon_text.specs.Characters.{is_printable}
use Rattle.deck_lines.proofs.words.is_line.Given as goal

abbrev pub invariant-loop-from : goal.invariant-loop-from
invariant-loop-from l = list_all is_printable (take l.from l.text) ≡ true

abbrev pub decreases-loop-from : goal.decreases-loop-from
decreases-loop-from l = length l.text - l.from
