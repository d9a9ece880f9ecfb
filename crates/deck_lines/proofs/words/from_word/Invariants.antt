-- What is left has the same first word; each turn takes a blank.
use Rattle.std.proofs.Common.{◌≡◌, length}
use Rattle.deck_lines.proofs.words.from_word.Given as goal
use Rattle.mon_text.specs.{Beginnings.{without_leading}, Characters.{is_blank}}

abbrev pub invariant-blanks : goal.invariant-blanks
invariant-blanks l = without_leading is_blank l.rest ≡ without_leading is_blank l.fn.text

abbrev pub decreases-blanks : goal.decreases-blanks
decreases-blanks l = length l.rest
