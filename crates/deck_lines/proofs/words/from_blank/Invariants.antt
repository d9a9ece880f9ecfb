-- What is left has the same first blank; each turn takes a character.
use Rattle.std.proofs.Common.{◌≡◌, length, not}
use Rattle.deck_lines.proofs.words.from_blank.Given as goal
use Rattle.mon_text.specs.{Beginnings.{without_leading}, Characters.{is_blank}}

abbrev pub invariant-letters : goal.invariant-letters
invariant-letters l = without_leading (λ c. not (is_blank c)) l.rest ≡ without_leading (λ c. not (is_blank c)) l.fn.text

abbrev pub decreases-letters : goal.decreases-letters
decreases-letters l = length l.rest
