use Rattle.std.proofs.Common.{◌≡◌, ◌+◌, ◌++◌, drop, filter}
use Rattle.sno_cards.specs.{Statements.{placed_on, continued, numbered}, inner.Parts.{is_statement_card}, inner.Cuts.{cut_of, begun, fed}}
use Rattle.sno_cards.proofs.lines.cut_line.Given as goal

-- what is cut so far, fed with what continues the line on the cards that are left, is the whole line cut
abbrev pub invariant-loop-index : goal.invariant-loop-index
invariant-loop-index l =
    fed (begun l.fn.statements.items) (placed_on l.card 1 l.text ++ continued (filter is_statement_card (numbered (l.card + 1) l.later)))
    ≡ fed (cut_of l.cutting) (continued (filter is_statement_card (numbered (l.card + 1 + l.index) (drop l.index l.later))))
