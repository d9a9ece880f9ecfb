use Rattle.std.proofs.Common.{◌∙◌, ℕ, ◌+◌, ◌-◌, List, ◌++◌, ap, take, length, arith}
use Rattle.mon_command.proofs.Pieces.{by_ends}
use Rattle.mon_command.proofs.room.place_text.Goals as goal

pub returns-then-count-le16 : goal.returns-then-count-le16
returns-then-count-le16 c =
    by_ends c.args.at (length c.args.bytes.now - 8) 8 ((c.args.at + length c.args.bytes.now) - 8) c.args.room.now c.place_eight.new.room c.place_eight-then-count-le16.new.room c.args.bytes.now
    (omega (arith, c.place_eight.array_long, c.requires, c.if-count-ge8.true)) c.if-count-ge8.true (omega (arith, c.if-count-le16.true)) (omega arith) (omega (arith, c.if-count-ge8.true)) c.place_eight.ensures c.place_eight-then-count-le16.ensures

pub returns-then-count-le7 : goal.returns-then-count-le7
returns-then-count-le7 c =
    by_ends c.args.at (length c.args.bytes.now - 4) 4 ((c.args.at + length c.args.bytes.now) - 4) c.args.room.now c.place_four.new.room c.place_four-then-count-le7.new.room c.args.bytes.now
    (omega (arith, c.place_four.array_long, c.requires, c.if-count-ge4.true)) c.if-count-ge4.true (omega (arith, c.if-count-le7.true)) (omega arith) (omega (arith, c.if-count-ge4.true))
    (c.place_four.ensures ∙ ap (λ (v : List ℕ). take c.args.at c.args.room.now ++ v) c.four_at.ensures)
    (c.place_four-then-count-le7.ensures ∙ ap (λ (v : List ℕ). take ((c.args.at + length c.args.bytes.now) - 4) c.place_four.new.room ++ v) c.four_at-then-count-le7.ensures)
