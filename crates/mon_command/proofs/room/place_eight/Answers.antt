use Rattle.std.proofs.Common.{◌≡◌, ◌∙◌, ℕ, ◌+◌, List, ◌++◌, ap, take, arith}
use Rattle.mon_command.proofs.Pieces.{one_behind, eight_are}
use Rattle.mon_command.proofs.room.place_eight.Goals as goal

pub returns : goal.returns
returns c =
    let far : c.args.at + 8 ≡ (c.args.at + 4) + 4 = omega arith in
    ap (λ (n : ℕ). take n c.place_four-2.new.room) far
    ∙ one_behind (c.args.at + 4) ((c.args.at + 4) + 4) (take c.args.at c.args.room.now) c.place_four.new.room c.place_four-2.new.room c.four_at-first.result c.four_at-last.result c.place_four.ensures c.place_four-2.ensures
    ∙ ap (λ (v : List ℕ). take c.args.at c.args.room.now ++ v) (eight_are c.args.from c.args.bytes.now c.four_at-first.result c.four_at-last.result c.four_at-first.ensures c.four_at-last.ensures)
