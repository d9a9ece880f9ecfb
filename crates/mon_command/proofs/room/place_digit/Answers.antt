use Rattle.std.proofs.Common.{◌≡◌, ◌∙◌, ◌+◌, ◌∷◌, ◌++◌, [], List, ℕ, ap, sym, take, decimal, slice_set, arith}
use Rattle.std.proofs.lemmas.{Fmt.{decimal_digit}, Grind.{common_steps}}
use Rattle.mon_command.proofs.room.place_digit.Goals as goal

pub returns-clause-placed : goal.returns-clause-placed
returns-clause-placed c =
    let digit : decimal c.args.value ≡ (48 + c.args.value) ∷ [] = decimal_digit c.args.value (omega (arith, c.requires.digit)) in
    let put : take (c.args.at + 2) (slice_set (slice_set c.args.room.now c.args.at 32) (c.args.at + 1) (48 + c.args.value)) ≡ take c.args.at c.args.room.now ++ 32 ∷ (48 + c.args.value) ∷ [] = grind (arith, common_steps) in
    put ∙ ap (λ (v : List ℕ). take c.args.at c.args.room.now ++ 32 ∷ v) (sym digit)
