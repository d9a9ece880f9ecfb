use Rattle.std.proofs.Common.{ap, ℕ, List, [], ◌∷◌, ◌++◌}
use Rattle.std.specs.List.{flat_map}
use Rattle.mon_device.proofs.Putting.{puts_same}
use Rattle.mon_catalogue.proofs.data_set.Records.print_lines.Goals as goal

pub returns : goal.returns
returns g c =
    puts_same _ _ _ _ (ap (λ (ls : List (List ℕ)). flat_map (λ (line : List ℕ). c.args.before.now ++ line ++ 10 ∷ []) ls) c.self.view_is) c.print.ensures
