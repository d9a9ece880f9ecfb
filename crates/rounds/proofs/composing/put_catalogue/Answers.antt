use Rattle.std.proofs.Common.{◌≡◌, ◌++◌, List, ℕ, ap, ◌∙◌, append_assoc}
use Rattle.std.specs.Prelude.{codes}
use Rattle.mon_catalogue.specs.Text.{catalogue_text}
use Rattle.rounds.proofs.Composed.{on_ok}
use Rattle.rounds.proofs.composing.put_catalogue.Goals as goal

pub returns : goal.returns
returns c =
    let text = catalogue_text c.args.catalogue.now in
    let card : c.extend_from_slice.new.self.items ≡ c.args.out.now.items ++ codes "$CATALOGUE 2\n" = c.in_ok-extend_from_slice.ensures.items in
    on_ok c.put_sets.result _ _ (λ put. put ∙ ap (λ (t : List ℕ). t ++ text) card ∙ append_assoc c.args.out.now.items (codes "$CATALOGUE 2\n") text) c.put_sets.ensures
