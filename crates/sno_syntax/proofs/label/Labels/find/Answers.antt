-- The label at the place that was kept is this one.
use Rattle.std.proofs.Common.{rules, ◌≡◌, ◌∙◌, ap, true}
use Rattle.std.specs.{Prelude.{bytes_eq}, Map.{lookup}}
use Rattle.sno_syntax.proofs.Tables.{found_shown}
use Rattle.sno_syntax.proofs.label.Labels.find.Goals as goal

pub returns-then-eq : goal.returns-then-eq
returns-then-eq c =
    let same : bytes_eq c.in-Some.found.now.items c.args.label.now ≡ true = search rules in
    found_shown c.self.inside.by_text.entries c.in-Some.found.now c.args.label.now c.in-Some.statement.now c.in-Some.ensures.value same
    ∙ ap (λ labels. lookup (bytes_eq c.args.label.now) labels) c.self.view_is
