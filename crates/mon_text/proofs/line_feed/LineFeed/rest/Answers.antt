use Rattle.std.proofs.Common.{rules, subst, ◌≡◌, List, ℕ, length, cond, [], ◌∷◌, ◌==◌}
use Rattle.std.specs.Str.Lines.{lines}
use Rattle.mon_text.proofs.Cutting.{last_line}
use Rattle.mon_text.proofs.line_feed.LineFeed.rest.Goals as goal

pub returns-clause-lines : goal.returns-clause-lines
returns-clause-lines c = subst (λ (v : List ℕ). lines v ≡ cond (length v == 0) [] (v ∷ [])) c.self.view_is (last_line c.self.inside.kept.items (search (rules, c.self.invariant.unended)))
