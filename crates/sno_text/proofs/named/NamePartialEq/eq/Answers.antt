-- One word tells one text.
use Rattle.std.proofs.Common.{◌≡◌, ◌∙◌, ap, nat_eq}
use Rattle.std.specs.Cmp.Lexicographic.{pointwise}
use Rattle.sno_text.proofs.Words.{told_same}
use Rattle.sno_text.proofs.named.NamePartialEq.eq.Goals as goal

pub returns-then-self-other : goal.returns-then-self-other
returns-then-self-other c =
    told_same c.self.inside.text c.other.inside.text c.self.inside.word c.other.inside.word c.self.invariant.0 c.other.invariant.0 c.self.invariant.1 c.other.invariant.1 c.if-self-other.true c.if-self-eq0.false
    ∙ ap (λ text. pointwise nat_eq text c.other.inside.text) c.self.view_is
    ∙ ap (λ text. pointwise nat_eq c.args.self.now text) c.other.view_is
