use Rattle.std.proofs.Common.{◌≡◌, ◌∙◌, ℕ, List, subst, arith}
use Rattle.mon_text.{specs.Names.{head_of}, proofs.Padding.{head_is}}
use Rattle.mon_text.proofs.name.Name.head.Goals as goal

pub returns : goal.returns
returns c =
    let x = c.self.inside in
    subst (λ (name : List ℕ). c.from_be_bytes.result ≡ head_of name) c.self.view_is
    (c.from_be_bytes.ensures ∙ omega arith ∙ head_is x.length x.characters (omega (arith, c.self.invariant.0)) c.self.invariant.2)
