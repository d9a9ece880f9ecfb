use Rattle.std.proofs.Common.{◌∙◌, ap₂, arith, nat_cmp}
use Rattle.std.specs.Cmp.Lexicographic.{slice_cmp}
use Rattle.mon_text.proofs.Padding.{names_compare}
use Rattle.mon_text.proofs.name.NameOrd.cmp.Goals as goal

pub returns : goal.returns
returns c =
    let x = c.self.inside in
    let y = c.other.inside in
    c.order.ensures
    ∙ names_compare x.length y.length x.characters y.characters (omega arith) (omega arith) c.self.invariant.0 c.other.invariant.0 c.self.invariant.1 c.other.invariant.1 c.self.invariant.2 c.other.invariant.2
    ∙ ap₂ (slice_cmp nat_cmp) c.self.view_is c.other.view_is
