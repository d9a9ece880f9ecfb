use Rattle.std.proofs.Common.{refl, ◌∙◌}
use Rattle.std.specs.Prelude.{reverse}
use Rattle.sno_pattern.proofs.Cells.{put}
use Rattle.sno_pattern.proofs.trail.Trail.push.Goals as goal

pub returns : goal.returns
returns c =
    let s = c.self.inside in
    rw (← c.self.view_is) (put s.cells.items s.top s.kept s.waits.items
    (reverse s.opens.items) c.self.invariant.0 _ c.place.new.items.items c.len.result c.in_ok-place.ensures.placed
    (c.len.ensures ∙ c.place.new.items.ok.0) refl)
