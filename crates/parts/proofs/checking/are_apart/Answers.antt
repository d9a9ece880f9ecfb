use Rattle.std.proofs.Common.{◌∙◌, sym}
use Rattle.parts.proofs.Telling.{sound, complete}
use Rattle.parts.proofs.checking.are_apart.Goals as goal

pub returns : goal.returns
returns c = (
  λ h. sound _ _ (sym c.all_go_along.ensures ∙ h),
  λ h. c.all_go_along.ensures ∙ complete _ c.count-count.ensures _ h,
)
