use Rattle.std.proofs.Common.{◌≡◌, ◌≤◌, false, IfSome, option_copied}
use Rattle.std.specs.List.{list_any}
use Rattle.acl_text.specs.{Texts.{is_hash}, inner.Building.{pieces_left, left}, declared.pieces.Form.TheVariants.{Long}}
use Rattle.acl_text.proofs.pieces.next_filled_line.Given as goal

abbrev pub invariant-loop-rest : goal.invariant-loop-rest
invariant-loop-rest l = record {
  reads : pieces_left Long (option_copied l.fn.lines) ≡ pieces_left Long (option_copied l.rest);
  within : left (option_copied l.rest) ≤ left (option_copied l.fn.lines);
  clean : l.commented ≡ false → IfSome (option_copied l.rest) (λ text. list_any is_hash text ≡ false);
}

abbrev pub decreases-loop-rest : goal.decreases-loop-rest
decreases-loop-rest l = left (option_copied l.rest)
