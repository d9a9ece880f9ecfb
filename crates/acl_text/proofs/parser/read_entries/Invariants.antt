use Rattle.std.proofs.Common.{◌≡◌, false, length, ◌+◌, ◌≤◌, IfSome, option_copied}
use Rattle.std.specs.List.{list_any}
use Rattle.acl_text.{specs.Texts.{is_hash}, specs.inner.Building.{pieces_in, pieces_left, left}, proofs.Steps.{IsReadTo}}
use Rattle.mon_acl.specs.Entries.{IsCanonical}
use Rattle.acl_text.proofs.parser.read_entries.Given as goal

abbrev pub invariant-loop-entry : goal.invariant-loop-entry
invariant-loop-entry l = record {
  counted : l.n + left (option_copied l.rest) ≤ length l.text + 2;
  canonical : IsCanonical l.entries.items;
  room : 4 ≤ l.entries.capacity;
  clean : l.commented ≡ false → IfSome (option_copied l.rest) (λ text. list_any is_hash text ≡ false);
  read : IsReadTo (pieces_in l.form l.text) (pieces_left l.form (option_copied l.rest)) l.n l.entries.items;
}

abbrev pub decreases-loop-entry : goal.decreases-loop-entry
decreases-loop-entry l = left (option_copied l.rest)
