use Rattle.std.proofs.Common.{◌≡◌, ◌-◌, ◌≤◌, length, take}
use Rattle.mon_text.specs.{Names.{IsName}, inner.Padding.{IsZeroFrom}}
use Rattle.mon_text.proofs.name.name_from.Given as goal

abbrev pub invariant-loop-length : goal.invariant-loop-length
invariant-loop-length l = record {
  begun : 1 ≤ l.length;
  within : l.length ≤ l.end;
  few : l.end ≤ 31;
  inside : l.end ≤ length l.text;
  room : length l.characters ≡ 32;
  same : take l.length l.characters ≡ take l.length l.text;
  name : IsName (take l.length l.text);
  zeros : IsZeroFrom l.length l.characters;
}

abbrev pub decreases-loop-length : goal.decreases-loop-length
decreases-loop-length l = l.end - l.length
