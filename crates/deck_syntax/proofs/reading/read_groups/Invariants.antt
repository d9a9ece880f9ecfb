-- The names so far are the words so far, from the third one on.
use Rattle.std.proofs.Common.{◌≡◌, ◌-◌, true, take, drop}
use Rattle.std.specs.List.{list_all}
use Rattle.mon_text.specs.Names.{is_name}
use Rattle.deck_syntax.proofs.reading.read_groups.Given as goal

abbrev pub invariant-loop-place : goal.invariant-loop-place
invariant-loop-place l = record {
  read : l.groups ≡ take (l.place - 2) (drop 2 l.words);
  names : list_all is_name (take (l.place - 2) (drop 2 l.words)) ≡ true;
}
