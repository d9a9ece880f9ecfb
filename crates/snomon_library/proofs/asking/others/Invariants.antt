-- What is asked for is what the words from here on ask for, behind those before.
use Rattle.std.proofs.Common.{◌≡◌, ◌<◌, map, length, take, drop}
use Rattle.std.specs.Option.{option_map}
use Rattle.snomon_library.specs.{Asking.{audit_of, asked_in}, inner.Asking.{onto}}
use Rattle.snomon_library.proofs.asking.others.Given as goal

abbrev pub invariant-loop-at : goal.invariant-loop-at
invariant-loop-at g l = 0 < length l.words → audit_of (map g.S.AsStr.text l.words) ≡ option_map (onto (take l.at (map g.S.AsStr.text l.words))) (asked_in (drop l.at (map g.S.AsStr.text l.words)))
