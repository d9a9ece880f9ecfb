-- The characters so far have been replaced, and there is room for the others.
use Rattle.std.proofs.Common.{◌≡◌, length, take, map}
use Rattle.std.specs.Prelude.{vec_len, vec_capacity}
use Rattle.sno_value.specs.Primitives.{replacement}
use Rattle.sno_value.proofs.texts.replaced.Given as goal

abbrev pub invariant-loop-byte : goal.invariant-loop-byte
invariant-loop-byte l = record {
  items : l.bytes.items ≡ map (replacement l.from l.to) (take l.byte-index l.text);
  len : vec_len l.bytes ≡ l.byte-index;
  room : vec_capacity l.bytes ≡ length l.text;
}
