-- The text stands so many times behind the others, and there is room for it as many times more.
use Rattle.std.proofs.Common.{◌≡◌, ◌+◌, ◌*◌, ◌++◌, length}
use Rattle.std.specs.{Prelude.{vec_len, vec_capacity}, List.{repeat}}
use Rattle.sno_text.proofs.text.put_short.Given as goal

abbrev pub invariant-loop : goal.invariant-loop
invariant-loop l = record {
  items : l.bytes.items ≡ l.fn.bytes.items ++ repeat l.counter l.text;
  len : vec_len l.bytes ≡ vec_len l.fn.bytes + l.counter * length l.text;
  room : vec_capacity l.bytes ≡ vec_capacity l.fn.bytes;
}
