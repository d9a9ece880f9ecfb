-- The text once more, each time, for which there is room.
use Rattle.std.proofs.Common.{rules, ◌≡◌, ◌+◌, ◌++◌, ◌∙◌, List, ℕ, length, ap, arith}
use Rattle.std.specs.Prelude.{vec_len}
use Rattle.sno_text.proofs.Repeating.{once_more, has_room, counted_on}
use Rattle.sno_text.proofs.text.put_long.Goals as goal

pub unwrap-requires : goal.unwrap-requires
unwrap-requires c =
    let room = has_room c.loop.counter c.args.times (length c.args.text.now) c.loop-test.true in
    c.extend_from_slice.ensures.succeeds (omega (arith, room, c.loop.invariant.len, c.loop.invariant.room))

pub loop-preserved : goal.loop-preserved
loop-preserved c =
    let text = c.args.text.now in
    let more = counted_on c.loop.counter (length text) in
    let items : c.extend_from_slice.new.self.items ≡ c.loop.bytes.items ++ text = search rules in
    let len : vec_len c.extend_from_slice.new.self ≡ vec_len c.loop.bytes + length text = search rules in
    record {
      items = items ∙ ap (λ (xs : List ℕ). xs ++ text) c.loop.invariant.items ∙ once_more c.args.bytes.now.items c.loop.counter text;
      len = omega (arith, more, len, c.loop.invariant.len);
      room = omega (arith, c.extend_from_slice.ensures.capacity, c.loop.invariant.room);
    }
