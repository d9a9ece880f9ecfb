-- The text once more, each time, for which there is room.
use Rattle.std.proofs.Common.{◌++◌, ◌∙◌, List, ℕ, length, ap, arith}
use Rattle.sno_text.proofs.Repeating.{once_more, has_room, counted_on}
use Rattle.sno_text.proofs.text.put_short.Goals as goal

pub put_each-requires : goal.put_each-requires
put_each-requires c =
    let room = has_room c.loop.counter c.args.times (length c.args.text.now) c.loop-test.true in
    omega (arith, room, c.loop.invariant.len, c.loop.invariant.room)

pub loop-preserved : goal.loop-preserved
loop-preserved c =
    let text = c.args.text.now in
    let more = counted_on c.loop.counter (length text) in
    record {
      items = c.put_each.ensures.value ∙ ap (λ (xs : List ℕ). xs ++ text) c.loop.invariant.items ∙ once_more c.args.bytes.now.items c.loop.counter text;
      len = omega (arith, more, c.put_each.ensures.len, c.loop.invariant.len);
      room = c.put_each.ensures.room ∙ c.loop.invariant.room;
    }
