use Rattle.std.proofs.Common.{rules, ◌∙◌, sym, subst, refl, length, ◌≤◌, ◌<◌, arith}
use Rattle.std.specs.Prelude.{slice_index_or}
use Rattle.mon_text.{specs.Names.{IsName}, proofs.Leading.{letter_alone, first_long, first_zeros, name_on, same_on, zeros_left}}
use Rattle.mon_text.proofs.name.name_from.Goals as goal

pub loop-length-init : goal.loop-length-init
loop-length-init c =
    let long : 1 ≤ length c.args.text.now = first_long _ _ c.requires.first in record {
      begun = omega arith;
      within = omega (arith, long, c.min-end.ensures);
      few = omega (arith, c.min-end.ensures);
      inside = omega (arith, c.min-end.ensures);
      room = refl;
      same = sym c.requires.first;
      name = subst IsName (sym c.requires.first) (letter_alone c.args.first c.requires.letter);
      zeros = first_zeros c.args.first;
    }

pub loop-length-preserved : goal.loop-length-preserved
loop-length-preserved c =
    let l = c.loop-length in
    let before : l.length < length c.args.text.now = omega (arith, l.invariant.inside, c.loop-length-test.true) in record {
      begun = omega arith;
      within = omega (arith, c.loop-length-test.true);
      few = l.invariant.few;
      inside = l.invariant.inside;
      room = search rules;
      same = same_on l.length l.characters c.args.text.now (omega (arith, l.invariant.room, l.invariant.few, c.loop-length-test.true)) before l.invariant.same;
      name = name_on l.length c.args.text.now l.invariant.begun (omega (arith, l.invariant.few, c.loop-length-test.true)) before l.invariant.name (sym c.is_name_character.ensures ∙ c.if-is_name_character.true);
      zeros = zeros_left l.length l.characters (slice_index_or c.args.text.now l.length 0) l.invariant.zeros;
    }
