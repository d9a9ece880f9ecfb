use Rattle.std.proofs.Common.{rules, arith, ◌-◌, ◌≤◌, ◌<◌, length, ap}
use Rattle.sno_semantics.specs.declared.got.Evaluated.TheVariants.{Fails}
use Rattle.sno_declarations.specs.Formats.{IsFormat, laid_out}
use Rattle.sno_state.proofs.Writing.{is_format, fails_at, ends_at, goes_at, cuts_at}
use Rattle.sno_state.proofs.using.write_records.Goals as goal

pub returns-in_default : goal.returns-in_default
returns-in_default g c =
    let said = c.characters-characters.ensures in
    let is : IsFormat c.args.output.format = is_format c.args.output.format c.characters-characters.result said.value said.positive said.fits in
    record {
      runs = c.loop-from.invariant.held Fails c.write_piece.new.service
          (fails_at g.S.Service.answers c.records_follow.ensures c.args.output.unit c.args.output.format is c.args.text.now c.args.state.now c.loop-from.from (laid_out c.args.output.format c.piece-piece.result.now) c.in_ok-write_piece.field-0 c.loop-from.service
          c.write_piece.new.service (ap (laid_out c.args.output.format) c.piece-piece.ensures.value) c.in_ok-write_piece.ensures.held c.in_default.not-Done);
      ready = search rules;
    }

pub returns-then-len-from-clause-runs : goal.returns-then-len-from-clause-runs
returns-then-len-from-clause-runs g c =
    let said = c.characters-characters.ensures in
    let is : IsFormat c.args.output.format = is_format c.args.output.format c.characters-characters.result said.value said.positive said.fits in
    let last : length c.args.text.now - c.loop-from.from ≤ c.characters-characters.result = omega (arith, c.if-len-from.true, c.len.ensures) in
    c.loop-from.invariant.held _ c.write_piece.new.service
    (ends_at g.S.Service.answers c.records_follow.ensures c.args.output.unit c.args.output.format is c.args.text.now c.args.state.now c.loop-from.from c.characters-characters.result (laid_out c.args.output.format c.piece-piece.result.now) c.in_ok-write_piece.field-0
    c.loop-from.service c.write_piece.new.service said.value (ap (laid_out c.args.output.format) c.piece-piece.ensures.value) c.in_ok-write_piece.ensures.held c.in-Done.is last)

pub loop-from-preserved : goal.loop-from-preserved
loop-from-preserved g c =
    let said = c.characters-characters.ensures in
    let is : IsFormat c.args.output.format = is_format c.args.output.format c.characters-characters.result said.value said.positive said.fits in
    let far : c.characters-characters.result < length c.args.text.now - c.loop-from.from = omega (arith, c.if-len-from.false, c.len.ensures) in
    record {
      within = omega (arith, far);
      held = λ got t h. c.loop-from.invariant.held got t
          (goes_at g.S.Service.answers c.records_follow.ensures c.args.output.unit c.args.output.format is c.args.text.now c.args.state.now c.loop-from.from c.characters-characters.result (laid_out c.args.output.format c.piece-piece.result.now) c.in_ok-write_piece.field-0
          c.loop-from.service c.write_piece.new.service said.value (ap (laid_out c.args.output.format) c.piece-piece.ensures.value) c.in_ok-write_piece.ensures.held c.in-Done.is far (got, c.args.state.now) t h);
      cut = λ t h. c.loop-from.invariant.cut t
          (cuts_at g.S.Service.answers c.records_follow.ensures c.args.output.unit c.args.output.format is c.args.text.now c.args.state.now c.loop-from.from c.characters-characters.result (laid_out c.args.output.format c.piece-piece.result.now) c.in_ok-write_piece.field-0
          c.loop-from.service c.write_piece.new.service said.value (ap (laid_out c.args.output.format) c.piece-piece.ensures.value) c.in_ok-write_piece.ensures.held c.in-Done.is far t h);
      ready = search rules;
    }
