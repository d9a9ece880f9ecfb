-- One line more is put or gathered, and at the end all are put.
use Rattle.std.proofs.Common.{◌<◌, ◌∙◌, [], ◌∷◌, length, refl, ap, arith}
use Rattle.mon_device.proofs.Putting.{puts_nothing}
use Rattle.packed_lines.proofs.Standing.{begins_next, counted, known, lies_within, whole_read}
use Rattle.packed_lines.proofs.Gathering.{all_gathered, line_begins, line_fits, line_gathered}
use Rattle.packed_lines.proofs.lines.PackedLines.print_gathered.Goals as goal

pub loop-end-init : goal.loop-end-init
loop-end-init g c = record { put = ([], puts_nothing _, refl); within = omega arith; begins = refl }

pub slice_bounds-rest-count : goal.slice_bounds-rest-count
slice_bounds-rest-count g c =
    let p = known _ _ _ _ c.self.view_is c.self.invariant in
    let within : c.loop-end.end-index < length c.args.self.now = omega (arith, ap length c.deref-end-items.ensures.value, counted _ _ _ _ p) in
    let lies = lies_within _ c.loop-end.end-index _ _ c.deref-end-items.result.now c.as_slice-bytes.result.now c.args.self.now c.loop-end.start p c.deref-end-items.ensures.value c.as_slice-bytes.ensures.value within c.loop-end.invariant.begins in
    omega (arith, lies.0, lies.1)

pub overflow_sub-end : goal.overflow_sub-end
overflow_sub-end g c =
    let p = known _ _ _ _ c.self.view_is c.self.invariant in
    let within : c.loop-end.end-index < length c.args.self.now = omega (arith, ap length c.deref-end-items.ensures.value, counted _ _ _ _ p) in
    (lies_within _ c.loop-end.end-index _ _ c.deref-end-items.result.now c.as_slice-bytes.result.now c.args.self.now c.loop-end.start p c.deref-end-items.ensures.value c.as_slice-bytes.ensures.value within c.loop-end.invariant.begins).0

pub put_next-filled-requires-clause-within : goal.put_next-filled-requires-clause-within
put_next-filled-requires-clause-within g c =
    let p = known _ _ _ _ c.self.view_is c.self.invariant in
    let within : c.loop-end.end-index < length c.args.self.now = omega (arith, ap length c.deref-end-items.ensures.value, counted _ _ _ _ p) in
    let lies = lies_within _ c.loop-end.end-index _ _ c.deref-end-items.result.now c.as_slice-bytes.result.now c.args.self.now c.loop-end.start p c.deref-end-items.ensures.value c.as_slice-bytes.ensures.value within c.loop-end.invariant.begins in
    line_fits c.as_slice-bytes.result.now c.loop-end.start _ lies.0 lies.1

pub slice_bounds-rest-start : goal.slice_bounds-rest-start
slice_bounds-rest-start g c =
    let p = known _ _ _ _ c.self.view_is c.self.invariant in
    let within : c.loop-end.end-index < length c.args.self.now = omega (arith, ap length c.deref-end-items.ensures.value, counted _ _ _ _ p) in
    let lies = lies_within _ c.loop-end.end-index _ _ c.deref-end-items.result.now c.as_slice-bytes.result.now c.args.self.now c.loop-end.start p c.deref-end-items.ensures.value c.as_slice-bytes.ensures.value within c.loop-end.invariant.begins in
    omega (arith, lies.0, lies.1)

pub slice_bounds-rest-end : goal.slice_bounds-rest-end
slice_bounds-rest-end g c =
    let p = known _ _ _ _ c.self.view_is c.self.invariant in
    let within : c.loop-end.end-index < length c.args.self.now = omega (arith, ap length c.deref-end-items.ensures.value, counted _ _ _ _ p) in
    let lies = lies_within _ c.loop-end.end-index _ _ c.deref-end-items.result.now c.as_slice-bytes.result.now c.args.self.now c.loop-end.start p c.deref-end-items.ensures.value c.as_slice-bytes.ensures.value within c.loop-end.invariant.begins in
    omega (arith, lies.0, lies.1)

pub loop-end-preserved : goal.loop-end-preserved
loop-end-preserved g c =
    let p = known _ _ _ _ c.self.view_is c.self.invariant in
    let within : c.loop-end.end-index < length c.args.self.now = omega (arith, ap length c.deref-end-items.ensures.value, counted _ _ _ _ p) in
    let lies = lies_within _ c.loop-end.end-index _ _ c.deref-end-items.result.now c.as_slice-bytes.result.now c.args.self.now c.loop-end.start p c.deref-end-items.ensures.value c.as_slice-bytes.ensures.value within c.loop-end.invariant.begins in
    record {
      put =
          line_gathered (c.args.before ∷ []) c.args.self.now c.loop-end.end-index _ _ _ _ _ _ within
          (line_begins c.as_slice-bytes.result.now c.loop-end.start _ lies.1 ∙ whole_read _ c.loop-end.end-index _ _ c.deref-end-items.result.now c.as_slice-bytes.result.now c.args.self.now c.loop-end.start p c.deref-end-items.ensures.value c.as_slice-bytes.ensures.value within c.loop-end.invariant.begins)
          c.loop-end.invariant.put c.put_next-filled.ensures.put;
      within = c.put_next-filled.ensures.within;
      begins = begins_next _ c.loop-end.end-index _ _ c.deref-end-items.result.now c.args.self.now p c.deref-end-items.ensures.value within;
    }

pub returns : goal.returns
returns g c =
    let p = known _ _ _ _ c.self.view_is c.self.invariant in
    all_gathered (c.args.before ∷ []) c.args.self.now c.loop-end.end-index _ _ _ _ (omega (arith, ap length c.deref-end-items.ensures.value, counted _ _ _ _ p))
    c.loop-end.invariant.put c.put.ensures
