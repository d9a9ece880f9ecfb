use Rattle.std.proofs.Common.{rules, ap, sym, subst, Err, Ok, IsOk, ◌≡◌, arith, option_copied}
use Rattle.std.proofs.lemmas.Result.{err_from_is_err_and}
use Rattle.mon_text.specs.declared.stop.Stop.TheVariants.{Memory}
use Rattle.mon_acl.specs.Entries.{IsCanonical}
use Rattle.acl_text.{specs.inner.Building.{pieces_in, pieces_left, entry_added, canonical_entries_of}, proofs.Order.{none_sorted}}
use Rattle.acl_text.proofs.Steps.{Stops, exit, stops_of_gives, none_read, more_read, all_read, piece_stops, piece_grows, piece_sorted, stopped_for}
use Rattle.acl_text.proofs.parser.read_entries.Goals as goal

pub loop-entry-init : goal.loop-entry-init
loop-entry-init c = record {
  counted = omega arith;
  canonical = subst IsCanonical (sym c.new-entries.ensures.items) none_sorted;
  room = omega (arith, c.new-entries.ensures.capacity);
  clean = search rules;
  read = none_read (pieces_in c.args.form c.args.text.now) _ c.new-entries.ensures.items;
}

pub returns-in_err-put_entry-clause-read : goal.returns-in_err-put_entry-clause-read
returns-in_err-put_entry-clause-read c =
    let p = err_from_is_err_and c.from_residual.result c.from_residual.ensures.1 in
    let texts = pieces_in c.args.form c.args.text.now in
    let next = c.in-Some.ensures.next in
    exit _ c.from_residual.result p.0 (canonical_entries_of texts) p.1
    (subst (λ s. Stops s (canonical_entries_of texts)) (sym p.2)
    (piece_stops texts _ next.0 (pieces_left c.args.form (option_copied c.in-Some.after)) _ _ c.in_err-put_entry.field-0.0
    c.loop-entry.invariant.read next.1
    (subst (λ r. Stops c.in_err-put_entry.field-0.0 (entry_added c.loop-entry.n r c.loop-entry.entries.items)) next.2
    (stops_of_gives {X = Unit {0}} (λ _. c.put_entry.new.entries.items) c.in_err-put_entry.field-0.0 _ c.in_err-put_entry.ensures.added))))

pub returns-in_err-put_entry-clause-memory : goal.returns-in_err-put_entry-clause-memory
returns-in_err-put_entry-clause-memory c = λ h.
    let p = err_from_is_err_and c.from_residual.result c.from_residual.ensures.1 in
    let next = c.in-Some.ensures.next in
    let m = c.in_err-put_entry.ensures.memory (ap Err (stopped_for c.from_residual.result p.0 c.in_err-put_entry.field-0.0 Memory p.1 p.2 h)) in
    piece_grows (pieces_in c.args.form c.args.text.now) _ next.0 _ _ _ c.loop-entry.invariant.read next.1
    (omega (arith, m.1, c.loop-entry.invariant.room)) (subst (λ r. IsOk (entry_added c.loop-entry.n r c.loop-entry.entries.items)) next.2 m.0)

pub loop-entry-preserved : goal.loop-entry-preserved
loop-entry-preserved c =
    let next = c.in-Some.ensures.next in
    let added = subst (λ r. entry_added c.loop-entry.n r c.loop-entry.entries.items ≡ Ok c.put_entry.new.entries.items) next.2 c.in_ok-put_entry.ensures.added in record {
      counted = search rules;
      canonical = piece_sorted c.loop-entry.n next.0 c.loop-entry.entries.items c.put_entry.new.entries.items c.loop-entry.invariant.canonical added;
      room = omega (arith, c.loop-entry.invariant.room, c.in_ok-put_entry.ensures.capacity);
      clean = search rules;
      read = more_read (pieces_in c.args.form c.args.text.now) _ next.0 _ _ _ _ c.loop-entry.invariant.read next.1 added;
    }

pub returns-clause-read : goal.returns-clause-read
returns-clause-read c = all_read (pieces_in c.args.form c.args.text.now) _ _ _ c.loop-entry.invariant.read c.in_default.ensures.next
