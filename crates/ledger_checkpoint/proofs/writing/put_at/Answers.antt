use Rattle.std.proofs.Common.{sym, ap, ◌∙◌}
use Rattle.std.specs.{Option.{option_map}, Map.Iter.{deref_pair}}
use Rattle.ledger_sets.proofs.Walking.{none_past}
use Rattle.ledger_checkpoint.{specs.Writing.{texts_in}, proofs.Standing.{entries_on, pieces_on}}
use Rattle.ledger_checkpoint.proofs.writing.put_at.Goals as goal

pub returns-in_ok-put_set-in-Some-clause-entries : goal.returns-in_ok-put_set-in-Some-clause-entries
returns-in_ok-put_set-in-Some-clause-entries g c =
    entries_on c.args.sets.now c.args.place (c.in-Some.name.now, c.in-Some.set.now) (sym (ap (option_map deref_pair) c.in-Some.is) ∙ c.at.ensures)
    c.args.written.now.size c.put_set.new.written.size c.in_ok-put_set-in-Some.ensures.size
    (texts_in c.args.written.now.entries.items) (texts_in c.put_set.new.written.entries.items) c.in_ok-put_set-in-Some.ensures.entries

pub returns-in_ok-put_set-in-Some-clause-pieces : goal.returns-in_ok-put_set-in-Some-clause-pieces
returns-in_ok-put_set-in-Some-clause-pieces g c =
    pieces_on c.args.sets.now c.args.place (c.in-Some.name.now, c.in-Some.set.now) (sym (ap (option_map deref_pair) c.in-Some.is) ∙ c.at.ensures)
    (g.P.Pieces.taken c.args.pieces.now) (g.P.Pieces.taken c.put_set.new.pieces) c.in_ok-put_set-in-Some.ensures.pieces

-- there is one
pub returns-in-None-clause-entries : goal.returns-in-None-clause-entries
returns-in-None-clause-entries g c = absurd (none_past c.args.place c.args.sets.now c.requires (sym (ap (option_map deref_pair) c.in-None.is) ∙ c.at.ensures))

pub returns-in-None-clause-pieces : goal.returns-in-None-clause-pieces
returns-in-None-clause-pieces g c = absurd (none_past c.args.place c.args.sets.now c.requires (sym (ap (option_map deref_pair) c.in-None.is) ∙ c.at.ensures))
