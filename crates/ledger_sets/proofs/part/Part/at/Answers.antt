use Rattle.std.proofs.Common.{sym, ap, ◌∙◌}
use Rattle.std.specs.{Option.{option_map}, Map.Iter.{deref_pair}}
use Rattle.ledger_sets.proofs.Copying.{is_here, passed, past}
use Rattle.ledger_sets.proofs.part.Part.at.Goals.{in_default-via-in-Some+else-has, in_default-via-in_default}
use Rattle.ledger_sets.proofs.part.Part.at.Goals as goal

pub returns-in-Some : goal.returns-in-Some
returns-in-Some c =
    is_here c.args.self.which.now c.args.self.catalogue.now c.args.place (c.in-Some.name.now, c.in-Some.set.now) (sym (ap (option_map deref_pair) c.in-Some.is) ∙ c.at.ensures)
    (sym c.has.ensures ∙ c.if-has.true)

pub returns-in_default : goal.returns-in_default
returns-in_default c =
    elim c.in_default.branch [
      | in_default-via-in-Some+else-has w ↦
          passed c.args.self.which.now c.args.self.catalogue.now c.args.place (w.in-Some.name.now, w.in-Some.set.now)
          (sym (ap (option_map deref_pair) w.in-Some.is) ∙ c.at.ensures) (sym w.has.ensures ∙ w.if-has.false)
      | in_default-via-in_default w ↦ past c.args.self.which.now c.args.self.catalogue.now c.args.place (sym (ap (option_map deref_pair) w.in_default.is) ∙ c.at.ensures)
    ]
