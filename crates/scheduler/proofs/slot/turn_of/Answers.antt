-- The service holds the loans that it was lent, and what it leaves is as served.
use Rattle.std.proofs.Common.{◌∙◌, rules, refl, sym, inl, inr}
use Rattle.scheduler.proofs.Audited.{done_of, kept_of, kept_given}
use Rattle.scheduler.proofs.slot.turn_of.Goals as goal

pub shape_of-slot : goal.shape_of-slot
shape_of-slot g c = sym c.audited_turn.ensures.turn.loans.units

pub returns-clause-step : goal.returns-clause-step
returns-clause-step g c =
    let turn = done_of _ _ _ _ _ _ _ _ _ c.requires.number c.audited_turn.ensures.turn in
    let same = turn.loans in
    elim turn.is [
      | inl h ↦ record { number = refl; account = refl; is = inl (record { is = (let k = h.0 in search rules); audited = h.1 }) }
      | inr h ↦ record { number = refl; account = refl; is = inr (record { mark = record { moments = h.moments }; started = h.started; counted = (let k = h.counted in search rules); memory = h.memory; left = (let k = h.left in search rules); audited = h.audited }) }
    ]

pub returns-clause-kept : goal.returns-clause-kept
returns-clause-kept g c =
    let same = c.audited_turn.ensures.turn.loans in
    kept_given _ _ _ _ _ _ (kept_of _ _ _ _ c.requires.number c.audited_turn.ensures.kept) (search rules) (search rules)

pub returns-clause-number : goal.returns-clause-number
returns-clause-number g c = c.audited_turn.ensures.kept.number ∙ c.requires.number
