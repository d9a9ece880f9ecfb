-- The data sets and the ties, part by part.
use Rattle.std.specs.{Prelude.{ℕ, List, Option}, Option.{option_map_or}}
use Rattle.mon_catalogue.specs.{Sets.{Sets}, Writing.{Change}, declared.data_set.DataSet.{DataSet}}
use Rattle.mon_guard.specs.Acting.{changed, Acted}
use Rattle.mon_unit.specs.{declared.tie.Tie.{Tie}, Tying.{tied_to, first_target, tie_at}, declared.tie.Target.{Target}, State.{UnitState}}
use Rattle.mon_unit.specs.Serving.{acted_at, moved, note_act, note_target, noted, spooled, unit_of}
use Rattle.mon_access.specs.declared.account.Account.{Account}
use Rattle.interaction.specs.declared.{answer.Answer.{Answer}, request.Request.{Request}}

abbrev pub first_tie : ℕ → Tie
first_tie u = tied_to (first_target u)

-- that data set alone is changed
abbrev pub changed_at : Option (List ℕ) → Option Change → Sets → Sets
changed_at name change sets = option_map_or (λ n. changed n change sets) name sets

-- what a request does: the answer, the units then, and the change of the data set that it looked at
pub record Effect : Type 0 where
  pub answer : Answer
  pub units : UnitState
  pub change : Option Change

abbrev pub effect_of : Request → Target → UnitState → Acted → Effect
effect_of q target units acted = record {
  answer = acted.answer;
  units = noted q.statement (note_act q.act) (note_target (unit_of q.act) target) acted.answer
      (moved (unit_of q.act) acted.position (spooled q.act target units));
  change = acted.change;
}

-- what a request does, by the tie of its unit and by the data set that it looks at
abbrev pub effect : Account → UnitState → Request → Option DataSet → Effect
effect account units q set =
    let tie = tie_at units (unit_of q.act) in effect_of q tie.target units (acted_at account q.act units tie.position tie.target set)
