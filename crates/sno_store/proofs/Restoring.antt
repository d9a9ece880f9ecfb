-- What a call saved is there again.
use Rattle.std.proofs.Common.{ap, ◌∙◌}
use Rattle.sno_declarations.specs.Prototypes.{names_of}
use Rattle.sno_variables.{specs.Variables.{value_of}, proofs.Assigned.{restores, leaves}}
use Rattle.sno_store.{proofs.Left.{left_by}, specs.Laws.{CallRestores, CallLeavesOthers}}

pub call_restores : CallRestores
call_restores = λ d arguments s t name same_levels among.
    ap (λ ls. value_of name (left_by ls t).variables) same_levels ∙ restores s.variables name (names_of d.prototype) t.variables among

pub call_leaves_others : CallLeavesOthers
call_leaves_others = λ d arguments s t name same_levels apart.
    ap (λ ls. value_of name (left_by ls t).variables) same_levels ∙ leaves s.variables name (names_of d.prototype) t.variables apart
