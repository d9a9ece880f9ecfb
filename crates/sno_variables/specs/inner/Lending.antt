-- A variable that is lent to be changed.
use Rattle.std.specs.Prelude.{ℕ, List, Option}
use Rattle.std.specs.Borrow.{Fml, MutBor, LendsIf}
use Rattle.sno_variables.specs.declared.variable.Variable.{Variable}
use Rattle.sno_variables.specs.contracts.variable.Variable.{the_row as variable_row}
use Rattle.sno_variables.specs.contracts.variables.Variables.{the_row as variables_row}
use Rattle.sno_variables.specs.Variables.{Variables, put}

-- once the loan ends, the variable of this name is as it was left; where there is none, all stay
abbrev pub LendsVariable : MutBor Variables → List ℕ → Option (MutBor Variable) → Fml
LendsVariable variables name lent = LendsIf variables_row variable_row variables lent (λ variable. put name variable variables.now) variables.now
