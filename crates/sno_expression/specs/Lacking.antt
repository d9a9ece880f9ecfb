-- Where a tree lacks a variable: for each of its tokens, whether an element begins there that should be a variable and is
-- none (own).
use Rattle.std.specs.Prelude.{Bool, false, not, ◌&&◌, ◌++◌, List, [], ◌∷◌}
use Rattle.sno_expression.specs.declared.tree.BinaryOperator.TheVariants.{Concatenation}
use Rattle.sno_expression.specs.Marks.{needs_variable, operand_is_variable}
use Rattle.sno_expression.specs.Expressions.{Expression, Arguments, Identifier, Constant, Keyword, Unevaluated, Group, Call, TableItem, Unary, Binary, NoArguments, Omitted, Argument, is_variable}

-- behind the arguments so far stands a comma, and none where there are none
abbrev pub comma_behind : Arguments → List Bool
comma_behind args = elim args [ NoArguments ↦ [] | _ ↦ false ∷ [] ]

-- for each token of a tree, does an element begin there that should be a variable and is none; needed: should the tree be
-- one; between two operands stands a mark, and none where they are concatenated
abbrev mutual
  pub lacking : Bool → Expression → List Bool
  lacking needed (Identifier n) = false ∷ []
  lacking needed (Constant c) = needed ∷ []
  lacking needed (Keyword n) = needed ∷ false ∷ []
  lacking needed (Unevaluated n) = needed ∷ false ∷ []
  lacking needed (Group t) = needed ∷ (lacking false t ++ false ∷ [])
  lacking needed (Call f args) = needed ∷ false ∷ (lacking_among args ++ false ∷ [])
  lacking needed (TableItem n t) = needed ∷ false ∷ (lacking false t ++ false ∷ [])
  lacking needed (Unary s t) = (needed && not (is_variable (Unary s t))) ∷ lacking (operand_is_variable s) t
  lacking needed (Binary o l r) = lacking needed l ++ (elim o [ Concatenation ↦ [] | other ↦ false ∷ [] ] ++ lacking (needs_variable o) r)

  pub lacking_among : Arguments → List Bool
  lacking_among NoArguments = []
  lacking_among (Omitted args) = lacking_among args ++ comma_behind args
  lacking_among (Argument args t) = lacking_among args ++ (comma_behind args ++ lacking false t)
