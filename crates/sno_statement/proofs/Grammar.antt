-- A statement is read exactly where it is spelled, and tokens spell one at the most.
use Rattle.std.{proofs.Common.{◌≡◌, subst, refl}, specs.Prelude.{Some, Result, Ok, Err}}
use Rattle.sno_statement.{specs.declared.parser.Refusal.{Refusal}, specs.Statements.{Statement}, specs.Spelling.{Spells}, specs.Laws.{OneStatement, Taken}}
use Rattle.sno_statement.{specs.inner.Parsing.{Stated, States, stated, statement_in}, proofs.Completing.{stated_read}, proofs.Sound.{statement_sound}}

-- a statement is the only one that its tokens spell
pub one_statement : OneStatement
one_statement s t ts p q = cc (stated_read s ts p, stated_read t ts q)

pub taken : Taken
taken ts s = (λ e. at (statement_in ts) refl e, λ p. stated_read s ts p)
  where
    at : (x : Result Stated Refusal) → statement_in ts ≡ x → stated x ≡ Some s → Spells s ts
    at (Err r) e d = cc
    at (Ok (States u n)) e d = let c : u ≡ s = cc in subst (λ (x : Statement). Spells x ts) c (statement_sound ts u n e)
