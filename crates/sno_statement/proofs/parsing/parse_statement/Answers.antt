-- What is answered is the one statement with its variables, or the leftmost fault.
use Rattle.std.{proofs.Common.{arith, ◌≡◌, ℕ, ◌-◌, length, List, sym, ap, ◌∙◌}, specs.Prelude.{Bool, true, false, nat_eq, Some, None, Ok, Err, if◌then◌else◌}, proofs.lemmas.Bool.Decides.{nat_tests}}
use Rattle.sno_lexer.specs.declared.token.Token.{Token}
use Rattle.sno_statement.{specs.declared.fault.Fault.{Fault}, specs.declared.fault.FaultKind.TheVariants.{NoVariable}, specs.declared.parser.Refusal.{Refusal}}
use Rattle.sno_statement.{specs.declared.statement.Statement.{Statement as AStatement}, specs.Statements.{Statement}, specs.Abstraction.{statement_of, Parsed}}
use Rattle.sno_statement.{specs.inner.Parsing.{FaultAt, States, statement_in, blame, fault_of}, proofs.Grammar.{one_statement}, proofs.Leftmost.{found, has_variables}, proofs.Sound.{statement_sound}}
use Rattle.sno_statement.proofs.parsing.parse_statement.Goals as goal

is_refused : (ts : List Token) (r : Refusal) (f : Fault) → Err r ≡ statement_in ts → f ≡ blame (length ts) r → Parsed ts (Err f)
is_refused ts r f e d = found ts f (ap (fault_of (length ts)) (sym e) ∙ ap (λ (x : Fault). Some x) (sym d))

is_lacking : (ts : List Token) (s : Statement) (n : ℕ) (f : Fault) → Ok (States s n) ≡ statement_in ts → nat_eq n 0 ≡ false → f ≡ FaultAt (length ts - n) NoVariable → Parsed ts (Err f)
is_lacking ts s n f e d h =
    found ts f (ap (fault_of (length ts)) (sym e)
    ∙ (ap (λ (c : Bool). if c then None else Some (FaultAt (length ts - n) NoVariable)) d ∙ ap (λ (x : Fault). Some x) (sym h)))

is_read : (ts : List Token) (s : AStatement) (n : ℕ) → Ok (States (statement_of s) n) ≡ statement_in ts → nat_eq n 0 ≡ true → Parsed ts (Ok s)
is_read ts s n e d =
    let q = statement_sound ts (statement_of s) n (sym e) in
    (has_variables ts (statement_of s) n (sym e) d, q, λ u p. one_statement u (statement_of s) ts p q)

pub returns-in-Err : goal.returns-in-Err
returns-in-Err c = is_refused c.args.tokens.now c.in-Err.refusal c.blame.result (rw c.in-Err.is at c.in_ok-refusal.ensures) c.blame.ensures

pub returns-then-lacking-eq0 : goal.returns-then-lacking-eq0
returns-then-lacking-eq0 c =
    let n = c.in-Ok.lacking in
    let d : nat_eq n 0 ≡ true = grind (arith, nat_tests, c.if-lacking-eq0.true) in
    is_read c.args.tokens.now c.read_statement.new.statement n (rw c.in-Ok.is at c.in_ok-refusal.ensures) d

pub returns-else-lacking-eq0 : goal.returns-else-lacking-eq0
returns-else-lacking-eq0 c =
    let n = c.in-Ok.lacking in
    let d : nat_eq n 0 ≡ false = grind (arith, nat_tests, c.if-lacking-eq0.false) in
    is_lacking c.args.tokens.now (statement_of c.read_statement.new.statement) n (FaultAt c.saturating_sub.result NoVariable) (rw c.in-Ok.is at c.in_ok-refusal.ensures) d
    (ap (λ (x : ℕ). FaultAt x NoVariable) c.saturating_sub.ensures)
