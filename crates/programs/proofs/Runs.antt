-- A run of operators is written as its tree.
use Rattle.std.proofs.Common.{◌≡◌, ℕ, zero, suc, ◌<◌, length, drop, arith, OnOk, Result, Ok, Err, List, [], ◌∷◌, ◌++◌, refl, sym, ap, ◌∙◌, append_assoc}
use Rattle.std.{specs.Prelude.{codes}, proofs.lemmas.List.{append-nil}}
use Rattle.sno_expression.specs.{declared.tree.Pending.{Pending}, declared.tree.Operands.{Operands, out-Operands}, Expressions.{Expression}}
use Rattle.sno_expression.{specs.Abstraction.{expression_of}, specs.inner.Runs.{right_of, spread_all}, proofs.Runs.{right_is}}
use Rattle.programs.specs.inner.{Trees.{expression_text}, Runs.{left_text, lefts_text, ends_text}}

shuffled : (a b c d x : List ℕ) → (a ++ (b ++ (c ++ d))) ++ x ≡ (a ++ b) ++ (c ++ (d ++ x))
shuffled a b c d x =
    append_assoc a (b ++ (c ++ d)) x
    ∙ (ap (λ (z : List ℕ). a ++ z) (append_assoc b (c ++ d) x ∙ ap (λ (z : List ℕ). b ++ z) (append_assoc c d x))
    ∙ sym (append_assoc a b (c ++ (d ++ x))))

run_text : (js : List Pending) (t : Expression) → expression_text (spread_all js t) ≡ lefts_text js ++ (expression_text t ++ ends_text js)
run_text [] t = sym (append-nil (expression_text t))
run_text (j ∷ js) t =
    ap (λ (z : List ℕ). left_text j ++ z ++ codes ")") (run_text js t)
    ∙ shuffled (left_text j) (lefts_text js) (expression_text t) (ends_text js) (codes ")")

pub run_put : {E : Type 0} (r : Result (Unit {0}) E) (all : Operands) (run : List Pending) (old first second new : List ℕ) → run ≡ (out-Operands all).run.items
    → first ≡ old ++ lefts_text run → second ≡ first ++ expression_text (expression_of (out-Operands all).last) → OnOk r (new ≡ second ++ ends_text run)
    → OnOk r (new ≡ old ++ expression_text (right_of all))
run_put (Err _) all run old first second new is e f g = tt
run_put (Ok _) all run old first second new is e f g =
    g
    ∙ (ap (λ (z : List ℕ). z ++ ends_text run) (f ∙ ap (λ (z : List ℕ). z ++ last) e)
    ∙ (append_assoc (old ++ lefts_text run) last (ends_text run) ∙ append_assoc old (lefts_text run) (last ++ ends_text run)
    ∙ ap (λ (z : List ℕ). old ++ z) (sym (run_text run (expression_of (out-Operands all).last))
    ∙ (ap (λ (js : List Pending). expression_text (spread_all js (expression_of (out-Operands all).last))) is ∙ ap expression_text (sym (right_is all))))))
  where
    last : List ℕ
    last = expression_text (expression_of (out-Operands all).last)

pub one_end : (k : ℕ) (js : List Pending) → k < length js → ends_text (drop k js) ≡ ends_text (drop (suc k) js) ++ codes ")"
one_end k [] lt = absurd (omega (arith, lt))
one_end zero (j ∷ js) lt = refl
one_end (suc k) (j ∷ js) lt = one_end k js (omega (arith, lt))
