use Rattle.std.proofs.Common.{◌≡◌, ℕ, length, ap, ◌∙◌}
use Rattle.std.{specs.Str.Lines.{lines}, proofs.lemmas.Result.{err_from_is_err_and}}
use Rattle.preflight.{specs.declared.tally.Tally.{Tally}, proofs.FirstWrong.{wrong_answer}, proofs.Kept.{kept_lines, is_kept}}
use Rattle.preflight.proofs.submission.examine.Goals as goal

pub returns-in_err-counted-clause-refused : goal.returns-in_err-counted-clause-refused
returns-in_err-counted-clause-refused c =
    let p = err_from_is_err_and c.from_residual.result c.from_residual.ensures.1 in
    wrong_answer c.args.own.now (lines c.args.text.now) c.from_residual.result p.0 c.in_err-counted.field-0.0 p.1 p.2 c.in_err-counted.ensures.refused

pub returns-clause-admitted : goal.returns-clause-admitted
returns-clause-admitted c =
    let counted = c.in_ok-counted.counted in
    let told = c.in_ok-counted.ensures.admitted in
    let bytes : c.len-bytes.result ≡ length c.in_ok-whole.whole.items = c.len-bytes.ensures ∙ c.in_ok-whole.whole.ok.0 in (
      told.0,
      is_kept _ c.args.own.now c.args.text.now counted told.0 told.1 told.2 c.copy.ensures c.in_ok-whole.ensures (ap (λ (n : ℕ). (let r : Tally = record counted { bytes = n } in r)) bytes),
    )

pub returns-clause-lines : goal.returns-clause-lines
returns-clause-lines c =
    let told = c.in_ok-counted.ensures.admitted in
    kept_lines c.args.own.now c.args.text.now c.in_ok-whole.whole.items told.0 told.1 c.in_ok-whole.ensures
