-- What stays is a front of the text.
use Rattle.std.proofs.Common.{◌≡◌, sym, ◌∙◌, ap, length, subst}
use Rattle.std.proofs.lemmas.Result.{IfOk-weaker}
use Rattle.mon_text.specs.Lines.{IsLine}
use Rattle.sno_text.{specs.Texts.{without_trailing_blanks}, proofs.Printable.{line_of_take}, proofs.Trimming.{front_of, whole}}
use Rattle.sno_text.proofs.text.Text.trimmed.Goals as goal

pub returns-then-kept-len-clause-value : goal.returns-then-kept-len-clause-value
returns-then-kept-len-clause-value c =
    let kept = c.without_trailing_blanks-kept.ensures ∙ ap without_trailing_blanks c.as_bytes.ensures.value in
    let same : c.args.self.now ≡ without_trailing_blanks c.args.self.now = whole c.args.self.now (ap length (sym kept) ∙ c.if-kept-len.true ∙ c.len.ensures) in
    IfOk-weaker c.copy.result (λ text. text ≡ c.args.self.now) (λ text. text ≡ without_trailing_blanks c.args.self.now) (λ text h. h ∙ same) c.copy.ensures.value

pub of_slice-requires : goal.of_slice-requires
of_slice-requires c =
    let text = c.as_bytes.result.now in
    let front = line_of_take (length (without_trailing_blanks text)) text (rw c.as_bytes.ensures.value c.as_bytes.ensures.printable) in
    subst IsLine (sym (c.without_trailing_blanks-kept.ensures ∙ front_of text)) front
