use Rattle.std.proofs.Common.{◌++◌, ◌∙◌, ap, ℕ, option_copied}
use Rattle.acl_text.{specs.Texts.{is_hash}, specs.Printing.{entry_text}, specs.inner.Building.{separated}, proofs.Plainly.{plain_next, plain_clean}}
use Rattle.acl_text.proofs.plain_entry.next_entry.Goals as goal

pub returns-in-Some-clause-next : goal.returns-in-Some-clause-next
returns-in-Some-clause-next c =
    plain_next c.args.form c.args.n c.in-Some.entry c.in_ok-rest.field-0.now (option_copied c.args.rest) (option_copied c.in-Some.after)
    c.in-Some.ensures.entry (ap option_copied c.in_ok-rest.was)
    (c.in-Some.ensures.text ∙ ap (λ (s : ℕ). entry_text c.in-Some.entry ++ separated s (option_copied c.in-Some.after)) c.separator.ensures)

pub returns-in-Some-clause-clean : goal.returns-in-Some-clause-clean
returns-in-Some-clause-clean c = λ none.
    plain_clean is_hash c.separator.result c.in-Some.entry c.in_ok-rest.field-0.now (option_copied c.args.rest) (option_copied c.in-Some.after)
    (ap option_copied c.in_ok-rest.was) c.in-Some.ensures.text (c.requires none)
