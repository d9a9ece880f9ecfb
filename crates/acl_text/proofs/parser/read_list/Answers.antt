use Rattle.std.proofs.Common.{Some, None, Ok, refl, List, ◌∙◌, ap, sym}
use Rattle.mon_acl.specs.declared.entries.Entry.{Entry}
use Rattle.acl_text.{specs.Refusals.{lacking}, specs.inner.Building.{pieces_in}, proofs.Steps.{read_whole, five_read}, proofs.Valid.{read_acl}}
use Rattle.acl_text.proofs.parser.read_list.Goals as goal

pub returns-in-Some-clause-read : goal.returns-in-Some-clause-read
returns-in-Some-clause-read c =
    read_whole (pieces_in c.args.form c.args.text.now) c.in_ok-entries.entries.items (Some c.in-Some.refusal) c.in_ok-entries.ensures.read (sym c.in-Some.is ∙ c.lacking.ensures ∙ ap lacking c.as_slice.ensures)

pub new-requires : goal.new-requires
new-requires c =
    read_acl (pieces_in c.args.form c.args.text.now) c.in_ok-entries.entries.items
    (read_whole (pieces_in c.args.form c.args.text.now) c.in_ok-entries.entries.items None c.in_ok-entries.ensures.read
    (sym c.in_default.is ∙ c.lacking.ensures ∙ ap lacking c.as_slice.ensures))

pub returns-in-Ok-clause-read : goal.returns-in-Ok-clause-read
returns-in-Ok-clause-read c =
    read_whole (pieces_in c.args.form c.args.text.now) c.in_ok-entries.entries.items None c.in_ok-entries.ensures.read
    (sym c.in_default.is ∙ c.lacking.ensures ∙ ap lacking c.as_slice.ensures)
    ∙ ap (λ (es : List Entry). Ok es) (sym c.in-Ok.ensures.list)

pub returns-in-Err-clause-memory : goal.returns-in-Err-clause-memory
returns-in-Err-clause-memory c = λ h.
    five_read (pieces_in c.args.form c.args.text.now) c.in_ok-entries.entries.items c.in_ok-entries.ensures.read (c.in-Err.ensures.memory refl)
