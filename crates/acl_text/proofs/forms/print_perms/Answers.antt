use Rattle.std.proofs.Common.{◌∙◌, ap}
use Rattle.std.specs.Prelude.{Bool}
use Rattle.acl_text.{specs.Printing.{letter}, proofs.Putting.{perms_put}}
use Rattle.acl_text.proofs.forms.print_perms.Goals as goal

pub returns : goal.returns
returns g c = perms_put _ _ c.args.perms _ _ _ (c.place_of.ensures ∙ ap (λ (held : Bool). letter held 114) c.read.ensures)
    (c.place_of-2.ensures ∙ ap (λ (held : Bool). letter held 119) c.write.ensures)
    (c.place_of-3.ensures ∙ ap (λ (held : Bool). letter held 120) c.execute.ensures) c.put.ensures
