use Rattle.std.proofs.Common.{◌∙◌, ap, sym, Some}
use Rattle.acl_text.proofs.Places.{in_places}
use Rattle.acl_text.proofs.entry.perms_of.Goals as goal

pub returns-in-len3 : goal.returns-in-len3
returns-in-len3 c =
    ap Some c.new.ensures
    ∙ in_places c.args.field.now c.in-len3.len_at_least c.in-len3.len_below
    (sym c.is_place.ensures ∙ c.if-is_place.true) (sym c.is_place-then-is_place.ensures ∙ c.if-is_place-2.true) (sym c.is_place-then-is_place-2.ensures ∙ c.if-is_place-3.true)
