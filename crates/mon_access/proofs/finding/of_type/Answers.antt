use Rattle.std.proofs.Common.{◌∷◌, [], ◌∙◌, get_or}
use Rattle.mon_acl.specs.Entries.{rank, has_tag}
use Rattle.mon_access.{specs.inner.Kinds.{stands_at}, proofs.Halves.{found_at, found_nowhere}, proofs.Together.{alike, lone_kind}}
use Rattle.mon_access.proofs.finding.of_type.Goals as goal

pub returns-in-Some : goal.returns-in-Some
returns-in-Some c =
    c.judged.ensures
    ∙ found_at c.args.acl.now c.args.tag [] c.requires.list.canonical c.args.request c.perms_at.result c.in-Some.index c.in-Some.ensures.0 c.in-Some.ensures.1 c.perms_at.ensures
    ∙ alike (stands_at (rank c.args.tag ∷ [])) (has_tag c.args.tag) c.args.acl.now c.args.request
    (λ k d h. lone_kind c.args.tag (get_or c.args.acl.now k d) c.requires.lone (c.requires.list.valid.entries k d h))

pub returns-in-None : goal.returns-in-None
returns-in-None c =
    found_nowhere c.args.acl.now c.args.tag [] c.args.request c.in-None.ensures
    ∙ alike (stands_at (rank c.args.tag ∷ [])) (has_tag c.args.tag) c.args.acl.now c.args.request
    (λ k d h. lone_kind c.args.tag (get_or c.args.acl.now k d) c.requires.lone (c.requires.list.valid.entries k d h))
