use Rattle.std.proofs.Common.{◌∷◌, ◌∙◌, get_or}
use Rattle.mon_acl.specs.{declared.entries.Tag.TheVariants.{User}, Entries.{rank}}
use Rattle.mon_access.{specs.Matches.{is_for_user}, specs.inner.Kinds.{stands_at}, proofs.Together.{alike, user_kind}}
use Rattle.mon_access.proofs.finding.of_user.Goals as goal

pub returns : goal.returns
returns c =
    c.of_name.ensures
    ∙ alike (stands_at (rank User ∷ c.args.account.now.name)) (is_for_user c.args.account.now) c.args.acl.now c.args.request
    (λ k d h. user_kind c.args.account.now.name (get_or c.args.acl.now k d) (c.requires.valid.entries k d h))
