use Rattle.std.proofs.Common.{rules, ◌≡◌, ◌∙◌, true, false, get_or, sym}
use Rattle.mon_acl.specs.{declared.entries.Tag.TheVariants.{GroupObj}, Entries.{has_tag}}
use Rattle.mon_access.{specs.Matches.{is_in_group, is_for_owning_group}, proofs.Halves.{nobody}, proofs.Together.{alike, and_true, and_false}}
use Rattle.mon_access.proofs.finding.of_owning_group_to.Goals as goal

pub returns-then-is_in_group : goal.returns-then-is_in_group
returns-then-is_in_group c =
    let is_in : is_in_group c.args.account.now c.args.group.now ≡ true = search rules in
    c.of_type.ensures
    ∙ alike (has_tag GroupObj) (is_for_owning_group c.args.account.now c.args.group.now) c.args.acl.now c.args.request
    (λ k d h. rw is_in (sym (and_true (has_tag GroupObj (get_or c.args.acl.now k d)))))

pub returns-else-is_in_group : goal.returns-else-is_in_group
returns-else-is_in_group c =
    let is_out : is_in_group c.args.account.now c.args.group.now ≡ false = search rules in
    nobody (is_for_owning_group c.args.account.now c.args.group.now) c.args.acl.now c.args.request
    (λ k d h. rw is_out (and_false (has_tag GroupObj (get_or c.args.acl.now k d))))
