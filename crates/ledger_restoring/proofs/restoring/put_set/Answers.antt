use Rattle.std.proofs.Common.{sym, ap, ◌∙◌, option_copied}
use Rattle.std.proofs.lemmas.Result.{on_ok_weaker}
use Rattle.mon_catalogue.specs.Sets.{empty_set}
use Rattle.ledger_sets.proofs.Made.{put_last}
use Rattle.ledger_restoring.proofs.restoring.put_set.Goals as goal

pub returns-in-None : goal.returns-in-None
returns-in-None c =
    on_ok_weaker c.add.result
    (λ added. added ∙ put_last c.args.name.now c.args.set.now (empty_set c.args.set.now.owner c.args.set.now.group c.args.set.now.mode c.args.set.now.acl) c.args.target.now
    (sym (ap option_copied c.in-None.is) ∙ c.find.ensures))
    c.add.ensures
