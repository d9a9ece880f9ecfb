use Rattle.std.proofs.Common.{sym, ap, ◌∙◌, option_copied}
use Rattle.std.proofs.lemmas.Result.{on_ok_weaker}
use Rattle.mon_catalogue.specs.Sets.{empty_set}
use Rattle.ledger_sets.proofs.Made.{put_last}
use Rattle.ledger_sets.proofs.applying.put_set.Goals as goal

pub returns-in-None : goal.returns-in-None
returns-in-None c =
    on_ok_weaker c.add.result
    (λ added. added ∙ put_last c.args.name c.args.set (empty_set c.args.set.owner c.args.set.group c.args.set.mode c.args.set.acl) c.args.catalogue.now
    (sym (ap option_copied c.in-None.is) ∙ c.find.ensures))
    c.add.ensures
