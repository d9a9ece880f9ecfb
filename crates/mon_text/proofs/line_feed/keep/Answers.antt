use Rattle.std.proofs.Common.{◌-◌, ap, ◌∙◌, take, ◌++◌, arith}
use Rattle.std.proofs.lemmas.List.{take_min}
use Rattle.mon_text.proofs.Cutting.{kept_more}
use Rattle.mon_text.proofs.line_feed.keep.Goals as goal

pub returns-clause-kept : goal.returns-clause-kept
returns-clause-kept c =
    c.in_ok-extend_from_slice.ensures.items
    ∙ ap (λ cs. c.args.kept.now.items ++ cs) (ap (λ k. take k c.args.more.now) c.min.ensures ∙ take_min (5002 - c.len-room.result) c.args.more.now)
    ∙ kept_more c.args.kept.now.items c.args.more.now (5002 - c.len-room.result) 5002 (omega arith)
