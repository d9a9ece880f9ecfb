-- The file has what was put to it.
use Rattle.std.proofs.Common.{rules, inl, ap, sym, ◌∙◌}
use Rattle.std.specs.Option.{option_and_then}
use Rattle.mon_device.specs.{Putting.{Standing}, Telling.{where_told}}
use Rattle.snomon_library.{specs.declared.heeding.PerhapsFile.{PerhapsFile}, proofs.Kept.{audits, heard, heard_is, lent_still}}
use Rattle.snomon_library.proofs.audited_run.run_into.Goals as goal

pub returns-clause-audited : goal.returns-clause-audited
returns-clause-audited g c = λ heeds.
    let first = c.new-audit.ensures ∙ heard_is _ _ (c.is_some-is_heard.ensures ∙ c.requires.heard ∙ heeds) ∙ c.new-sink.ensures in
    let now_is = heard_is _ _ (c.run_options-ended.new.audit.heard ∙ heeds) in
    let ends = heard _ _ _ _ _ _ _ _ _ _ _ _ heeds c.run_options-ended.ensures.ends in
    let lent = ap (λ (s : Standing). s.lent) (sym now_is) ∙ lent_still _ _ _ _ _ _ _ _ _ _ _ _ ends ∙ ap (λ (s : Standing). s.lent) first in
    inl (audits _ _ _ _ _ _ _ _ _ _ _ _ _ ends
    (ap (λ (s : Standing). s.written) first ∙ ap (λ (p : PerhapsFile g.row.F.Denot). where_told g.T.Telling.tells (option_and_then g.F.Write.contents p.file)) (rw c.new-devices.ensures.writer c.new-kept.ensures.inner))
    (ap (λ (s : Standing). s.gathered) first ∙ c.in-Ok.ensures)
    (ap (λ (s : Standing). s.failed) first)
    (ap (λ (s : Standing). s.written) now_is ∙ search (rules, lent)))
