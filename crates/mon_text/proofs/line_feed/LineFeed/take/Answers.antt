use Rattle.std.proofs.Common.{rules, None, Some, [], ◌+◌, sym, ◌∙◌, ap, subst, ◌≡◌, ◌==◌, List, ℕ, length}
use Rattle.std.specs.Str.Lines.{strip_carriage_return}
use Rattle.mon_text.specs.Feeding.{IsUnfinished, HasToKeep, Takes}
use Rattle.mon_text.proofs.Cutting.{takes_none, takes_some, takes_whole, keeps_all, on_err, nothing_kept, uncut, kept_unfinished}
use Rattle.mon_text.proofs.line_feed.LineFeed.take.Goals as goal

pub invariant_of-self-in-None : goal.invariant_of-self-in-None
invariant_of-self-in-None c =
    subst IsUnfinished (sym c.in_ok-keep-in-None.ensures.kept)
    (kept_unfinished c.self.inside.kept.items c.args.piece.now (search (rules, c.self.invariant.unended)) (uncut c.args.piece.now (sym c.first_line_end.ensures.place ∙ c.in-None.is)))

pub returns-in_ok-keep-in-None-clause-taken : goal.returns-in_ok-keep-in-None-clause-taken
returns-in_ok-keep-in-None-clause-taken c =
    let taken = takes_none c.self.inside.kept.items c.args.piece.now c.keep.new.kept.items (search (rules, c.self.invariant.unended)) (sym c.first_line_end.ensures.place ∙ c.in-None.is) c.in_ok-keep-in-None.ensures.kept in
    subst (λ (old : List ℕ). Takes old c.args.piece.now (length c.args.piece.now) None c.keep.new.kept.items) c.self.view_is taken

pub returns-in-Some-clause-taken : goal.returns-in-Some-clause-taken
returns-in-Some-clause-taken c =
    let none : c.self.inside.kept.items ≡ [] = nothing_kept c.self.inside.kept.items (sym (ap (λ (n : ℕ). n == 0) c.self.inside.kept.ok.0) ∙ sym c.is_empty.ensures ∙ c.if-is_empty.true) in
    let taken = takes_whole c.args.piece.now c.without_carriage_return-line.result.now c.in-Some.end (sym c.first_line_end.ensures.place ∙ c.in-Some.is) c.without_carriage_return-line.ensures in
    subst (λ (old : List ℕ). Takes old c.args.piece.now (c.in-Some.end + 1) (Some c.without_carriage_return-line.result.now) old) (sym none ∙ c.self.view_is) taken

pub returns-in_ok-keep-in-Some-2-clause-taken : goal.returns-in_ok-keep-in-Some-2-clause-taken
returns-in_ok-keep-in-Some-2-clause-taken c =
    let line = c.whole_line-line.ensures.line ∙ ap strip_carriage_return c.in_ok-keep-in-Some-2.ensures.kept in
    let taken = takes_some c.self.inside.kept.items c.args.piece.now c.whole_line-line.result.items c.in-Some.end (search (rules, c.self.invariant.unended)) (sym c.first_line_end.ensures.place ∙ c.in-Some.is) line in
    subst (λ (new : List ℕ). Takes c.args.self.now c.args.piece.now (c.in-Some.end + 1) (Some c.whole_line-line.result.items) new) (sym c.whole_line-line.ensures.nothing)
    (subst (λ (old : List ℕ). Takes old c.args.piece.now (c.in-Some.end + 1) (Some c.whole_line-line.result.items) []) c.self.view_is taken)

pub returns-in_err-keep-in-None-clause-memory : goal.returns-in_err-keep-in-None-clause-memory
returns-in_err-keep-in-None-clause-memory c =
    let kept = keeps_all c.self.inside.kept.items c.args.piece.now (sym c.first_line_end.ensures.place ∙ c.in-None.is) c.in_err-keep-in-None.ensures.memory.0 c.in_err-keep-in-None.ensures.memory.1 in
    on_err c.from_residual.result (subst (λ (old : List ℕ). HasToKeep old c.args.piece.now) c.self.view_is kept)

pub returns-in_ok-keep-in-None-clause-unended : goal.returns-in_ok-keep-in-None-clause-unended
returns-in_ok-keep-in-None-clause-unended c =
    let kept : IsUnfinished c.keep.new.kept.items =
    subst IsUnfinished (sym c.in_ok-keep-in-None.ensures.kept)
    (kept_unfinished c.self.inside.kept.items c.args.piece.now (search (rules, c.self.invariant.unended)) (uncut c.args.piece.now (sym c.first_line_end.ensures.place ∙ c.in-None.is))) in
    kept.unended
