use Rattle.std.proofs.Common.{◌≡◌, ◌++◌, ◌+◌, true, false, drop, get_or, sym, ap, ◌∙◌, arith}
use Rattle.std.specs.List.{slice_range}
use Rattle.sno_cards.specs.{Statements.{ends_statement, placed_on}, inner.Cuts.{Cut, cut_of, fed}}
use Rattle.sno_cards.proofs.{Feeding.{piece_ends, piece_goes_on}, cutting.Cutting.feed.Goals.{then-ends_statement+in_ok-cut, else-ends_statement}}
use Rattle.sno_cards.proofs.cutting.Cutting.feed.Goals as goal

pub loop-index-preserved : goal.loop-index-preserved
loop-index-preserved c =
    let text = c.args.text.now in
    let i = c.loop-index.index in
    let from = c.loop-index.from in
    let next : Cut = cut_of c.if-ends_statement.self in
    let begun : Cut = record (cut_of c.loop-index.self) { piece = c.loop-index.self.piece ++ placed_on c.args.card (c.args.column + from) (slice_range text from i) } in
    record {
      whole = c.loop-index.invariant.whole ∙ (elim c.if-ends_statement.branch [
        | then-ends_statement+in_ok-cut w ↦
            let ends : ends_statement c.loop-index.self.literal (get_or text i 0) ≡ true = sym c.ends_statement.ensures ∙ w.if-ends_statement.true in
            piece_ends c.args.card c.args.column text c.if-ends_statement.from i 0 begun next c.literal_after-self.result c.loop-index-test.true ends
            (ap cut_of w.self-is ∙ w.in_ok-cut.ensures) w.from-is c.literal_after-self.ensures
        | else-ends_statement w ↦
            let goes : ends_statement c.loop-index.self.literal (get_or text i 0) ≡ false = sym c.ends_statement.ensures ∙ w.if-ends_statement.false in
            piece_goes_on c.args.card c.args.column text from i 0 (cut_of c.loop-index.self) next c.literal_after-self.result c.loop-index.invariant.within c.loop-index-test.true goes
            (ap cut_of w.self-is) c.literal_after-self.ensures
            ∙ ap (λ k. fed (record {
              statements = next.statements;
              piece = next.piece ++ placed_on c.args.card (c.args.column + k) (slice_range text k (i + 1));
              literal = c.literal_after-self.result;
            }) (placed_on c.args.card (c.args.column + (i + 1)) (drop (i + 1) text))) (sym w.from-is)
      ]);
      within = elim c.if-ends_statement.branch [
        | then-ends_statement+in_ok-cut w ↦ omega (arith, w.from-is)
        | else-ends_statement w ↦ omega (arith, w.from-is)
      ];
    }
