use Rattle.std.proofs.Common.{◌≡◌, ℕ, List, subst, arith}
use Rattle.std.{specs.Str.Lines.{lines}, proofs.lemmas.Bool.Decides.{nat_tests}}
use Rattle.deck_syntax.specs.Decks.{Asked}
use Rattle.preflight.specs.Examined.{IsSubmission}
use Rattle.text_names.specs.Names.{Speaks}
use Rattle.ledger_frames.proofs.Needed.{stays_within}
use Rattle.ledger_frames.proofs.needs.enough_for.Goals as goal

pub returns : goal.returns
returns c asked admitted =
    let none : c.args.text.now.tally.creates ≡ 0 = grind (arith, nat_tests, c.if-text-gt0.false) in
    stays_within c.args.text.now c.in_ok-read.read asked none c.if-read.false
    (subst (λ (t : List ℕ). (own : List ℕ) (ask : List Asked) → IsSubmission own (lines t) ask → Speaks c.in_ok-read.read.names.items c.in_ok-read.read.all ask)
    c.deref.ensures.value c.in_ok-read.ensures.speaks)
    admitted
