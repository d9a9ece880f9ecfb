use Rattle.std.proofs.Common.{ℕ, List, subst, sym}
use Rattle.std.specs.Str.Lines.{lines}
use Rattle.preflight.specs.Examined.{IsSubmission}
use Rattle.round_cut.proofs.cutting.read_one.Goals as goal

pub returns : goal.returns
returns c = record {
  text = c.in_ok-text.text;
  read = record {
    number = c.in_ok-text.ensures.number;
    speaks = λ own asked is. c.in_ok-text.ensures.speaks own asked (subst (λ (bytes : List ℕ). IsSubmission own (lines bytes) asked) (sym c.deref.ensures.value) is);
  };
  is = c.in_ok-push.ensures.items;
}
