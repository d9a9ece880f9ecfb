use Rattle.std.proofs.Common.{◌∙◌, List, ℕ, [], ap, sym}
use Rattle.mon_device.proofs.Putting.{puts_nothing}
use Rattle.deck_driver.specs.Abstraction.{told}
use Rattle.rounds.proofs.Stopping.{none_ends}
use Rattle.rounds.proofs.running.start.Goals as goal

pub returns : goal.returns
returns c = λ a. record {
  marks = [];
  tells = λ rest bytes. ap (λ (t : List ℕ). told rest t c.new-feed.result bytes) c.new-output.ensures.items ∙ c.new-feed.ensures.start rest bytes;
  ends = λ rest. c.new-ends.ensures.items;
  empty = c.in_ok-printed.ensures;
  fed = c.new-feed.ensures.fed;
  options_are = c.new-feed.ensures.options;
  back = c.new-feed.ensures.reads_back;
  audit = [];
  audits = λ rest bytes. sym (c.new-feed.ensures.audit rest bytes);
  audited = puts_nothing a;
  settled = λ ends. none_ends ends;
}
