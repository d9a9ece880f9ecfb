-- So many texts were served, and the next has the number behind them.
use Rattle.std.proofs.Common.{◌≡◌, ℕ, List, [], take}
use Rattle.mon_device.specs.Putting.{Standing}
use Rattle.deck_driver.specs.declared.options.Options.{Options}
use Rattle.rounds.specs.Serving.{Stands}
use Rattle.rounds.proofs.running.serve_texts.Given as goal

abbrev pub invariant-loop-text : goal.invariant-loop-text
invariant-loop-text g l = record {
  stands : (options : Options) (head : List ℕ) (a : Standing) → Stands options head [] l.fn.running a (g.A.Sink.standing l.fn.audit)
      → Stands options head (take l.text-index l.texts) l.running a (g.A.Sink.standing l.audit);
  number : l.number ≡ l.text-index;
}
