use Rattle.mon_monitor.proofs.Printing.{printed_put}
use Rattle.mon_monitor.proofs.printed.Printed.print.Goals as goal

pub returns : goal.returns
returns g c =
    printed_put _ _ _ c.args.self.now c.self.inside.text.items c.deref.result.now c.self.inside.rest.items c.deref-2.result.now c.self.view_is c.deref.ensures.value c.deref-2.ensures.value
    c.put.ensures c.print_pieces.ensures
