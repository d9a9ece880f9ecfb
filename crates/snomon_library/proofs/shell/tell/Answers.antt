use Rattle.std.proofs.Common.{List, ℕ, sym, subst}
use Rattle.std.specs.Io.KnownBytes.{Appends}
use Rattle.snomon_library.proofs.Told.{both_told, fault_told}
use Rattle.snomon_library.proofs.shell.tell.Goals as goal

pub returns-in-Some : goal.returns-in-Some
returns-in-Some g c =
    both_told c.tell_shortage.result (g.E.Write.contents c.args.errors.now) (g.E.Write.contents c.tell_fault.new.errors) _ c.args.fault.now c.args.shortage.now c.in-Some.shortage
    c.in-Memory.is c.in-Some.is c.in_ok-tell_fault.ensures c.tell_shortage.ensures

pub returns-in_default : goal.returns-in_default
returns-in_default g c =
    subst (λ (text : List ℕ). Appends (g.E.Write.contents c.args.errors.now) (g.E.Write.contents c.tell_fault.new.errors) text)
    (sym (fault_told c.args.fault.now c.args.shortage.now c.in_default.not-Memory)) c.in_ok-tell_fault.ensures
