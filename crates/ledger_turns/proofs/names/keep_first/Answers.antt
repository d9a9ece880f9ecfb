use Rattle.std.proofs.Common.{◌≡◌, ℕ, Vec, Global}
use Rattle.ledger_turns.{specs.Names.{place_from}, proofs.Sorting.{first_kept}}
use Rattle.ledger_turns.proofs.names.keep_first.Goals as goal

pub returns : goal.returns
returns c =
    let place : c.place_of-place.result ≡ place_from (λ (other : Vec ℕ Global). other.items) 0 c.args.name.items c.args.names.now.items =
    cc (c.place_of-place.ensures.place, c.deref.ensures.value, c.deref-2.ensures.value) in
    first_kept (λ (other : Vec ℕ Global). other.items) c.args.name c.args.names.now.items c.place_of-place.result c.args.most c.put_name.new.names.items c.truncate.new.self.items
    place c.in_ok-put_name.ensures c.truncate.ensures.items
