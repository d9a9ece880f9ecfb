use Rattle.std.proofs.Common.{ap, [], ◌∷◌, arith}
use Rattle.std.specs.Option.{option_and_then}
use Rattle.ledger_tables.specs.Tables.{three_of}
use Rattle.ledger_tables.proofs.laws.reads_tables.Goals as goal

pub returns : goal.returns
returns c = λ texts short.
    ap (option_and_then three_of)
    (c.reads_back.ensures (texts.accounts ∷ texts.users ∷ texts.limits ∷ []) (omega arith, (short.0, (short.1.0, (short.1.1, tt)))))
