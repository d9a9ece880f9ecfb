-- Texts of records, as the code has them.
use Rattle.std.specs.Prelude.{ℕ, List, map}
use Rattle.std.specs.Global.{Vec}
use Rattle.ledger_text.specs.Records.{Said}
use Rattle.ledger_sets.specs.Changes.{said_text}

abbrev pub texts_in : List (Vec ℕ) → List (List ℕ)
texts_in texts = map (λ text. text.items) texts

abbrev pub said_texts : List Said → List (List ℕ)
said_texts changes = map said_text changes
