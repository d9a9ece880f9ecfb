-- Texts of entries, as the code has them.
use Rattle.std.specs.Prelude.{ℕ, List, map}
use Rattle.std.specs.Global.{Vec}
use Rattle.ledger_index.specs.Index.{Entry, entry_text}

abbrev pub texts_in : List (Vec ℕ) → List (List ℕ)
texts_in texts = map (λ text. text.items) texts

abbrev pub entry_texts : List Entry → List (List ℕ)
entry_texts entries = map entry_text entries
