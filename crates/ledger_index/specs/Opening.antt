-- When an index is taken for the one that the ledger means (own), and why it is refused.
use Rattle.std.specs.Prelude.{ℕ, ◌==◌, ◌&&◌, bytes_eq, List, Result, Ok, Err, if◌then◌else◌}
use Rattle.std.specs.Option.{option_map_or}
use Rattle.ledger_text.specs.Digests.{digest_of}
use Rattle.ledger_index.specs.declared.fault.CheckpointFault.{CheckpointFault}
use Rattle.ledger_index.specs.declared.fault.CheckpointFault.TheVariants.{Changed, Broken, OtherChain}
use Rattle.ledger_index.specs.declared.opening.Sealed.{Sealed as CodeSealed}
use Rattle.ledger_index.specs.Index.{Index, index_of}

-- what the ledger says: so many commits stand before the checkpoint, the last of this digest, and its index has that digest
pub record Sealed : Type 0 where
  pub count : ℕ
  pub last : List ℕ
  pub digest : List ℕ

abbrev pub seen_sealed : CodeSealed → Sealed
seen_sealed sealed = record { count = sealed.count; last = sealed.last.now; digest = sealed.digest.now }

-- of the same commits
abbrev pub of_chain : Sealed → Index → Result Index CheckpointFault
of_chain sealed index =
    if (index.head.count == sealed.count) && bytes_eq index.head.last sealed.last then Ok index else Err OtherChain

abbrev pub opened : Sealed → List ℕ → Result Index CheckpointFault
opened sealed text =
    if bytes_eq (digest_of text) sealed.digest then option_map_or (of_chain sealed) (index_of text) (Err Broken) else Err Changed
