-- How a text is put to a sink (own): piece by piece, into what is gathered, and from there to a writer.
use Rattle.std.specs.Prelude.{◌≡◌, ℕ, List, ◌++◌, Bool, true, false, Option}
use Rattle.mon_device.specs.Devices.{HasTaken}

-- How a sink stands: what the writer holds, where it tells; what is gathered and not yet written; and whether a write has
-- failed. What a text that is put leaves as it is: the bytes that the reader has left, how many reads were made, and to whom
-- the sink's memory and devices belong.
pub record Standing : Type 0 where
  pub written : Option (List ℕ)
  pub gathered : List ℕ
  pub failed : Bool
  pub remaining : Option (List ℕ)
  pub reads : ℕ
  pub lent : List ℕ

-- A text was put: all of it where nothing failed, and a beginning of what was due where something did. A sink that has failed
-- takes nothing more.
pub record Puts (a b : Standing) (text : List ℕ) : Type 0 where
  pub rest : List ℕ
  pub taken : HasTaken a.written b.written (a.gathered ++ text) rest
  pub all : b.failed ≡ false → (a.failed ≡ false) × (rest ≡ b.gathered)
  pub stays : a.failed ≡ true → b ≡ a
  pub apart : (b.remaining ≡ a.remaining) × (b.reads ≡ a.reads) × (b.lent ≡ a.lent)

-- A text was put but for what is gathered for it.
abbrev pub PutsBut : Standing → Standing → List ℕ → List ℕ → Type 0
PutsBut a b gathered text = (put : List ℕ) × Puts a b put × (put ++ gathered ≡ text)
