-- The digest by which a commit names the one before it (FIPS 180-4, SHA-256; in lower hexadecimal digits).
use Rattle.std.specs.Prelude.{List, ℕ}
use Rattle.sha2.specs.Sha256.{sha256}
use Rattle.hex.specs.Hex.{encode_lower}

abbrev pub digest_of : List ℕ → List ℕ
digest_of text = encode_lower (sha256 text)
