-- What several steps come to: the variables that there are at first, one after the other.
use Rattle.std.proofs.Common.{◌≡◌, false, [], ◌∙◌, ap}
use Rattle.std.specs.Prelude.{codes}
use Rattle.sno_variables.specs.{Variables.{Variables, reading, writing}, First.{with_patterns, first_variables}}

pub first_by : (a b c d : Variables) → a ≡ with_patterns [] → b ≡ reading (codes "INPUT") (record { unit = 5; most = 1024 }) a
    → c ≡ writing (codes "OUTPUT") (record { unit = 6; format = record { characters = 132; blank = false } }) b
    → d ≡ writing (codes "PUNCH") (record { unit = 7; format = record { characters = 80; blank = false } }) c → d ≡ first_variables
first_by a b c d p q r s =
    s ∙ ap (λ (vs : Variables). writing (codes "PUNCH") (record { unit = 7; format = record { characters = 80; blank = false } }) vs)
    (r ∙ ap (λ (vs : Variables). writing (codes "OUTPUT") (record { unit = 6; format = record { characters = 132; blank = false } }) vs)
    (q ∙ ap (λ (vs : Variables). reading (codes "INPUT") (record { unit = 5; most = 1024 }) vs) p))
