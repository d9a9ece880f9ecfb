-- A text and the pieces behind it are put.
use Rattle.std.proofs.Common.{◌≡◌, ℕ, List, ◌++◌, ap, ◌∙◌}
use Rattle.mon_monitor.proofs.Common.{Piece, Standing, Puts, pieces_text, puts_then, puts_same}

pub printed_put : (a b c : Standing) (now text text' : List ℕ) (pieces pieces' : List Piece) → text ++ pieces_text pieces ≡ now → text' ≡ text → pieces' ≡ pieces
    → Puts a b text' → Puts b c (pieces_text pieces') → Puts a c now
printed_put a b c now text text' pieces pieces' is same alike first second =
    puts_same a c (text' ++ pieces_text pieces') now
    (ap (λ (t : List ℕ). t ++ pieces_text pieces') same ∙ ap (λ (l : List Piece). text ++ pieces_text l) alike ∙ is)
    (puts_then a b c text' (pieces_text pieces') first second)
