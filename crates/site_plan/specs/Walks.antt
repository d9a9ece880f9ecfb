-- An operator's file, line by line (own).
use Rattle.std.specs.Prelude.{ℕ, ◌+◌, ◌==◌, Bool, false, ◌||◌, List, [], ◌∷◌, Result, Ok, Err}
use Rattle.mon_text.specs.declared.stop.Stop.{Stop}
use Rattle.mon_text.specs.declared.stop.Stop.TheVariants.{Refused, Memory}
use Rattle.mon_text.specs.Lines.{is_blank_line}

-- a line that says nothing: it is blank, or begins with `#`
abbrev pub is_remark : List ℕ → Bool
is_remark [] = false
is_remark (c ∷ cs) = c == 35

abbrev pub is_skipped : List ℕ → Bool
is_skipped line = is_remark line || is_blank_line line

abbrev pub and_then : {A B W : Type 0} → Result A W → (A → Result B W) → Result B W
and_then (Ok x) later = later x
and_then (Err why) later = Err why

-- with the number of the line that is wrong
abbrev pub at_line : {A W : Type 0} → ℕ → Result A W → Result A (ℕ × W)
at_line n (Ok x) = Ok x
at_line n (Err why) = Err (n, why)

-- what is known behind the lines from number n on, or the first of them that is wrong, and why
abbrev pub walked : {S W : Type 0} → (S → List ℕ → Result S W) → ℕ → S → List (List ℕ) → Result S (ℕ × W)
walked after n known [] = Ok known
walked after n known (line ∷ lines) = and_then (at_line n (after known line)) (λ known. walked after (n + 1) known lines)

-- the same, of a call that may stop
abbrev pub stop_at : {W : Type 0} → ℕ → Stop W → Stop (ℕ × W)
stop_at n (Refused why) = Refused (n, why)
stop_at n Memory = Memory
