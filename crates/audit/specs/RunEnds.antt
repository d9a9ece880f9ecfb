-- The audit's last line (own): how the deck has come to its end. Where a run breaks off before that, for want of memory or since a device
-- fails, there is none.
use Rattle.std.specs.Prelude.{ℕ, List, ◌++◌, codes}
use Rattle.mon_command.specs.Printouts.{word, number}

-- the deck was stopped by its `$STOP`
abbrev pub stopped_line : List ℕ
stopped_line = codes "RUN 0 .NONE STOPPED\n"

-- it was refused at this line, by a code with these words
abbrev pub deck_refused_line : ℕ → List ℕ → List ℕ
deck_refused_line line code = codes "RUN 0 .NONE REFUSED LINE" ++ number line ++ word code ++ codes "\n"
