-- Lines that are written one after another, each ended by LF, are cut at each LF into the same lines.
use Rattle.std.proofs.Common.{◌≡◌, ℕ, List, refl}
use Rattle.std.specs.{List.{AllByRecursion}, Str.Lines.{lines}}
use Rattle.mon_text.{specs.Characters.{is_printable}, specs.Lines.{IsLine}, proofs.WrittenLines.{lines_written}}
use Rattle.mon_catalogue.specs.Text.{text_of}

pub lines_of_text : (ls : List (List ℕ)) → AllByRecursion IsLine ls → lines (text_of ls) ≡ ls
lines_of_text ls are = lines_written is_printable refl refl ls are
