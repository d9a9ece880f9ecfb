-- Parts of the definitions by names of their own.
use Rattle.std.specs.{Prelude.{ℕ, true, false, List, Option, codes}, Option.{option_and_then, option_map_or}}
use Rattle.sno_declarations.specs.Formats.{RecordFormat, behind, with_characters}

abbrev pub format_without_blank : Option (List ℕ) → Option RecordFormat
format_without_blank rest = option_and_then (with_characters false) rest

abbrev pub format_behind : List ℕ → Option (List ℕ) → Option RecordFormat
format_behind text rest = option_map_or (with_characters true) rest (format_without_blank (behind (codes "(") text))
