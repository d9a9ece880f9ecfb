-- What is printed and not yet written (own): a text, and pieces behind it that print what stands in memory already.
use Rattle.std.specs.Prelude.{ℕ, List, [], ◌++◌, codes, Option, None, Some}
use Rattle.std.specs.List.{flat_map}
use Rattle.mon_catalogue.specs.declared.data_set.DataSet.{DataSet}
use Rattle.mon_catalogue.specs.Sets.{Sets, find_set}
use Rattle.mon_catalogue.specs.Text.{catalogue_text}
use Rattle.deck_lines.specs.declared.command.Command.TheVariants.{List as Listing}
use Rattle.mon_command.specs.Commanded.{Records, printed}
use Rattle.job_end.specs.Printouts.{printout}
use Rattle.mon_monitor.specs.declared.printed.Piece.{Piece}
use Rattle.mon_monitor.specs.declared.printed.Piece.TheVariants as piece

-- data sets are given back as a deck has them: behind the card that opens their section
abbrev pub given_back : Sets → List ℕ
given_back sets = codes "$CATALOGUE 2\n" ++ catalogue_text sets

abbrev pub records_of : Option DataSet → List (List ℕ)
records_of None = []
records_of (Some set) = set.records

-- what a command prints that lists the records of the data set of this name for an account
abbrev pub listing : List ℕ → List ℕ → Sets → List ℕ
listing account name sets = printed (Listing account name) (Records (records_of (find_set name sets)))

-- what a piece prints
abbrev pub piece_text : Piece → List ℕ
piece_text (piece.Text text) = text.items
piece_text (piece.End end) = printout end
piece_text (piece.Ends ends) = flat_map printout ends.items
piece_text (piece.Listed sets account name) = listing account name sets.value
piece_text (piece.Sets sets) = given_back sets.value

-- what pieces print, in order
abbrev pub pieces_text : List Piece → List ℕ
pieces_text pieces = flat_map piece_text pieces
