-- The texts of the codes (own), and what an error of the catalogue's text is among them.
use Rattle.std.specs.Prelude.{ℕ, List, codes}
use Rattle.mon_catalogue.specs.declared.loading.CatalogueError.{CatalogueError}
use Rattle.mon_catalogue.specs.declared.loading.CatalogueError.TheVariants as catalogue
use Rattle.deck_lines.specs.declared.deck_error.DeckError.{DeckError}
use Rattle.deck_lines.specs.declared.deck_error.DeckError.TheVariants.{BadName, BadNumber, BadCharacter, LineTooLong, AccountTwice, TooManyGroups, NameTaken, SetFull, CatalogueFull, BadText, UnknownCard, BadCard, OutOfPlace, Truncated}

abbrev pub code_text : DeckError → List ℕ
code_text BadName = codes "T1 BAD NAME"
code_text BadNumber = codes "T2 BAD NUMBER"
code_text BadCharacter = codes "T3 BAD CHARACTER"
code_text LineTooLong = codes "T4 LINE TOO LONG"
code_text AccountTwice = codes "C1 ACCOUNT TWICE"
code_text TooManyGroups = codes "C2 TOO MANY GROUPS"
code_text NameTaken = codes "K1 NAME TAKEN"
code_text SetFull = codes "K3 SET FULL"
code_text CatalogueFull = codes "K4 CATALOGUE FULL"
code_text BadText = codes "K5 BAD TEXT"
code_text UnknownCard = codes "E1 UNKNOWN CARD"
code_text BadCard = codes "E2 BAD CARD"
code_text OutOfPlace = codes "E3 OUT OF PLACE"
code_text Truncated = codes "E4 TRUNCATED"

abbrev pub code_of_catalogue : CatalogueError → DeckError
code_of_catalogue (catalogue.NameTaken n) = NameTaken
code_of_catalogue (catalogue.SetFull n) = SetFull
code_of_catalogue (catalogue.CatalogueFull n) = CatalogueFull
code_of_catalogue (catalogue.BadText n) = BadText
