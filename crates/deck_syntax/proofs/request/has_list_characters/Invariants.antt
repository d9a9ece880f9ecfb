use Rattle.std.proofs.Common.{◌≡◌, take}
use Rattle.std.specs.List.{list_all}
use Rattle.deck_syntax.specs.Requests.{is_list_character}
use Rattle.deck_syntax.proofs.request.has_list_characters.Given as goal

abbrev pub invariant-loop-byte : goal.invariant-loop-byte
invariant-loop-byte l = l.good ≡ list_all is_list_character (take l.byte-index l.text)
