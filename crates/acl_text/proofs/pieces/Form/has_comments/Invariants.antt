use Rattle.std.proofs.Common.{◌≡◌, take}
use Rattle.std.specs.List.{list_any}
use Rattle.acl_text.specs.Texts.{is_hash}
use Rattle.acl_text.proofs.pieces.Form.has_comments.Given as goal

abbrev pub invariant-loop-byte : goal.invariant-loop-byte
invariant-loop-byte l = l.found ≡ list_any is_hash (take l.byte-index l.text)
