-- The first line of bytes.
use Rattle.std.proofs.Common.{◌≡◌, ℕ, ◌+◌, ◌-◌, ◌<◌, ◌==◌, false, cond, List, [], ◌∷◌, length, take, drop, Some, None, position, sym, ap, ◌∙◌, arith}
use Rattle.std.{specs.Str.Lines.{lines, strip_carriage_return}, proofs.lemmas.Bool.Decides.{nat_tests}, proofs.lemmas.List.{take_all, drop_all, length-drop}}
use Rattle.mon_text.{proofs.Cutting.{cut_at, uncut, line_ends, last_line}, specs.Characters.{is_line_feed}}

-- it has a line end
pub ended : (bytes line behind : List ℕ) (end : ℕ) → position is_line_feed bytes ≡ Some end → line ≡ strip_carriage_return (take end bytes) → behind ≡ drop (end + 1) bytes
    → lines bytes ≡ line ∷ lines behind
ended bytes line behind end found line_is behind_is =
    let cut = cut_at bytes end found in
    ap lines cut.are ∙ line_ends (take end bytes) (drop (end + 1) bytes) cut.front
    ∙ ap (λ v. v ∷ lines (drop (end + 1) bytes)) (sym line_is)
    ∙ ap (λ v. line ∷ lines v) (sym behind_is)

-- it has none, and is all
pub unended : (bytes behind : List ℕ) → 0 < length bytes → position is_line_feed bytes ≡ None → behind ≡ [] → lines bytes ≡ bytes ∷ lines behind
unended bytes behind some none behind_is =
    let full : (length bytes == 0) ≡ false = grind (arith, nat_tests) in
    last_line bytes (uncut bytes none)
    ∙ ap (λ b. cond b [] (bytes ∷ [])) full
    ∙ ap (λ v. bytes ∷ lines v) (sym behind_is)

-- what stands from a place on
pub to_end : (at : ℕ) (bytes : List ℕ) → take (length bytes - at) (drop at bytes) ≡ drop at bytes
to_end at bytes = take_all (length bytes - at) (drop at bytes) (omega (arith, length-drop at bytes))

pub nothing_behind : (bytes : List ℕ) → drop (length bytes) bytes ≡ []
nothing_behind bytes = drop_all (length bytes) bytes (omega arith)
