-- What a writer holds after some bytes and some more.
use Rattle.std.proofs.Common.{◌≡◌, ℕ, List, [], ◌++◌, ◌-◌, length, take, drop, Option, Some, None, refl, sym, ap, ◌∙◌, append_assoc, append-nil}
use Rattle.std.proofs.lemmas.List.{take_rest, take-append-drop}
use Rattle.mon_device.specs.Devices.{holding, HasTaken}

pub holding-append : (told : Option (List ℕ)) (a b : List ℕ) → holding (holding told a) b ≡ holding told (a ++ b)
holding-append None a b = refl
holding-append (Some held) a b = ap Some (append_assoc held a b)

pub holding-nothing : (told : Option (List ℕ)) → holding told [] ≡ told
holding-nothing None = refl
holding-nothing (Some held) = ap Some (append-nil held)

-- some more bytes were taken
pub taken_more : (held before after : Option (List ℕ)) (bytes left piece rest : List ℕ) → HasTaken held before bytes left → left ≡ piece ++ rest → after ≡ holding before piece
    → HasTaken held after bytes rest
taken_more held before after bytes left piece rest so_far are more = (
  so_far.0 ++ piece,
  more ∙ ap (λ h. holding h piece) so_far.1 ∙ holding-append held so_far.0 piece,
  so_far.2 ∙ ap (λ l. so_far.0 ++ l) are ∙ sym (append_assoc so_far.0 piece rest),
)

-- a piece was written, and what is left after it would make all that is to be written
pub one_write : (held before after : Option (List ℕ)) (bytes left : List ℕ) (count : ℕ) → HasTaken held before bytes left → holding before left ≡ holding held bytes → after ≡ holding before (take count left)
    → record { all : holding after (take (length left - count) (drop count left)) ≡ holding held bytes; taken : HasTaken held after bytes (take (length left - count) (drop count left)) }
one_write held before after bytes left count so_far all more =
    let rest = take (length left - count) (drop count left) in
    let are : left ≡ take count left ++ rest = rw (take_rest left count) (sym (take-append-drop count left)) in
    record {
      all = ap (λ h. holding h rest) more ∙ holding-append before (take count left) rest ∙ ap (holding before) (sym are) ∙ all;
      taken = taken_more held before after bytes left (take count left) rest so_far are more;
    }

pub ruleset holds = (holding-append, holding-nothing)
