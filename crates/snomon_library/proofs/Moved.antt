-- What a run comes to, of streams that are the same, and of streams that tell at first.
use Rattle.std.proofs.Common.{◌≡◌, sym, subst, ℕ, List, Bool}
use Rattle.std.specs.Prelude.{Option, Some, None, Result, is_some}
use Rattle.mon_device.specs.{Putting.{Standing}, Telling.{where_told}}
use Rattle.deck_driver.specs.declared.{fault.RunError.{RunError}, options.Options.{Options}, options.Counts.{Counts}}
use Rattle.deck_run.specs.declared.shortage.Shortage.{Shortage}
use Rattle.snomon_library.specs.Streams.{Comes}

-- the streams before and after it are these
pub moved : (R W : Type 0) (options : Options) (a b : Standing) (heeded : Bool) (outcome : Result Counts RunError) (shortage : Shortage) (told : R → Option (List ℕ)) (held : W → Option (List ℕ))
    (input input_now left left_now : R) (output output_now end end_now : W) → input ≡ input_now → left_now ≡ left → output ≡ output_now → end_now ≡ end
    → Comes options (told input) (told left) (held output) (held end) a b heeded outcome shortage → Comes options (told input_now) (told left_now) (held output_now) (held end_now) a b heeded outcome shortage
moved R W options a b heeded outcome shortage told held input input_now left left_now output output_now end end_now at_input at_left at_output at_end comes =
    subst (λ (x : R). Comes options (told x) (told left_now) (held output_now) (held end_now) a b heeded outcome shortage) at_input
    (subst (λ (x : R). Comes options (told input) (told x) (held output_now) (held end_now) a b heeded outcome shortage) (sym at_left)
    (subst (λ (x : W). Comes options (told input) (told left) (held x) (held end_now) a b heeded outcome shortage) at_output
    (subst (λ (x : W). Comes options (told input) (told left) (held output) (held x) a b heeded outcome shortage) (sym at_end) comes)))

-- at first, all is told that the streams tell
pub at_first : (options : Options) (a b : Standing) (heeded : Bool) (told left held now : Option (List ℕ)) (outcome : Result Counts RunError) (shortage : Shortage)
    → Comes options (where_told (is_some told) told) left (where_told (is_some held) held) now a b heeded outcome shortage → Comes options told left held now a b heeded outcome shortage
at_first options a b heeded None left None now outcome shortage comes = comes
at_first options a b heeded None left (Some held) now outcome shortage comes = comes
at_first options a b heeded (Some told) left None now outcome shortage comes = comes
at_first options a b heeded (Some told) left (Some held) now outcome shortage comes = comes
