-- The first text that waits, and those behind it.
use Rattle.std.proofs.Common.{◌≡◌, ◌≤◌, true, List, [], ◌∷◌, length, map, get_or, refl, sym, ap, arith}
use Rattle.std.specs.Prelude.{nat_lt}
use Rattle.ledger_laws.specs.Course.{behind_first}
use Rattle.ledger_run.specs.{declared.ledger.Waiting.{Waiting}, Runs.{waits_as}}

pub none_wait : (items : List Waiting) → length items ≤ 0 → map waits_as items ≡ []
none_wait [] none = refl
none_wait (y ∷ ys) none = absurd (omega (arith, none))

pub first_waits : (items : List Waiting) (first : Waiting) → true ≡ nat_lt 0 (length items) → first ≡ get_or items 0 first
    → map waits_as items ≡ waits_as first ∷ map waits_as (behind_first items)
first_waits [] first some is = absurd (cc (some))
first_waits (y ∷ ys) first some is = ap (λ (x : Waiting). waits_as x ∷ map waits_as ys) (sym is)
