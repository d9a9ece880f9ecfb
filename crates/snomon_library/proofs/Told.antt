-- What is told: one line, or two, one behind the other.
use Rattle.std.proofs.Common.{◌≡◌, List, ℕ, ◌++◌, Option, Some, None, Result, Ok, Err, OnOk, sym, ap, subst, ◌∙◌, append_assoc, refl}
use Rattle.std.specs.Io.KnownBytes.{Appends}
use Rattle.deck_driver.specs.declared.fault.RunError.{RunError, TheVariants.{DeckRefused, ReadFault, WriteFault, AuditFault, Memory}}
use Rattle.deck_run.specs.{Faults.{fault_line, shortage_line}, declared.shortage.Shortage.{Shortage}}
use Rattle.snomon_library.specs.Endings.{told_of}

appended : (before mid after : Option (List ℕ)) (first second : List ℕ) → Appends before mid first → Appends mid after second → Appends before after (first ++ second)
appended None mid after first second one two = tt
appended (Some xs) None after first second one two = absurd one
appended (Some xs) (Some ys) None first second one two = absurd two
appended (Some xs) (Some ys) (Some zs) first second one two = two ∙ ap (λ v. v ++ second) one ∙ append_assoc xs first second

-- memory ran out, and it is given how far the run had come
pub both_told : {T E : Type 0} (result : Result T E) (before mid after : Option (List ℕ)) (fault : RunError) (given : Option Shortage) (shortage : Shortage)
    → fault ≡ Memory → given ≡ Some shortage → Appends before mid (fault_line fault) → OnOk result (Appends mid after (shortage_line shortage))
    → OnOk result (Appends before after (told_of fault given))
both_told (Err error) before mid after fault given shortage is has one two = tt
both_told (Ok x) before mid after fault given shortage is has one two =
    subst (λ (f : RunError). Appends before after (told_of f given)) (sym is)
    (subst (λ (g : Option Shortage). Appends before after (told_of Memory g)) (sym has)
    (appended before mid after (fault_line Memory) (shortage_line shortage) (subst (λ (f : RunError). Appends before mid (fault_line f)) is one) two))

-- it was another fault than want of memory
pub fault_told : (fault : RunError) (given : Option Shortage) → (fault ≡ Memory → ⊥) → told_of fault given ≡ fault_line fault
fault_told (DeckRefused line code) given other = refl
fault_told ReadFault given other = refl
fault_told WriteFault given other = refl
fault_told AuditFault given other = refl
fault_told Memory given other = absurd (other refl)
