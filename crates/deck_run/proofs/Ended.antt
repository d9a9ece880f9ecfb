-- What stays of a run's answer behind the line of its end.
use Rattle.std.proofs.Common.{◌≡◌, ◌⊎◌, inl, inr, ℕ, Bool, true, false, List, Option, Result, Ok, Err, IfSome, IfOk, OnOk, sym, ap, subst, ◌∙◌}
use Rattle.mon_device.specs.Putting.{Standing, Puts}
use Rattle.deck_driver.specs.declared.{fault.RunError.{RunError}, fault.RunError.TheVariants.{AuditFault}, options.Counts.{Counts}, options.Options.{Options}}
use Rattle.deck_run.{specs.Audited.{is_broken, Then, end_told, IsWrittenAhead}, proofs.Running.{if_some}, proofs.Ahead.{taken_later}}

-- an answer stays, or the audit was not taken
abbrev pub Stays : Result Counts RunError → Result Counts RunError → Bool → Bool → Type 0
Stays result answer heeded failed = (result ≡ answer) ⊎ ((is_broken answer ≡ false) × (result ≡ Err AuditFault) × (heeded ≡ true) × (failed ≡ true))

module _ (result answer : Result Counts RunError) (heeded failed : Bool) where
  pub ok_stays : (P : Type 0) → Stays result answer heeded failed → OnOk answer P → OnOk result P
  ok_stays P (inl same) p = subst (λ (r : Result Counts RunError). OnOk r P) (sym same) p
  ok_stays P (inr x) p = subst (λ (r : Result Counts RunError). OnOk r P) (sym x.1) tt

  pub counts_stay : (P : Counts → Type 0) → Stays result answer heeded failed → IfOk answer P → IfOk result P
  counts_stay P (inl same) p = subst (λ (r : Result Counts RunError). IfOk r P) (sym same) p
  counts_stay P (inr x) p = subst (λ (r : Result Counts RunError). IfOk r P) (sym x.1) tt

  -- where it is another one than that of the audit, it was that before
  pub was_so : (error : RunError) → (error ≡ AuditFault → ⊥) → Stays result answer heeded failed → result ≡ Err error → answer ≡ Err error
  was_so error other (inl same) is = sym same ∙ is
  was_so error other (inr x) is = let fault : ◌≡◌ {A = Result Counts RunError} (Err AuditFault) (Err error) = sym x.1 ∙ is in absurd (other cc)

  pub audit_fault : Stays result answer heeded failed → (answer ≡ Err AuditFault → (heeded ≡ true) × (failed ≡ true)) → result ≡ Err AuditFault → (heeded ≡ true) × (failed ≡ true)
  audit_fault (inl same) before is = before (sym same ∙ is)
  audit_fault (inr x) before is = (x.2, x.3)

  -- a fault stays
  pub fault_stays : (error : RunError) → is_broken (Err error) ≡ true → Stays result answer heeded failed → answer ≡ Err error → result ≡ Err error
  fault_stays error broken (inl same) is = same ∙ is
  fault_stays error broken (inr x) is =
      let never : ◌≡◌ {A = Bool} false true = sym x.0 ∙ ap is_broken is ∙ broken in cc

module _ (told : Option (List ℕ)) (P : List ℕ → Standing → Type 0) (check : Bool) (b c : Standing) where
  pub good_ends : (answer result : Result Counts RunError) (heeded failed : Bool) → Stays result answer heeded failed → Puts b c (end_told check answer) → OnOk answer (IfSome told (λ bytes. P bytes b))
      → OnOk result (IfSome told (λ bytes. Then (P bytes) (end_told check result) c))
  good_ends answer result heeded failed (inl same) put good = subst (λ (r : Result Counts RunError). OnOk r (IfSome told (λ bytes. Then (P bytes) (end_told check r) c))) (sym same) (by answer put good)
    where
      by : (answer : Result Counts RunError) → Puts b c (end_told check answer) → OnOk answer (IfSome told (λ bytes. P bytes b))
          → OnOk answer (IfSome told (λ bytes. Then (P bytes) (end_told check answer) c))
      by (Ok counts) put good = if_some told (λ bytes. P bytes b) (λ bytes. Then (P bytes) (end_told check (Ok counts)) c) (λ bytes p. (b, p, put)) good
      by (Err error) put good = tt
  good_ends answer result heeded failed (inr x) put good = subst (λ (r : Result Counts RunError). OnOk r (IfSome told (λ bytes. Then (P bytes) (end_told check r) c))) (sym x.1) tt

  pub bad_ends : (answer result : Result Counts RunError) (error : RunError) → answer ≡ Err error → result ≡ Err error → Puts b c (end_told check answer) → IfSome told (λ bytes. P bytes b)
      → IfSome told (λ bytes. Then (P bytes) (end_told check result) c)
  bad_ends answer result error was is put bad =
      if_some told (λ bytes. P bytes b) (λ bytes. Then (P bytes) (end_told check result) c)
      (λ bytes p. (b, p, subst (λ (r : Result Counts RunError). Puts b c (end_told check r)) (was ∙ sym is) put)) bad

-- what was written ahead stays so
pub ahead_stays : (options : Options) (told left held now : Option (List ℕ)) (a b c : Standing) (text : List ℕ) → Puts b c text → IsWrittenAhead options told left held now a b
    → IsWrittenAhead options told left held now a c
ahead_stays options told left held now a b c text put (inl none) = inl none
ahead_stays options told left held now a b c text put (inr (given, front, back, m, gives, are, shown, taken)) = inr (given, front, back, m, gives, are, shown, taken_later a b c _ text taken put)
