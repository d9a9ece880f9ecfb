-- What a file has taken of an audit that was put to it, where all of it was.
use Rattle.std.proofs.Common.{◌≡◌, ◌⊎◌, inl, inr, ℕ, Bool, true, false, List, [], ◌++◌, Option, Some, None, Result, Ok, Err, IfSome, refl, sym, ap, ◌∙◌, arith, append-nil, subst}
use Rattle.mon_device.{specs.Devices.{holding}, specs.Putting.{Standing, Puts}, proofs.Putting.{puts_then}}
use Rattle.scheduler.specs.Marks.{Marks}
use Rattle.deck_driver.specs.declared.fault.RunError.{RunError, TheVariants.{DeckRefused, ReadFault, WriteFault, AuditFault, Memory}}
use Rattle.deck_driver.specs.{declared.options.Options.{Options}, declared.options.Counts.{Counts}, Audits.{audit_for}, Printouts.{output_of}}
use Rattle.deck_run.specs.{Audited.{end_told, is_broken, IsSettled}, Faults.{status_of}, declared.shortage.Shortage.{Shortage}}
use Rattle.snomon_library.specs.{Auditing.{Audits}, Endings.{Ends, heard_as}, Streams.{Comes}}

all_taken : (a b : Standing) (text : List ℕ) → a.gathered ≡ [] → IsSettled b → Puts a b text → b.written ≡ holding a.written text
all_taken a b text none settled put =
    let rest_is = (put.all settled.1).1 ∙ settled.0 in
    let taken = put.taken in
    let whole : text ≡ taken.0 = (λ i. sym none i ++ text) ∙ taken.2 ∙ ap (λ (r : List ℕ). taken.0 ++ r) rest_is ∙ append-nil taken.0 in
    taken.1 ∙ ap (λ (t : List ℕ). holding a.written t) (sym whole)

if_some : (told : Option (List ℕ)) (P Q : List ℕ → Type 0) → ((bytes : List ℕ) → P bytes → Q bytes) → IfSome told P → IfSome told Q
if_some None P Q f p = tt
if_some (Some bytes) P Q f p = f bytes p

-- the output and the audit of these bytes, with the same marks
abbrev IsWhole : Options → Option (List ℕ) → Option (List ℕ) → Standing → Standing → List ℕ → List ℕ → Type 0
IsWhole options held now a b end bytes = (marks : Marks) × (now ≡ holding held (output_of options marks bytes))
    × (b.written ≡ holding a.written (audit_for options marks bytes ++ end))

module _ (options : Options) (told left held now : Option (List ℕ)) (a b : Standing) (shortage : Shortage) (none : a.gathered ≡ []) where
  whole : (outcome : Result Counts RunError) → Comes options told left held now a b true outcome shortage → is_broken outcome ≡ false
      → IfSome told (IsWhole options held now a b (end_told options.check outcome))
  whole (Ok counts) comes sound =
      let end = end_told options.check (Ok counts) in
      if_some told _ (IsWhole options held now a b end) (λ bytes h.
      (h.1.0, h.1.1, all_taken a b (audit_for options h.1.0 bytes ++ end) none (comes.settled refl sound) (puts_then a h.0 b (audit_for options h.1.0 bytes) end h.1.2 h.2)))
      comes.output
  whole (Err (DeckRefused line code)) comes sound =
      let end = end_told options.check (Err (DeckRefused line code)) in
      if_some told _ (IsWhole options held now a b end) (λ bytes h.
      (h.1.0, h.1.1, all_taken a b (audit_for options h.1.0 bytes ++ end) none (comes.settled refl sound) (puts_then a h.0 b (audit_for options h.1.0 bytes) end h.1.2 h.2)))
      (comes.refused_output line code refl)
  whole (Err ReadFault) comes sound = cc
  whole (Err WriteFault) comes sound = cc
  whole (Err AuditFault) comes sound = cc
  whole (Err Memory) comes sound = cc

  pub whole_by_status : (status : ℕ) (outcome : Result Counts RunError) → status ≡ status_of outcome → Comes options told left held now a b true outcome shortage
      → (status ≡ 0) ⊎ (status ≡ 1) → IfSome told (IsWhole options held now a b (end_told options.check outcome))
  whole_by_status status outcome is comes ended = whole outcome comes (sound outcome (at ended))
    where
      at : (status ≡ 0) ⊎ (status ≡ 1) → (status_of outcome ≡ 0) ⊎ (status_of outcome ≡ 1)
      at (inl none) = inl (sym is ∙ none)
      at (inr one) = inr (sym is ∙ one)

      faulty : (n : ℕ) → n ≡ 3 → (n ≡ 0) ⊎ (n ≡ 1) → ⊥
      faulty n three (inl e) = omega (arith, three, e)
      faulty n three (inr e) = omega (arith, three, e)

      sound : (o : Result Counts RunError) → (status_of o ≡ 0) ⊎ (status_of o ≡ 1) → is_broken o ≡ false
      sound (Ok counts) e = refl
      sound (Err (DeckRefused line code)) e = refl
      sound (Err ReadFault) e = absurd (faulty 3 refl e)
      sound (Err WriteFault) e = absurd (faulty 3 refl e)
      sound (Err AuditFault) e = absurd (faulty 3 refl e)
      sound (Err Memory) e = absurd (faulty 3 refl e)

-- of a sink that writes to a file, from its first standing to its last
pub audits : (options : Options) (told left held now kept written : Option (List ℕ)) (status : ℕ) (is_told : Bool) (before after : Option (List ℕ)) (a b : Standing)
    → Ends options told left held now a b true status is_told before after → a.written ≡ kept → a.gathered ≡ [] → a.failed ≡ false → b.written ≡ written
    → Audits options told left held now kept written status is_told before after
audits options told left held now kept written status is_told before after a b ends first none sound last = record {
  a = a;
  b = b;
  ends = ends;
  at_first = (first, none, sound);
  at_last = last;
  whole = λ ended.
      let end = end_told options.check ends.outcome in
      if_some told (IsWhole options held now a b end) _ (λ bytes h.
      (h.0, h.1, sym last ∙ h.2 ∙ ap (λ (k : Option (List ℕ)). holding k (audit_for options h.0 bytes ++ end)) first))
      (whole_by_status options told left held now a b ends.shortage none status ends.outcome ends.status_told ends.comes ended);
}

-- what was lent to a sink is lent to it still
pub lent_still : (options : Options) (told left held now : Option (List ℕ)) (a b : Standing) (heeded : Bool) (status : ℕ) (is_told : Bool) (before after : Option (List ℕ))
    → Ends options told left held now a b heeded status is_told before after → b.lent ≡ a.lent
lent_still options told left held now a b heeded status is_told before after ends =
    let begun = ends.comes.begun.1 in
    begun.2.apart.2 ∙ begun.1.5.apart.2

pub heard : (options : Options) (told left held now : Option (List ℕ)) (a b : Standing) (heeded : Bool) (status : ℕ) (is_told : Bool) (before after : Option (List ℕ))
    → heeded ≡ true → Ends options told left held now a b heeded status is_told before after → Ends options told left held now a b true status is_told before after
heard options told left held now a b heeded status is_told before after is ends =
    subst (λ (h : Bool). Ends options told left held now a b h status is_told before after) is ends

-- where somebody listens, a sink stands as the one that it puts to
pub heard_is : (h : Bool) (a : Standing) → h ≡ true → heard_as h a ≡ a
heard_is true a e = refl
heard_is false a e = cc
