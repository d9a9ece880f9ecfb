-- Worked command lines: what each of them gives, and which give nothing.
use Rattle.std.proofs.Common.{◌≡◌, ◌∙◌, ◌≤◌, ℕ, inl, inr, Bool, true, false, List, [], ◌∷◌, Some, None, refl, sym, subst, codes, arith, true≢false}
use Rattle.std.specs.Prelude.{◌↔◌}
use Rattle.clap.{specs.Takes.{takes}, proofs.OnLiterals.{clap_on_literals}}
use Rattle.deck_driver.specs.declared.options.Options.{Options}
use Rattle.snomon_library.specs.{Asking.{audit_of}, CommandLine.{Asks, Gives, apart, joined, left_out, snomon}}
use Rattle.snomon_library.proofs.{Matched.{one_meaning, taken}, Numbers.{passed}}

module _ (program : List ℕ) where
  -- the words behind the program's name give this and nothing else
  abbrev pub GiveJust : List (List ℕ) → Bool → ℕ → Type 0
  GiveJust words check number = (options : Options) → Gives (program ∷ words) options ↔ ((options.check ≡ check) × (options.slots.number ≡ number))

  abbrev pub GiveNothing : List (List ℕ) → Type 0
  GiveNothing words = (options : Options) → Gives (program ∷ words) options → ⊥

  give_just : (words : List (List ℕ)) (check : Bool) (number : ℕ) → 1 ≤ number → number ≤ 8 → Asks words check number → GiveJust words check number
  give_just words check number low high asks options = (
    (λ gives. one_meaning words options.check check options.slots.number number options.slots.within.0 options.slots.within.1 low high gives asks),
    (λ are. subst (λ (c : Bool). Asks words c options.slots.number) (sym are.0) (subst (λ (n : ℕ). Asks words check n) (sym are.1) asks)),
  )

  give_nothing : (words : List (List ℕ)) → takes snomon (program ∷ words) ≡ false → GiveNothing words
  give_nothing words refused options gives =
      let passes = taken snomon (program ∷ words) options.check options.slots.number refl options.slots.within.0 options.slots.within.1 gives in
      true≢false (sym passes ∙ refused)

  pub no_word : GiveJust [] false 4
  no_word = give_just [] false 4 (omega arith) (omega arith) (left_out, false, refl, inl refl)

  pub slots_apart : GiveJust (codes "--slots" ∷ codes "8" ∷ []) false 8
  slots_apart = give_just _ false 8 (omega arith) (omega arith) (apart (codes "8"), false, (passed (codes "8") refl).1, inl refl)

  pub slots_joined : GiveJust (codes "--slots=8" ∷ []) false 8
  slots_joined = give_just _ false 8 (omega arith) (omega arith) (joined (codes "8"), false, (passed (codes "8") refl).1, inl refl)

  pub check_alone : GiveJust (codes "--check" ∷ []) true 4
  check_alone = give_just _ true 4 (omega arith) (omega arith) (left_out, false, refl, inl refl)

  pub check_first : GiveJust (codes "--check" ∷ codes "--slots" ∷ codes "1" ∷ []) true 1
  check_first = give_just _ true 1 (omega arith) (omega arith) (apart (codes "1"), false, (passed (codes "1") refl).1, inl refl)

  pub check_later : GiveJust (codes "--slots" ∷ codes "1" ∷ codes "--check" ∷ []) true 1
  check_later = give_just _ true 1 (omega arith) (omega arith) (apart (codes "1"), false, (passed (codes "1") refl).1, inr refl)

  pub written_at_length : GiveJust (codes "--slots=+007" ∷ codes "--" ∷ []) false 7
  written_at_length = give_just _ false 7 (omega arith) (omega arith) (joined (codes "+007"), true, (passed (codes "+007") refl).1, inl refl)

  pub no_slots : GiveNothing (codes "--slots" ∷ codes "0" ∷ [])
  unfolding clap_on_literals
  no_slots = give_nothing _ refl

  pub nine_slots : GiveNothing (codes "--slots" ∷ codes "9" ∷ [])
  unfolding clap_on_literals
  nine_slots = give_nothing _ refl

  pub no_number : GiveNothing (codes "--slots" ∷ [])
  unfolding clap_on_literals
  no_number = give_nothing _ refl

  pub no_digits : GiveNothing (codes "--slots=four" ∷ [])
  unfolding clap_on_literals
  no_digits = give_nothing _ refl

  pub number_twice : GiveNothing (codes "--slots" ∷ codes "1" ∷ codes "--slots" ∷ codes "2" ∷ [])
  unfolding clap_on_literals
  number_twice = give_nothing _ refl

  pub check_twice : GiveNothing (codes "--check" ∷ codes "--check" ∷ [])
  unfolding clap_on_literals
  check_twice = give_nothing _ refl

  pub further_word : GiveNothing (codes "--slots" ∷ codes "1" ∷ codes "payroll.deck" ∷ [])
  unfolding clap_on_literals
  further_word = give_nothing _ refl

  pub word_behind_end : GiveNothing (codes "--" ∷ codes "--check" ∷ [])
  unfolding clap_on_literals
  word_behind_end = give_nothing _ refl

  pub help_asked : GiveNothing (codes "--help" ∷ [])
  unfolding clap_on_literals
  help_asked = give_nothing _ refl

-- ---- the words that ask for an audit

pub file_apart : audit_of (codes "snomon" ∷ codes "--audit" ∷ codes "a" ∷ codes "--check" ∷ [])
    ≡ Some (record { left = codes "snomon" ∷ codes "--check" ∷ []; file = Some (codes "a") })
file_apart = refl

pub file_joined : audit_of (codes "snomon" ∷ codes "--slots" ∷ codes "8" ∷ codes "--audit=a-b" ∷ [])
    ≡ Some (record { left = codes "snomon" ∷ codes "--slots" ∷ codes "8" ∷ []; file = Some (codes "a-b") })
file_joined = refl

pub ended_before : audit_of (codes "snomon" ∷ codes "--" ∷ codes "--audit" ∷ []) ≡ Some (record { left = codes "snomon" ∷ codes "--" ∷ codes "--audit" ∷ []; file = None })
ended_before = refl

pub no_output : audit_of (codes "snomon" ∷ codes "--audit" ∷ codes "-" ∷ []) ≡ None
no_output = refl
