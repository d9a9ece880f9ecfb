-- What is changed of all data sets is what is changed of some, where the others stay and none is made.
use Rattle.std.proofs.Common.{◌≡◌, ℕ, nat_eq, Bool, true, false, ◌&&◌, List, [], ◌∷◌, ◌++◌, length, drop, refl, sym, ap, ◌∙◌, subst, arith, true≢false, ◌+◌, ◌⊎◌, inl, inr}
use Rattle.std.specs.{Prelude.{if◌then◌else◌, ◌==◌, not, filter}, List.{AllByRecursion, IsDistinct, common_prefix_len}, Map.{keys_of}}
use Rattle.std.specs.Cmp.Lexicographic.{pointwise, bytes_decides, nat_list_eq_equiv}
use Rattle.std.proofs.lemmas.{Bool.Decides.{nat_tests}, Map.Keys.{IsDistinct-head, IsDistinct-tail}}
use Rattle.acl_text.specs.Printing.{short_form}
use Rattle.mon_catalogue.specs.{declared.data_set.DataSet.{DataSet}, Modes.{mode_word}, Sets.{Sets, NamesDiffer}, Text.{text_of}}
use Rattle.ledger_text.specs.Records.{Said, Keep}
use Rattle.frame_laws.specs.Naming.{of_names}
use Rattle.ledger_sets.specs.Changes.{whole, gone, shared, kept, same_head, changed, changes_between}
use Rattle.ledger_frames.proofs.Within.{Names, AreWithin, Apart, apart_of}

itself : (x : List ℕ) → pointwise nat_eq x x ≡ true
itself x = nat_list_eq_equiv.refl x

-- ---- a data set that stays as it is

all_shared : (records : List (List ℕ)) → shared records records ≡ length records
all_shared [] = refl
all_shared (one ∷ records) =
    let rest = all_shared records in
    let next : 1 + shared records records ≡ length (one ∷ records) = omega (arith, rest) in
    ap (λ (b : Bool). if b then 1 + shared records records else 0) (itself one) ∙ next

nothing_kept : (name : List ℕ) (records : List (List ℕ)) → kept name records records (shared records records) ≡ []
nothing_kept name records = ap (kept name records records) (all_shared records) ∙ by (length records == length records) (let same : (length records == length records) ≡ true = grind (arith, nat_tests) in same)
  where
    by : (b : Bool) → b ≡ true → (if b && b then [] else Keep 0 name (length records) (text_of (drop (length records) records)) ∷ []) ≡ []
    by true e = refl
    by false e = absurd (true≢false (sym e))

head_stays : (set : DataSet) → same_head set set ≡ true
head_stays set =
    ap (λ (b : Bool). b && pointwise nat_eq set.group set.group && pointwise nat_eq (mode_word set.mode) (mode_word set.mode) && pointwise nat_eq (short_form set.acl) (short_form set.acl)) (itself set.owner)
    ∙ ap (λ (b : Bool). b && pointwise nat_eq (mode_word set.mode) (mode_word set.mode) && pointwise nat_eq (short_form set.acl) (short_form set.acl)) (itself set.group)
    ∙ ap (λ (b : Bool). b && pointwise nat_eq (short_form set.acl) (short_form set.acl)) (itself (mode_word set.mode))
    ∙ itself (short_form set.acl)

unchanged : (name : List ℕ) (set : DataSet) → changed name set set ≡ []
unchanged name set =
    ap (λ (b : Bool). if b then kept name set.records set.records (shared set.records set.records) else whole (name, set) ∷ []) (head_stays set)
    ∙ nothing_kept name set.records

-- ---- all of them

module _ (p : List ℕ → Bool) where
  abbrev pub others : Sets → Sets
  others sets = of_names (λ name. not (p name)) sets

  abbrev own : Sets → Sets
  own sets = of_names p sets

  abbrev Same : Sets → Sets → Type 0
  Same before after = changes_between (own before) (own after) ≡ changes_between before after

  -- one that passes
  own_is : (one : List ℕ × DataSet) (sets : Sets) → p one.0 ≡ true → own (one ∷ sets) ≡ one ∷ own sets
  own_is one sets ours = ap (λ (b : Bool). if b then one ∷ own sets else own sets) ours

  not_other : (one : List ℕ × DataSet) (sets : Sets) → p one.0 ≡ true → others (one ∷ sets) ≡ others sets
  not_other one sets ours = ap (λ (b : Bool). if not b then one ∷ others sets else others sets) ours

  -- and one that doesn't
  not_own : (one : List ℕ × DataSet) (sets : Sets) → p one.0 ≡ false → own (one ∷ sets) ≡ own sets
  not_own one sets out = ap (λ (b : Bool). if b then one ∷ own sets else own sets) out

  other_is : (one : List ℕ × DataSet) (sets : Sets) → p one.0 ≡ false → others (one ∷ sets) ≡ one ∷ others sets
  other_is one sets out = ap (λ (b : Bool). if not b then one ∷ others sets else others sets) out

  -- a data set of another name than all of these is gone
  gone_first : (one : List ℕ × DataSet) (before after : Sets) → Apart one.0 (keys_of after) → changes_between (one ∷ before) after ≡ gone one ∷ changes_between before after
  gone_first one before [] apart = refl
  gone_first one before (two ∷ after) apart =
      ap (λ (b : Bool). if b then changed one.0 one.1 two.1 ++ changes_between before after else gone one ∷ changes_between before (two ∷ after)) apart.0

  apart_own : (name : List ℕ) (sets : Sets) → Apart name (keys_of sets) → Apart name (keys_of (own sets))
  apart_own name [] apart = tt
  apart_own name (one ∷ sets) apart = by (p one.0) (apart_own name sets apart.1)
    where
      by : (b : Bool) → Apart name (keys_of (own sets)) → Apart name (keys_of (if b then one ∷ own sets else own sets))
      by true rest = (apart.0, rest)
      by false rest = rest

  -- none of another name is the first of the others
  is_none : {X : Type 0} (one : List ℕ × DataSet) (sets rest : Sets) → Apart one.0 (keys_of sets) → others sets ≡ one ∷ rest → X
  is_none one [] rest apart is = cc
  is_none {X} one (two ∷ sets) rest apart is = by (p two.0) (λ later. is_none one sets rest apart.1 later) is
    where
      by : (b : Bool) → (others sets ≡ one ∷ rest → X) → (if not b then two ∷ others sets else others sets) ≡ one ∷ rest → X
      by true later h = later h
      by false later h = let same : two ≡ one = cc in absurd (true≢false (sym (itself one.0) ∙ ap (λ (s : List ℕ × DataSet). pointwise nat_eq one.0 s.0) (sym same) ∙ apart.0))

  -- both begin with data sets of one name
  met : (old new : List ℕ × DataSet) (before after : Sets) → old.0 ≡ new.0 → others (new ∷ after) ≡ others (old ∷ before)
      → (others after ≡ others before → Same before after) → Same (old ∷ before) (new ∷ after)
  met old new before after name stay rest = by (p old.0) refl
    where
      is_met : (b a : Sets) → changes_between (old ∷ b) (new ∷ a) ≡ changed old.0 old.1 new.1 ++ changes_between b a
      is_met b a =
          ap (λ (c : Bool). if c then changed old.0 old.1 new.1 ++ changes_between b a else gone old ∷ changes_between b (new ∷ a))
          (subst (λ (n : List ℕ). pointwise nat_eq old.0 n ≡ true) name (itself old.0))

      by : (b : Bool) → p old.0 ≡ b → Same (old ∷ before) (new ∷ after)
      by true ours =
          let ours_too : p new.0 ≡ true = sym (ap p name) ∙ ours in
          ap (λ (l : Sets). changes_between l (own (new ∷ after))) (own_is old before ours)
          ∙ ap (changes_between (old ∷ own before)) (own_is new after ours_too)
          ∙ is_met (own before) (own after)
          ∙ ap (λ (l : List Said). changed old.0 old.1 new.1 ++ l) (rest (sym (not_other new after ours_too) ∙ stay ∙ not_other old before ours))
          ∙ sym (is_met before after)
      by false out =
          let out_too : p new.0 ≡ false = sym (ap p name) ∙ out in
          let heads : new ∷ others after ≡ old ∷ others before = sym (other_is new after out_too) ∙ stay ∙ other_is old before out in
          let same : new ≡ old = cc in
          let stay_too : others after ≡ others before = cc in
          ap (λ (l : Sets). changes_between l (own (new ∷ after))) (not_own old before out)
          ∙ ap (changes_between (own before)) (not_own new after out_too)
          ∙ rest stay_too
          ∙ ap (λ (l : List Said). l ++ changes_between before after) (sym (unchanged old.0 old.1))
          ∙ ap (λ (s : List ℕ × DataSet). changed old.0 old.1 s.1 ++ changes_between before after) (sym same)
          ∙ sym (is_met before after)

  -- the first is gone
  left : (old : List ℕ × DataSet) (before after : Sets) → Apart old.0 (keys_of after) → others after ≡ others (old ∷ before)
      → (others after ≡ others before → Same before after) → Same (old ∷ before) after
  left old before after apart stay rest = by (p old.0) refl
    where
      by : (b : Bool) → p old.0 ≡ b → Same (old ∷ before) after
      by true ours =
          ap (λ (l : Sets). changes_between l (own after)) (own_is old before ours)
          ∙ gone_first old (own before) (own after) (apart_own old.0 after apart)
          ∙ ap (λ (l : List Said). gone old ∷ l) (rest (stay ∙ not_other old before ours))
          ∙ sym (gone_first old before after apart)
      by false out = is_none old after (others before) apart (stay ∙ other_is old before out)

  pub same_between : (before after : Sets) → AreWithin (keys_of after) (keys_of before) → NamesDiffer before → others after ≡ others before → Same before after
  same_between [] [] within differ stay = refl
  same_between [] (new ∷ after) within differ stay = elim within [ ]
  same_between (old ∷ before) [] within differ stay = left old before [] tt stay (same_between before [] tt (IsDistinct-tail (pointwise nat_eq) old.0 (keys_of before) differ))
  same_between (old ∷ before) (new ∷ after) (inl within) differ stay =
      met old new before after within.0 stay (same_between before after within.1 (IsDistinct-tail (pointwise nat_eq) old.0 (keys_of before) differ))
  same_between (old ∷ before) (new ∷ after) (inr within) differ stay =
      left old before (new ∷ after) (apart_of old.0 (keys_of before) (keys_of (new ∷ after)) within (IsDistinct-head (pointwise nat_eq) old.0 (keys_of before) differ)) stay
      (same_between before (new ∷ after) within (IsDistinct-tail (pointwise nat_eq) old.0 (keys_of before) differ))

  -- what holds of each that passes, and of each other, holds of all
  pub both_hold : (P : List ℕ × DataSet → Type 0) (sets : Sets) → AllByRecursion P (own sets) → AllByRecursion P (others sets) → AllByRecursion P sets
  both_hold P [] mine theirs = tt
  both_hold P (one ∷ sets) mine theirs = by (p one.0) (both_hold P sets) mine theirs
    where
      by : (b : Bool) → (AllByRecursion P (own sets) → AllByRecursion P (others sets) → AllByRecursion P sets)
          → AllByRecursion P (if b then one ∷ own sets else own sets) → AllByRecursion P (if not b then one ∷ others sets else others sets)
          → AllByRecursion P (one ∷ sets)
      by true rest mine theirs = (mine.0, rest mine.1 theirs)
      by false rest mine theirs = (theirs.0, rest mine theirs.1)

  pub others_hold : (P : List ℕ × DataSet → Type 0) (sets : Sets) → AllByRecursion P sets → AllByRecursion P (others sets)
  others_hold P [] all = tt
  others_hold P (one ∷ sets) all = by (p one.0) (others_hold P sets all.1)
    where
      by : (b : Bool) → AllByRecursion P (others sets) → AllByRecursion P (if not b then one ∷ others sets else others sets)
      by true rest = rest
      by false rest = (all.0, rest)
