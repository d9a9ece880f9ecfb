-- The words up to the first that ends the options or asks for an audit, and what follows them.
use Rattle.std.proofs.Common.{◌≡◌, ◌∙◌, ℕ, suc, ◌+◌, ◌<◌, ◌||◌, ◌⊎◌, inl, inr, Bool, true, false, List, [], ◌∷◌, ◌++◌, Option, Some, None, refl, sym, ap, subst, arith, length, map, take, drop, get_or, append_assoc, if◌then◌else◌}
use Rattle.std.{specs.Prelude.{is_some}, specs.Option.{option_map, option_map_or}, proofs.Math.Seq.{drop-append_seam, drop-cons, take-append_seam, take-suc}}
use Rattle.std.proofs.lemmas.List.{drop-map, get_or-map, length-map, length-take-le, map-append, take-map}
use Rattle.snomon_library.specs.Asking.{Asked, GivesAll, asked_for, asked_in, asked_next, audit_of, behind, file_in, is_end, is_file, is_option}
use Rattle.snomon_library.specs.{CommandLine.{Gives}, inner.Asking.{onto, stands_out}}
use Rattle.deck_driver.specs.declared.options.Options.{Options}

-- behind the program's name
pub starts : (texts : List (List ℕ)) → 0 < length texts → audit_of texts ≡ option_map (onto (take 1 texts)) (asked_in (drop 1 texts))
starts [] some = absurd (omega (arith, some))
starts (program ∷ words) some = refl

-- a word that does not stand out
one : (word : List ℕ) (words : List (List ℕ)) → stands_out word ≡ false → asked_in (word ∷ words) ≡ option_map (behind word) (asked_in words)
one word words plain = go (is_end word) (file_in word) (is_option word) plain
  where
    go : (ends : Bool) (file : Option (List ℕ)) (asks : Bool) → (ends || (is_some file || asks)) ≡ false
        → (if ends then Some (record { left = word ∷ words; file = None })
        else option_map_or (λ name. asked_for name words) file (if asks then asked_next words else option_map (behind word) (asked_in words)))
        ≡ option_map (behind word) (asked_in words)
    go false None false e = refl
    go false None true e = cc
    go false (Some name) asks e = cc
    go true file asks e = cc

further : (front : List (List ℕ)) (word : List ℕ) (asked : Option Asked) → option_map (onto front) (option_map (behind word) asked) ≡ option_map (onto (front ++ word ∷ [])) asked
further front word None = refl
further front word (Some asked) = ap (λ l. Some (record asked { left = l })) (sym (append_assoc front (word ∷ []) asked.left))

-- one word more
pub passes : (texts : List (List ℕ)) (at : ℕ) → at < length texts → stands_out (get_or texts at []) ≡ false
    → option_map (onto (take at texts)) (asked_in (drop at texts)) ≡ option_map (onto (take (at + 1) texts)) (asked_in (drop (at + 1) texts))
passes texts at within plain =
    let word = get_or texts at [] in
    let more : suc at ≡ at + 1 = omega arith in
    ap (λ (l : List (List ℕ)). option_map (onto (take at texts)) (asked_in l)) (drop-cons texts at [] within)
    ∙ ap (λ (asked : Option Asked). option_map (onto (take at texts)) asked) (one word (drop (suc at) texts) plain)
    ∙ further (take at texts) word (asked_in (drop (suc at) texts))
    ∙ ap (λ (l : List (List ℕ)). option_map (onto l) (asked_in (drop (suc at) texts))) (sym (take-suc texts at [] within))
    ∙ ap (λ (n : ℕ). option_map (onto (take n texts)) (asked_in (drop n texts))) more

-- ---- the word that stands out

pub for_file : (name : List ℕ) (words : List (List ℕ)) → is_file name ≡ true → asked_for name words ≡ Some (record { left = words; file = Some name })
for_file name words is = ap (λ (b : Bool). if b then Some (record { left = words; file = Some name }) else None) is

pub for_none : (name : List ℕ) (words : List (List ℕ)) → is_file name ≡ false → asked_for name words ≡ None
for_none name words is = ap (λ (b : Bool). if b then Some (record { left = words; file = Some name }) else None) is

module _ (texts : List (List ℕ)) (at : ℕ) (word : List ℕ) (rest : List (List ℕ)) (here : drop at texts ≡ word ∷ rest) where
  -- a word names the file
  pub next_named : (left : List (List ℕ)) (same : List ℕ) → left ≡ rest → is_file word ≡ true → same ≡ word
      → asked_next (drop at texts) ≡ Some (record { left = left; file = Some same })
  next_named left same left_is is same_is =
      ap asked_next here ∙ for_file word rest is
      ∙ (λ i. Some (record { left = sym left_is i; file = Some (sym same_is i) }))

  pub next_refused : is_file word ≡ false → asked_next (drop at texts) ≡ None
  next_refused is = ap asked_next here ∙ for_none word rest is

  module _ (passed : audit_of texts ≡ option_map (onto (take at texts)) (asked_in (drop at texts))) (no_end : is_end word ≡ false) where
    abbrev answer : Bool → Option (List ℕ) → Bool → Option Asked
    answer ends file asks =
        option_map (onto (take at texts)) (if ends then Some (record { left = word ∷ rest; file = None })
        else option_map_or (λ name. asked_for name rest) file (if asks then asked_next rest else option_map (behind word) (asked_in rest)))

    at_word : audit_of texts ≡ answer (is_end word) (file_in word) (is_option word)
    at_word = passed ∙ ap (λ (l : List (List ℕ)). option_map (onto (take at texts)) (asked_in l)) here

    -- it names the file too
    with_file : (name : List ℕ) → file_in word ≡ Some name → audit_of texts ≡ option_map (onto (take at texts)) (asked_for name rest)
    with_file name file = at_word ∙ (λ i. answer (no_end i) (file i) (is_option word))

    pub file_named : (name same : List ℕ) (left : List (List ℕ)) → file_in word ≡ Some name → is_file name ≡ true → same ≡ name → left ≡ take at texts ++ rest
        → audit_of texts ≡ Some (record { left = left; file = Some same })
    file_named name same left file is same_is left_is =
        with_file name file ∙ ap (λ (a : Option Asked). option_map (onto (take at texts)) a) (for_file name rest is)
        ∙ (λ i. Some (record { left = sym left_is i; file = Some (sym same_is i) }))

    module _ (no_file : file_in word ≡ None) (stands : stands_out word ≡ true) where
      asks : is_option word ≡ true
      asks = (λ i. sym no_end i || (is_some (sym no_file i) || is_option word)) ∙ stands

      -- the next word does
      with_next : audit_of texts ≡ option_map (onto (take at texts)) (asked_next rest)
      with_next = at_word ∙ (λ i. answer (no_end i) (no_file i) (asks i))

      pub next_taken : (name : List ℕ) (behind_it left : List (List ℕ)) → asked_next rest ≡ Some (record { left = behind_it; file = Some name })
          → left ≡ take at texts ++ behind_it → audit_of texts ≡ Some (record { left = left; file = Some name })
      next_taken name behind_it left next left_is =
          with_next ∙ ap (λ (a : Option Asked). option_map (onto (take at texts)) a) next
          ∙ (λ i. Some (record { left = sym left_is i; file = Some name }))

      pub next_none : asked_next rest ≡ None → audit_of texts ≡ None
      next_none next = with_next ∙ ap (λ (a : Option Asked). option_map (onto (take at texts)) a) next

-- ---- a list whose word is taken out

module _ {S : Type 0} (text : S → List ℕ) (words : List S) (at : ℕ) (here : at < length words) where
  abbrev texts : List (List ℕ)
  texts = map text words

  within : at < length texts
  within = omega (arith, here, length-map words text)

  -- the word at a place, and those behind it
  pub from_here : (word : S) → word ≡ get_or words at word → drop at texts ≡ text word ∷ drop (at + 1) texts
  from_here word is =
      let more : suc at ≡ at + 1 = omega arith in
      let text_is : get_or texts at [] ≡ text word = get_or-map text words at word [] here ∙ ap text (sym is) in
      drop-cons texts at [] within ∙ (λ i. text_is i ∷ drop (more i) texts)

  module _ (after : List S) (removed : after ≡ take at words ++ drop (at + 1) words) where
    pub parts : map text after ≡ take at texts ++ drop (at + 1) texts
    parts = ap (map text) removed ∙ map-append text (take at words) (drop (at + 1) words) ∙ (λ i. sym (take-map text at words) i ++ sym (drop-map text (at + 1) words) i)

    front : length (take at texts) ≡ at
    front = length-take-le at texts (omega (arith, within))

    pub left_behind : drop at (map text after) ≡ drop (at + 1) texts
    left_behind =
        ap (λ (l : List (List ℕ)). drop at l) parts
        ∙ ap (λ (n : ℕ). drop n (take at texts ++ drop (at + 1) texts)) (sym front)
        ∙ drop-append_seam (take at texts) (drop (at + 1) texts)

    pub left_before : take at (map text after) ≡ take at texts
    left_before =
        ap (λ (l : List (List ℕ)). take at l) parts
        ∙ ap (λ (n : ℕ). take n (take at texts ++ drop (at + 1) texts)) (sym front)
        ∙ take-append_seam (take at texts) (drop (at + 1) texts)

-- want of memory, or what follows
pub or_none : {P Q R : Type 0} → (Q → R) → P ⊎ Q → P ⊎ R
or_none f (inl p) = inl p
or_none f (inr q) = inr (f q)

-- words that leave none that give options ask for nothing
abbrev left_of : Option Asked → List (List ℕ)
left_of None = []
left_of (Some asked) = asked.left

pub none_given : (words left : List (List ℕ)) (file : Option (List ℕ)) → audit_of words ≡ Some (record { left = left; file = file }) → ((options : Options) → Gives left options → ⊥)
    → (options : Options) (other : Option (List ℕ)) → GivesAll words options other → ⊥
none_given words left file took none options other all = none options (subst (λ (l : List (List ℕ)). Gives l options) (ap left_of (sym all.1 ∙ took)) all.2)
