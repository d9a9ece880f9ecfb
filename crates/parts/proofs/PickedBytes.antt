-- What is picked key by key is what is picked.
use Rattle.std.proofs.Common.{◌≡◌, ℕ, Bool, List, [], ◌∷◌, ◌++◌, Option, Some, None, refl, ap, ◌∙◌, append_assoc, flat_map}
use Rattle.std.specs.{Prelude.{unwrap_or, nat_eq, ◌==◌, option_map}, Map.{lookup}, Global.{Vec}, Cmp.Lexicographic.{pointwise}}
use Rattle.std.proofs.lemmas.Map.Made.{lookup-map_values}
use Rattle.parts_laws.specs.{Picking.{and_if, picked}, Runs.{Split}}
use Rattle.parts.specs.{Joining.{bytes_of, printed_in, left_in, texts_joined, sets_joined}, declared.joining.Part.{Part}, inner.Picks.{printout_of, set_of}}

module _ {K : Type 0} (same : K → K → Bool) (goes : K → ℕ) (parts : ℕ → List (K × List ℕ)) where
  abbrev one : K → List ℕ
  one key = unwrap_or (lookup (same key) (parts (goes key))) []

  abbrev all : List K → List ℕ
  all keys = flat_map (λ e. e.1) (picked same goes parts keys)

  pub each_picked : (keys : List K) → flat_map one keys ≡ all keys
  each_picked [] = refl
  each_picked (key ∷ keys) = by (lookup (same key) (parts (goes key))) (each_picked keys)
    where
      by : (o : Option (List ℕ)) → flat_map one keys ≡ all keys
          → unwrap_or o [] ++ flat_map one keys ≡ flat_map (λ e. e.1) (and_if key o (picked same goes parts keys))
      by None h = h
      by (Some text) h = ap (λ (l : List ℕ). text ++ l) h

-- what is found, in bytes
pub found_bytes : {K : Type 0} (test : K → Bool) (entries : List (K × Vec ℕ)) → lookup test (bytes_of entries) ≡ option_map (λ v. v.items) (lookup test entries)
found_bytes test entries = lookup-map_values (λ v. v.items) test entries

module _ (split : Split (List ℕ)) (parts : List Part) where
  pub texts_are : (numbers : List ℕ) → flat_map (printout_of split parts) numbers ≡ texts_joined split parts numbers
  texts_are numbers = each_picked (λ (n : ℕ) (m : ℕ). n == m) split.of_text (printed_in parts) numbers

  pub sets_are : (names : List (List ℕ)) → flat_map (set_of split parts) names ≡ sets_joined split parts names
  sets_are names = each_picked (pointwise nat_eq) split.of_name (left_in parts) names

-- the printouts, a heading, and the data sets
pub one_behind_another : (none printed headed out texts heading sets all_texts all_sets : List ℕ) → none ≡ [] → printed ≡ none ++ texts
    → headed ≡ printed ++ heading → out ≡ headed ++ sets → texts ≡ all_texts → sets ≡ all_sets → out ≡ all_texts ++ (heading ++ all_sets)
one_behind_another none printed headed out texts heading sets all_texts all_sets at_first then_texts then_heading then_sets texts_are sets_are =
    then_sets
    ∙ ap (λ (l : List ℕ). l ++ sets) (then_heading ∙ ap (λ (l : List ℕ). l ++ heading) (then_texts ∙ ap (λ (l : List ℕ). l ++ texts) at_first))
    ∙ append_assoc texts heading sets
    ∙ ap (λ (l : List ℕ). texts ++ (heading ++ l)) sets_are
    ∙ ap (λ (l : List ℕ). l ++ (heading ++ all_sets)) texts_are
