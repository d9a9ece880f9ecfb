-- What is picked of texts made from entries is made from what is picked of these.
use Rattle.std.proofs.Common.{◌≡◌, ℕ, Bool, true, false, cond, List, [], ◌∷◌, Option, Some, None, refl, sym, ap, ◌∙◌, map, option_map, flat_map}
use Rattle.std.{specs.Map.{lookup}, proofs.lemmas.List.Folds.{flat_map-map}}
use Rattle.parts_laws.{specs.Picking.{Decides, and_if, picked}, proofs.Running.{picked_alike}}

module _ {K V : Type 0} (same : K → K → Bool) (decides : Decides same) (text : K → V → List ℕ) where
  -- entries, with what is written of each
  abbrev pub written : List (K × V) → List (K × List ℕ)
  written entries = map (λ e. (e.0, text e.0 e.1)) entries

  found_written : (key : K) (entries : List (K × V)) → lookup (same key) (written entries) ≡ option_map (text key) (lookup (same key) entries)
  found_written key [] = refl
  found_written key (e ∷ entries) = by (same key e.0) refl (found_written key entries)
    where
      by : (b : Bool) → same key e.0 ≡ b → lookup (same key) (written entries) ≡ option_map (text key) (lookup (same key) entries)
          → cond b (Some (text e.0 e.1)) (lookup (same key) (written entries)) ≡ option_map (text key) (cond b (Some e.1) (lookup (same key) entries))
      by true is rest = ap (λ (k : K). Some (text k e.1)) (sym (decides.alike key e.0 is))
      by false is rest = rest

  picked_written : (goes : K → ℕ) (parts : ℕ → List (K × V)) (keys : List K)
      → picked same goes (λ k. written (parts k)) keys ≡ written (picked same goes parts keys)
  picked_written goes parts [] = refl
  picked_written goes parts (key ∷ keys) =
      ap (λ (o : Option (List ℕ)). and_if key o (picked same goes (λ k. written (parts k)) keys)) (found_written key (parts (goes key)))
      ∙ by (lookup (same key) (parts (goes key))) (picked_written goes parts keys)
    where
      by : (o : Option V) → picked same goes (λ k. written (parts k)) keys ≡ written (picked same goes parts keys)
          → and_if key (option_map (text key) o) (picked same goes (λ k. written (parts k)) keys) ≡ written (and_if key o (picked same goes parts keys))
      by None rest = rest
      by (Some value) rest = ap (λ (l : List (K × List ℕ)). (key, text key value) ∷ l) rest

  -- one behind the other
  pub picked_texts : (goes : K → ℕ) (wrote : ℕ → List (K × List ℕ)) (parts : ℕ → List (K × V)) → ((k : ℕ) → wrote k ≡ written (parts k)) → (keys : List K)
      → flat_map (λ e. e.1) (picked same goes wrote keys) ≡ flat_map (λ e. text e.0 e.1) (picked same goes parts keys)
  picked_texts goes wrote parts are keys =
      ap (flat_map (λ e. e.1)) (picked_alike same goes wrote (λ k. written (parts k)) are keys ∙ picked_written goes parts keys)
      ∙ flat_map-map (λ (e : K × List ℕ). e.1) (λ (e : K × V). (e.0, text e.0 e.1)) (picked same goes parts keys)
