-- Names that were met, one by one.
use Rattle.std.proofs.Common.{◌≡◌, ℕ, ◌+◌, Bool, true, false, List, [], ◌∷◌, ◌++◌, map, length, filter, cond, Option, Some, None, option_map, if◌then◌else◌, refl, sym, ap, ◌∙◌, append_assoc, inl, inr, arith}
use Rattle.std.specs.List.{fold}
use Rattle.ledger_turns.{specs.Names.{kept_with, first_names}, proofs.Sorting.{keeps_first}}
use Rattle.ledger_boxes.specs.{declared.look.Entry.{Entry}, Sights.{Named, Sight, Met, seen_entry}, Listing.{is_due, due_names, kept_due, met, ListsFrom}}

-- what is kept of those that were met so far
abbrev pub kept_of : ℕ → List (List ℕ) → List Named → List (List ℕ)
kept_of most names entries = fold (kept_due most) names entries

pub kept_more : (most : ℕ) (names : List (List ℕ)) (entries : List Named) (entry : Named) → kept_of most names (entries ++ entry ∷ []) ≡ kept_due most (kept_of most names entries) entry
kept_more most names [] entry = refl
kept_more most names (e ∷ entries) entry = kept_more most (kept_due most names e) entries entry

pub met_more : (place : ℕ) (entries : List Named) (entry : Named) → met place (entries ++ entry ∷ []) ≡ met place entries ++ Met place (Some entry) ∷ []
met_more place [] entry = refl
met_more place (e ∷ entries) entry = ap (λ (t : List Sight). Met place (Some e) ∷ t) (met_more place entries entry)

-- so they are the names that are due, of which the first are kept
due_kept : (most : ℕ) (names : List (List ℕ)) (entries : List Named) → kept_of most names entries ≡ fold (kept_with most) names (due_names entries)
due_kept most names [] = refl
due_kept most names (entry ∷ entries) = by (is_due entry) refl (λ kept. due_kept most kept entries)
  where
    by : (b : Bool) → is_due entry ≡ b → ((kept : List (List ℕ)) → kept_of most kept entries ≡ fold (kept_with most) kept (due_names entries)) → kept_of most names (entry ∷ entries) ≡ fold (kept_with most) names (due_names (entry ∷ entries))
    by true e rest =
        ap (λ (b : Bool). kept_of most (if b then kept_with most names entry.name else names) entries) e
        ∙ rest (kept_with most names entry.name)
        ∙ sym (ap (λ (b : Bool). fold (kept_with most) names (map (λ (n : Named). n.name) (cond b (entry ∷ filter is_due entries) (filter is_due entries)))) e)
    by false e rest =
        ap (λ (b : Bool). kept_of most (if b then kept_with most names entry.name else names) entries) e
        ∙ rest names
        ∙ sym (ap (λ (b : Bool). fold (kept_with most) names (map (λ (n : Named). n.name) (cond b (entry ∷ filter is_due entries) (filter is_due entries)))) e)

length_more : (entries : List Named) (entry : Named) → length (entries ++ entry ∷ []) ≡ length entries + 1
length_more [] entry = refl
length_more (e ∷ entries) entry = let more = length_more entries entry in omega (arith, more)

-- what was met, and kept, up to now
pub record HasMet {B : Type 0} (seen : B → List Sight) (place most : ℕ) (names : List (List ℕ)) (count : ℕ) (old new : B) : Type 0 where
  pub entries : List Named
  pub saw : seen new ≡ seen old ++ met place entries
  pub kept : names ≡ kept_of most [] entries
  pub counted : length entries ≡ count

append_none : {A : Type 0} (xs : List A) → xs ++ [] ≡ xs
append_none [] = refl
append_none {A} (x ∷ xs) = ap (λ (l : List A). x ∷ l) (append_none xs)

module _ {B : Type 0} (seen : B → List Sight) (place most : ℕ) (old : B) where
  pub none_met : (names : List (List ℕ)) → names ≡ [] → HasMet seen place most names 0 old old
  none_met names none = record { entries = []; saw = sym (append_none (seen old)); kept = none; counted = refl }

  pub one_met : (names next : List (List ℕ)) (count : ℕ) (now new : B) (entry : Named) → HasMet seen place most names count old now
      → seen new ≡ seen now ++ Met place (Some entry) ∷ [] → next ≡ kept_due most names entry → HasMet seen place most next (count + 1) old new
  one_met names next count now new entry had saw kept = record {
    entries = had.entries ++ entry ∷ [];
    saw = saw ∙ ap (λ (l : List Sight). l ++ Met place (Some entry) ∷ []) had.saw ∙ append_assoc (seen old) (met place had.entries) (Met place (Some entry) ∷ [])
        ∙ ap (λ (l : List Sight). seen old ++ l) (sym (met_more place had.entries entry));
    kept = kept ∙ ap (λ (n : List (List ℕ)). kept_due most n entry) had.kept ∙ sym (kept_more most [] had.entries entry);
    counted = length_more had.entries entry ∙ ap (λ (n : ℕ). n + 1) had.counted;
  }

  first_kept : (names : List (List ℕ)) (count : ℕ) (now : B) (had : HasMet seen place most names count old now) → names ≡ first_names most (due_names had.entries)
  first_kept names count now had = had.kept ∙ due_kept most [] had.entries ∙ keeps_first most (due_names had.entries)

  -- the box's end
  pub lists_end : (looks : ℕ) (names : List (List ℕ)) (count : ℕ) (now new : B) (found : Option Entry) → HasMet seen place most names count old now → found ≡ None
      → seen new ≡ seen now ++ Met place (option_map seen_entry found) ∷ [] → ListsFrom seen place looks most names old new
  lists_end looks names count now new found had none saw = record {
    entries = had.entries;
    behind = Met place None ∷ [];
    saw = saw ∙ ap (λ (o : Option Entry). seen now ++ Met place (option_map seen_entry o) ∷ []) none
        ∙ ap (λ (l : List Sight). l ++ Met place None ∷ []) had.saw ∙ append_assoc (seen old) (met place had.entries) (Met place None ∷ []);
    are_all = inl refl;
    are = first_kept names count now had;
  }

  -- so many were looked at
  pub lists_all : (looks : ℕ) (names : List (List ℕ)) (count : ℕ) (now : B) → HasMet seen place most names count old now → count ≡ looks
      → ListsFrom seen place looks most names old now
  lists_all looks names count now had all = record {
    entries = had.entries;
    behind = [];
    saw = had.saw ∙ ap (λ (l : List Sight). seen old ++ l) (sym (append_none (met place had.entries)));
    are_all = inr (refl, had.counted ∙ all);
    are = first_kept names count now had;
  }
