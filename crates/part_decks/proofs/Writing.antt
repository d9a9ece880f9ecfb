-- What is written for a part is a round's deck.
use Rattle.std.proofs.Common.{◌≡◌, ℕ, suc, ◌≤◌, Bool, true, false, List, [], ◌∷◌, ◌++◌, length, refl, sym, ap, ◌∙◌, arith, append_assoc, flat_map}
use Rattle.std.specs.{Prelude.{codes, filter, if◌then◌else◌, ◌==◌, nat_eq}, List.{AllByRecursion}, Cmp.Lexicographic.{pointwise}}
use Rattle.std.proofs.lemmas.{Grind.{flat_map-append}, Map.Made.{IsDistinct-keys_filter}}
use Rattle.mon_catalogue.specs.{declared.data_set.DataSet.{DataSet}, Sets.{Sets}, Stored.{IsStored, IsStoredSet}}
use Rattle.mon_catalogue.specs.Text.{set_lines, text_of, catalogue_lines, catalogue_text}
use Rattle.mon_text.specs.Lines.{IsLine}
use Rattle.preflight.specs.{declared.submission.Submission.{Submission}, Rounds.{Handed}}
use Rattle.parts_laws.specs.{Picking.{part_of}, Runs.{Split}}
use Rattle.rounds.specs.Compositions.{AreAdmitted, with_fence, head_text, IsGoodRound}
use Rattle.job_numbers.specs.Alone.{texts_of_part, PartsRunAlone}
use Rattle.deck_parts.specs.{declared.deck.SetText.{SetText}, Wholes.{fenced}, PartDecks.{set_in, texts_in}}
use Rattle.part_decks.specs.Laws.{AreSets, PartsAreWritten}

-- what holds of all holds of some
some : {A : Type 0} (P : A → Type 0) (p : A → Bool) (xs : List A) → AllByRecursion P xs → AllByRecursion P (filter p xs)
some P p [] all = all
some {A} P p (x ∷ xs) all = by (p x) (some P p xs all.1)
  where
    by : (b : Bool) → AllByRecursion P (filter p xs) → AllByRecursion P (if b then x ∷ filter p xs else filter p xs)
    by true rest = (all.0, rest)
    by false rest = rest

fewer : {A : Type 0} (p : A → Bool) (xs : List A) → length (filter p xs) ≤ length xs
fewer p [] = omega arith
fewer {A} p (x ∷ xs) = by (p x) (fewer p xs)
  where
    by : (b : Bool) → length (filter p xs) ≤ length xs → length (if b then x ∷ filter p xs else filter p xs) ≤ suc (length xs)
    by true rest = omega (arith, rest)
    by false rest = omega (arith, rest)

stored_in : (p : List ℕ × DataSet → Bool) (sets : Sets) → IsStored sets → IsStored (filter p sets)
stored_in p sets stored =
    let few : length (filter p sets) ≤ length sets = fewer p sets in
    ((IsDistinct-keys_filter (pointwise nat_eq) p sets stored.0.0, omega (arith, few, stored.0.1)), some IsStoredSet p sets stored.1)

module _ (split : Split (List ℕ)) (k : ℕ) where
  -- the texts of the part, of those from this place on
  abbrev own : ℕ → List Submission → List Submission
  own n [] = []
  own n (text ∷ texts) = if split.of_text n == k then text ∷ own (suc n) texts else own (suc n) texts

  texts_are : (n : ℕ) (texts : List Submission) → texts_in split k n texts ≡ flat_map with_fence (own n texts)
  texts_are n [] = refl
  texts_are n (text ∷ texts) = by (split.of_text n == k) (texts_are (suc n) texts)
    where
      by : (b : Bool) → texts_in split k (suc n) texts ≡ flat_map with_fence (own (suc n) texts)
          → (if b then fenced text else []) ++ texts_in split k (suc n) texts ≡ flat_map with_fence (if b then text ∷ own (suc n) texts else own (suc n) texts)
      by true rest = ap (λ (l : List ℕ). fenced text ++ l) rest
      by false rest = rest

  admitted : (n : ℕ) (texts : List Submission) (handed : List Handed) → AreAdmitted texts handed → AreAdmitted (own n texts) (texts_of_part split k n handed)
  admitted n [] [] are = tt
  admitted n [] (one ∷ handed) are = absurd are
  admitted n (text ∷ texts) [] are = absurd are
  admitted n (text ∷ texts) (one ∷ handed) (is, here, are) = by (split.of_text n == k) (admitted (suc n) texts handed are)
    where
      by : (b : Bool) → AreAdmitted (own (suc n) texts) (texts_of_part split k (suc n) handed)
          → AreAdmitted (if b then text ∷ own (suc n) texts else own (suc n) texts)
          (if b then one ∷ texts_of_part split k (suc n) handed else texts_of_part split k (suc n) handed)
      by true rest = (is, here, rest)
      by false rest = rest

  sets_are : (texts : List SetText) (sets : Sets) → AreSets texts sets → flat_map (set_in split k) texts ≡ catalogue_text (part_of split.of_name k sets)
  sets_are [] [] are = refl
  sets_are [] (named ∷ sets) are = absurd are
  sets_are (text ∷ texts) [] are = absurd are
  sets_are (text ∷ texts) (named ∷ sets) (name_is, text_is, are) =
      ap (λ (name : List ℕ). (if split.of_name name == k then text.text.items else []) ++ flat_map (set_in split k) texts) name_is
      ∙ ap (λ (bytes : List ℕ). (if split.of_name named.0 == k then bytes else []) ++ flat_map (set_in split k) texts) text_is
      ∙ by (split.of_name named.0 == k) (sets_are texts sets are)
    where
      by : (b : Bool) → flat_map (set_in split k) texts ≡ catalogue_text (part_of split.of_name k sets)
          → (if b then text_of (set_lines named) else []) ++ flat_map (set_in split k) texts
          ≡ catalogue_text (if b then named ∷ part_of split.of_name k sets else part_of split.of_name k sets)
      by true rest =
          ap (λ (l : List ℕ). text_of (set_lines named) ++ l) rest
          ∙ sym (flat_map-append (λ (line : List ℕ). line ++ 10 ∷ []) (set_lines named) (catalogue_lines (part_of split.of_name k sets)))
      by false rest = rest

-- four pieces, as they stand in the deck of a part, and in that of a round
regrouped : (accounts table card sets stream texts stop : List ℕ)
    → (accounts ++ (table ++ card)) ++ (sets ++ (stream ++ (texts ++ stop))) ≡ ((accounts ++ (table ++ ((card ++ sets) ++ stream))) ++ texts) ++ stop
regrouped accounts table card sets stream texts stop =
    let rest : List ℕ = texts ++ stop in
    let later : List ℕ = sets ++ (stream ++ rest) in
    append_assoc accounts (table ++ card) later ∙ ap (λ (l : List ℕ). accounts ++ l) (append_assoc table card later)
    ∙ sym (append_assoc (accounts ++ (table ++ ((card ++ sets) ++ stream))) texts stop
    ∙ append_assoc accounts (table ++ ((card ++ sets) ++ stream)) rest
    ∙ ap (λ (l : List ℕ). accounts ++ l) (append_assoc table ((card ++ sets) ++ stream) rest)
    ∙ ap (λ (l : List ℕ). accounts ++ (table ++ l)) (append_assoc (card ++ sets) stream rest)
    ∙ ap (λ (l : List ℕ). accounts ++ (table ++ l)) (append_assoc card sets (stream ++ rest)))

pub are_written : PartsRunAlone → PartsAreWritten
are_written run_alone options whole table accounts sets handed split marks k check round =
    let own_sets : Sets = part_of split.of_name k sets in
    let head : List ℕ = head_text (text_of table) own_sets in
    let texts : List Submission = own split k 0 whole.texts.items in
    let good : IsGoodRound head texts table accounts own_sets (texts_of_part split k 0 handed) = record {
      begins = record {
        head_is = refl;
        table_is = round.table_is;
        names_differ = round.names_differ;
        stored = stored_in (λ (e : List ℕ × DataSet). split.of_name e.0 == k) sets round.stored;
        printable = some (λ (named : List ℕ × DataSet). AllByRecursion IsLine named.1.records) (λ (e : List ℕ × DataSet). split.of_name e.0 == k) sets round.printable;
      };
      texts_are = admitted split k 0 whole.texts.items handed round.texts_are;
    } in
    record {
      head = head;
      texts = texts;
      deck_is =
          ap (λ (l : List ℕ). l ++ (flat_map (set_in split k) whole.sets.items ++ (codes "$STREAM\n" ++ (texts_in split k 0 whole.texts.items ++ codes "$STOP\n")))) round.front_is
          ∙ ap (λ (l : List ℕ). (codes "$ACCOUNTS\n" ++ (text_of table ++ codes "$CATALOGUE 2\n")) ++ (l ++ (codes "$STREAM\n" ++ (texts_in split k 0 whole.texts.items ++ codes "$STOP\n"))))
          (sets_are split k whole.sets.items sets round.sets_are)
          ∙ ap (λ (l : List ℕ). (codes "$ACCOUNTS\n" ++ (text_of table ++ codes "$CATALOGUE 2\n")) ++ (catalogue_text own_sets ++ (codes "$STREAM\n" ++ (l ++ codes "$STOP\n"))))
          (texts_are split k 0 whole.texts.items)
          ∙ regrouped (codes "$ACCOUNTS\n") (text_of table) (codes "$CATALOGUE 2\n") (catalogue_text own_sets) (codes "$STREAM\n") (flat_map with_fence texts) (codes "$STOP\n");
      alone = run_alone options accounts split handed sets marks k head texts table check good;
    }
