-- The end of a text, character by character.
use Rattle.std.proofs.Common.{◌≡◌, ◌<◌, ◌+◌, ℕ, Bool, true, false, List, length, drop, get_or, Option, Some, sym, ap, ◌∙◌, if◌then◌else◌}
use Rattle.std.proofs.lemmas.List.{at_drop_more, get_or-map}
use Rattle.mon_text.specs.Characters.{is_blank}
use Rattle.sno_cards.specs.Texts.{Placed, text_of}
use Rattle.sno_syntax.{specs.Places.{nowhere, place_at, next_to}, specs.inner.Ends.{place_after}, proofs.Shorthand.{end_after, end_from}}

blank : Placed
blank = record { code = 32; place = nowhere }

module _ (cs : List Placed) (i code d : ℕ) (last : Option ℕ) (within : i < length cs) (is : code ≡ get_or (text_of cs) i d) where
  here : end_from (end_after (place_after cs last) code (place_at cs i)) (drop (i + 1) cs) ≡ end_from (place_after cs last) (drop i cs)
  here =
      let c = get_or-map (λ (c : Placed). c.code) cs i blank d within in
      let p = get_or-map (λ (c : Placed). c.place) cs i blank nowhere within in
      ap (λ n. end_from (end_after (place_after cs last) n (place_at cs i)) (drop (i + 1) cs)) (is ∙ c)
      ∙ ap (λ q. end_from (end_after (place_after cs last) (get_or cs i blank).code q) (drop (i + 1) cs)) p
      ∙ sym (at_drop_more (end_from (place_after cs last)) cs i blank within)

  -- a blank is passed over
  pub past_blank : is_blank code ≡ true → end_from (place_after cs last) (drop (i + 1) cs) ≡ end_from (place_after cs last) (drop i cs)
  past_blank blank_here =
      sym (ap (λ (b : Bool). end_from (if b then place_after cs last else next_to (place_at cs i)) (drop (i + 1) cs)) blank_here) ∙ here

  -- anything else is the last so far
  pub past_other : is_blank code ≡ false → end_from (place_after cs (Some i)) (drop (i + 1) cs) ≡ end_from (place_after cs last) (drop i cs)
  past_other ink_here =
      sym (ap (λ (b : Bool). end_from (if b then place_after cs last else next_to (place_at cs i)) (drop (i + 1) cs)) ink_here) ∙ here
