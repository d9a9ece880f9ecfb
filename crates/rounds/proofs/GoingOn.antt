-- No deck of good rounds is refused.
use Rattle.std.proofs.Common.{◌≡◌, ℕ, List, [], ◌∷◌, ◌++◌, flat_map, refl, sym, ap, ap₂, ◌∙◌, append_assoc}
use Rattle.std.specs.Prelude.{codes}
use Rattle.mon_access.specs.declared.account.Account.{Account}
use Rattle.mon_catalogue.specs.{Sets.{Sets}, Text.{text_of}}
use Rattle.deck_syntax.specs.{Decks.{Stopped}, Sections.{deck_of}}
use Rattle.deck_run.{specs.Runs.{deck_ending}, proofs.Beginning.{read_back_is_stored}}
use Rattle.preflight.specs.{declared.submission.Submission.{Submission}, Rounds.{Handed, AreHanded, stream_lines, round_lines}, Laws.{NeverRefused}}
use Rattle.rounds.specs.{Compositions.{with_fence, head_text, front_text, round_text, AreAdmitted, IsGoodRound}, Laws.{GoesOn}}
use Rattle.rounds.proofs.Heads.{head_lines, front_lines, head_is, stop_behind, text_both}

all_handed : (submissions : List Submission) (texts : List Handed) → AreAdmitted submissions texts → AreHanded texts
all_handed [] [] are = tt
all_handed [] (text ∷ texts) are = absurd are
all_handed (submission ∷ submissions) [] are = absurd are
all_handed (submission ∷ submissions) (text ∷ texts) (text_is, is, are) = (is, all_handed submissions texts are)

-- the bytes of the texts with their fences
stream_is : (submissions : List Submission) (texts : List Handed) → AreAdmitted submissions texts → flat_map with_fence submissions ≡ text_of (stream_lines texts)
stream_is [] [] are = refl
stream_is [] (text ∷ texts) are = absurd are
stream_is (submission ∷ submissions) [] are = absurd are
stream_is (submission ∷ submissions) (text ∷ texts) (text_is, is, are) =
    ap₂ (λ (t more : List ℕ). (t ++ codes "$DRAIN\n") ++ more) text_is (stream_is submissions texts are)
    ∙ append_assoc (text_of text.lines) (codes "$DRAIN\n") (text_of (stream_lines texts))
    ∙ sym (text_both text.lines (codes "$DRAIN" ∷ stream_lines texts))

module _ (never_refused : NeverRefused) where
  -- a good round's deck is good
  pub good_ends : (head : List ℕ) (submissions : List Submission) (table : List (List ℕ)) (accounts : List Account) (sets : Sets) (texts : List Handed)
      → IsGoodRound head submissions table accounts sets texts → deck_ending (round_text head submissions) ≡ Stopped
  good_ends head submissions table accounts sets texts good =
      let handed = all_handed submissions texts good.texts_are in
      let front : front_text head submissions ≡ text_of (front_lines table sets texts) =
      ap₂ (λ (h t : List ℕ). h ++ t) (good.begins.head_is ∙ head_is table sets) (stream_is submissions texts good.texts_are) ∙ sym (text_both (head_lines table sets) (stream_lines texts)) in
      let bytes : round_text head submissions ≡ text_of (round_lines table sets texts) =
      ap (λ (t : List ℕ). t ++ codes "$STOP\n") front ∙ sym (text_both (front_lines table sets texts) (codes "$STOP" ∷ []))
      ∙ ap (λ (ls : List (List ℕ)). text_of ls) (stop_behind table sets texts) in
      let never = never_refused table accounts sets texts good.begins.table_is good.begins.names_differ good.begins.stored good.begins.printable handed in
      ap deck_ending bytes ∙ ap (λ (ls : List (List ℕ)). (deck_of ls).cards.ending) never.2 ∙ ap (λ deck. deck.cards.ending) never.1

  pub goes_on : GoesOn
  goes_on options table accounts sets [] are differ stored printable admitted = tt
  goes_on options table accounts sets (round ∷ rounds) are differ stored printable admitted = record {
    ends =
        good_ends (head_text (text_of table) sets) round.submissions table accounts sets round.texts
        (record { begins = record { head_is = refl; table_is = are; names_differ = differ; stored = stored; printable = printable }; texts_are = admitted.0 });
    later = λ left is back. goes_on options table accounts left rounds are differ (read_back_is_stored left back) back.printable admitted.1;
  }
