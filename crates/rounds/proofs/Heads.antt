-- The lines of a round's deck, up to some text.
use Rattle.std.proofs.Common.{◌≡◌, ℕ, ◌+◌, List, [], ◌∷◌, ◌++◌, refl, sym, ap, ◌∙◌, append_assoc, append-nil}
use Rattle.std.{specs.Prelude.{codes}, specs.Str.Lines.{lines}, proofs.lemmas.List.Concat.{flat_map-append}}
use Rattle.mon_access.specs.{declared.account.Account.{Account}, Accounts.{HaveDifferentNames}}
use Rattle.mon_catalogue.specs.{declared.version.Version.TheVariants.{Two}, Sets.{Sets}, Stored.{IsStored, ArePrintable}, Text.{text_of, catalogue_lines}}
use Rattle.mon_catalogue.proofs.{Back.{lines_spell}, Printable.{catalogue_lines_show}, Shorthand.{after_lines}, Whole.{text_read}}
use Rattle.mon_catalogue.specs.Progress as progress
use Rattle.deck_lines.specs.declared.deck_error.DeckError.TheVariants.{Truncated}
use Rattle.deck_syntax.specs.{Decks.{Deck, Cards, Asked, Refused}, Sections.{Closed, stream_section, deck_of}, Spelling.{SpellsAccounts}}
use Rattle.deck_syntax.proofs.{Complete.{table_taken, text_taken, due}, ComingBack.{lines_fit}}
use Rattle.preflight.specs.Rounds.{Handed, AreHanded, stream_lines, stream_asks, round_lines}
use Rattle.preflight.proofs.{Composed.{texts_go}, Written.{lines_of_writable, both_writable, all_weaker, table_writable, texts_all}}
use Rattle.rounds.specs.Compositions.{head_text}

-- up to the card behind which the texts stand
abbrev pub head_lines : List (List ℕ) → Sets → List (List ℕ)
head_lines table sets = codes "$ACCOUNTS" ∷ table ++ (codes "$CATALOGUE 2" ∷ catalogue_lines sets ++ codes "$STREAM" ∷ [])

abbrev pub front_lines : List (List ℕ) → Sets → List Handed → List (List ℕ)
front_lines table sets texts = head_lines table sets ++ stream_lines texts

pub text_both : (ls ms : List (List ℕ)) → text_of (ls ++ ms) ≡ text_of ls ++ text_of ms
text_both ls ms = flat_map-append (λ line. line ++ 10 ∷ []) ls ms

pub head_is : (table : List (List ℕ)) (sets : Sets) → head_text (text_of table) sets ≡ text_of (head_lines table sets)
head_is table sets =
    let rest = codes "$CATALOGUE 2" ∷ catalogue_lines sets ++ codes "$STREAM" ∷ [] in
    let of_rest : text_of rest ≡ text_of (codes "$CATALOGUE 2" ∷ catalogue_lines sets) ++ codes "$STREAM\n" = text_both (codes "$CATALOGUE 2" ∷ catalogue_lines sets) (codes "$STREAM" ∷ []) in
    sym (
    text_both (codes "$ACCOUNTS" ∷ table) rest
    ∙ ap (λ (t : List ℕ). text_of (codes "$ACCOUNTS" ∷ table) ++ t) of_rest
    ∙ append_assoc (codes "$ACCOUNTS\n") (text_of table) (text_of (codes "$CATALOGUE 2" ∷ catalogue_lines sets) ++ codes "$STREAM\n")
    )

-- with `$STOP` behind it, it is the whole deck
pub stop_behind : (table : List (List ℕ)) (sets : Sets) (texts : List Handed) → front_lines table sets texts ++ codes "$STOP" ∷ [] ≡ round_lines table sets texts
stop_behind table sets texts =
    let a = codes "$ACCOUNTS" ∷ table in
    let b = codes "$CATALOGUE 2" ∷ catalogue_lines sets in
    let c : List (List ℕ) = codes "$STREAM" ∷ [] in
    let s = stream_lines texts in
    let e : List (List ℕ) = codes "$STOP" ∷ [] in
    append_assoc (a ++ (b ++ c)) s e
    ∙ append_assoc a (b ++ c) (s ++ e)
    ∙ ap (λ (t : List (List ℕ)). a ++ t) (append_assoc b c (s ++ e))

-- another text behind it
streams_both : (texts : List Handed) (text : Handed) → stream_lines (texts ++ text ∷ []) ≡ stream_lines texts ++ (text.lines ++ codes "$DRAIN" ∷ [])
streams_both [] text = refl
streams_both (one ∷ texts) text =
    ap (λ (ls : List (List ℕ)). one.lines ++ (codes "$DRAIN" ∷ ls)) (streams_both texts text)
    ∙ sym (append_assoc one.lines (codes "$DRAIN" ∷ stream_lines texts) (text.lines ++ codes "$DRAIN" ∷ []))

pub text_behind : (table : List (List ℕ)) (sets : Sets) (texts : List Handed) (text : Handed)
    → text_of (front_lines table sets (texts ++ text ∷ [])) ≡ text_of (front_lines table sets texts) ++ (text_of text.lines ++ codes "$DRAIN\n")
text_behind table sets texts text =
    let more = text.lines ++ codes "$DRAIN" ∷ [] in
    let front = front_lines table sets texts in
    let lines_are : front_lines table sets (texts ++ text ∷ []) ≡ front ++ more =
    ap (λ (ls : List (List ℕ)). head_lines table sets ++ ls) (streams_both texts text) ∙ sym (append_assoc (head_lines table sets) (stream_lines texts) more) in
    ap (λ (ls : List (List ℕ)). text_of ls) lines_are ∙ text_both front more
    ∙ ap (λ (t : List ℕ). text_of front ++ t) (text_both text.lines (codes "$DRAIN" ∷ []))

module _ (table : List (List ℕ)) (accounts : List Account) (sets : Sets) (are : SpellsAccounts table accounts) (differ : HaveDifferentNames accounts)
    (stored : IsStored sets) (printable : ArePrintable sets) where
  abbrev pub over_cards : Cards → Deck
  over_cards cards = record { accounts = accounts; catalogue = sets; cards = cards }

  -- whatever follows is a stream over these accounts and data sets
  head_goes : (more : List (List ℕ)) → (n : ℕ) × (deck_of (head_lines table sets ++ more) ≡ over_cards (stream_section n Closed more))
  head_goes more =
      let stream = codes "$STREAM" ∷ more in
      let text = codes "$CATALOGUE 2" ∷ (catalogue_lines sets ++ stream) in
      let b = codes "$CATALOGUE 2" ∷ catalogue_lines sets in
      let lines_are : head_lines table sets ++ more ≡ codes "$ACCOUNTS" ∷ (table ++ text) =
      append_assoc (codes "$ACCOUNTS" ∷ table) (b ++ codes "$STREAM" ∷ []) more
      ∙ ap (λ (ls : List (List ℕ)). (codes "$ACCOUNTS" ∷ table) ++ ls) (append_assoc b (codes "$STREAM" ∷ []) more) in
      let first = table_taken accounts [] table text 2 are differ in
      let whole = due (after_lines (progress.SetDue Two 0 []) (catalogue_lines sets)) sets (text_read Two (catalogue_lines sets) sets (lines_spell sets stored)) in
      let read =
      text_taken (catalogue_lines sets) stream (first.0 + 1) accounts (progress.SetDue Two 0 []) whole.0 whole.1 sets
      (lines_fit sets stored.1 (catalogue_lines_show sets stored.1 printable)) whole.2 in
      (read.0 + 1, ap deck_of lines_are ∙ first.1 ∙ read.1)

  -- a deck that is cut behind a fence asks for what its texts ask for, and ends too early
  pub cut_deck : (texts : List Handed) → AreHanded texts
      → (n : ℕ) × (deck_of (front_lines table sets texts) ≡ over_cards (record { asked = stream_asks texts; ending = Refused n Truncated }))
  cut_deck texts handed =
      let head = head_goes (stream_lines texts) in
      let stream = texts_go texts head.0 handed [] in (
        stream.0,
        head.1
            ∙ ap (λ (ls : List (List ℕ)). over_cards (stream_section head.0 Closed ls)) (sym (append-nil (stream_lines texts)))
            ∙ ap over_cards stream.1
            ∙ ap (λ (asked : List Asked). over_cards (record { asked = asked; ending = Refused stream.0 Truncated })) (append-nil (stream_asks texts)),
      )

  -- its bytes are read as these lines
  pub front_reads : (texts : List Handed) → AreHanded texts → lines (text_of (front_lines table sets texts)) ≡ front_lines table sets texts
  front_reads texts handed =
      lines_of_writable (front_lines table sets texts)
      (both_writable (head_lines table sets) (stream_lines texts) (
        refl,
        both_writable table (codes "$CATALOGUE 2" ∷ catalogue_lines sets ++ codes "$STREAM" ∷ []) (table_writable accounts table are) (
          refl,
          both_writable (catalogue_lines sets) (codes "$STREAM" ∷ []) (all_weaker (catalogue_lines sets) (catalogue_lines_show sets stored.1 printable)) (refl, tt),
        ),
      ) (texts_all texts handed))
