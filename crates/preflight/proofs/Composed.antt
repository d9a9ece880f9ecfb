-- Texts that are admitted make a good deck.
use Rattle.std.proofs.Common.{ℕ, ◌+◌, List, [], ◌∷◌, ◌++◌, refl, ap, ◌∙◌, append_assoc}
use Rattle.std.specs.Prelude.{codes}
use Rattle.deck_syntax.specs.{Decks.{Asked, Drains}, Sections.{Closed, asked_then, stream_section}}
use Rattle.deck_syntax.proofs.{ComingBack.{good_deck}, Complete.{deck_taken}}
use Rattle.preflight.specs.{Rounds.{Handed, AreHanded, stream_lines, stream_asks, round_lines, round_deck}, Laws.{NeverRefused}}
use Rattle.preflight.proofs.{Goes.{Goes, with_asked, joined}, Written.{round_reads}, Spelled.{spelled_goes, goes_spelled}}

-- lines that go, and lines behind them that go from every number on
pub both_go : (n : ℕ) (ls ms : List (List ℕ)) (asked others : List Asked) → Goes n Closed ls asked → ((m : ℕ) → Goes m Closed ms others) → Goes n Closed (ls ++ ms) (asked ++ others)
both_go n ls ms asked others goes more_go = λ more.
    let g = goes (ms ++ more) in
    let h = more_go g.0 more in (
      h.0,
      ap (λ (xs : List (List ℕ)). stream_section n Closed xs) (append_assoc ls ms more)
          ∙ g.1 ∙ ap (with_asked asked) h.1 ∙ joined asked others (stream_section h.0 Closed more),
    )

-- a `$DRAIN` card in front
drained : (m : ℕ) (ls : List (List ℕ)) (asked : List Asked) → ((k : ℕ) → Goes k Closed ls asked) → Goes m Closed (codes "$DRAIN" ∷ ls) (Drains ∷ asked)
drained m ls asked goes = λ more. let g = goes (m + 1) more in (g.0, ap (asked_then Drains) g.1)

pub texts_go : (texts : List Handed) (n : ℕ) → AreHanded texts → Goes n Closed (stream_lines texts) (stream_asks texts)
texts_go [] n are = λ more. (n, refl)
texts_go (text ∷ texts) n (is, are) =
    both_go n text.lines (codes "$DRAIN" ∷ stream_lines texts) text.asked (Drains ∷ stream_asks texts) (spelled_goes text.asked text.lines n is.spelled)
    (λ m. drained m (stream_lines texts) (stream_asks texts) (λ k. texts_go texts k are))

pub never_refused : NeverRefused
never_refused table accounts sets texts are differ stored printable handed =
    let is = good_deck table accounts sets are differ stored printable (stream_lines texts) (stream_asks texts) (goes_spelled (stream_lines texts) 1 (stream_asks texts) (texts_go texts 1 handed)) in
    (is, deck_taken (round_lines table sets texts) (round_deck accounts sets texts) is, round_reads table accounts sets texts are stored printable handed)
