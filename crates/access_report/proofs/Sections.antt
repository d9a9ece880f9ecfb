-- A deck up to its stream, of one line more.
use Rattle.std.proofs.Common.{◌≡◌, ℕ, List, [], ◌∷◌, Result, Err, refl, sym, ap, ◌∙◌}
use Rattle.std.specs.Str.Lines.{lines}
use Rattle.mon_text.specs.declared.stop.Stop.{Stop}
use Rattle.mon_text.specs.declared.stop.Stop.TheVariants as stop
use Rattle.mon_access.specs.declared.account.Account.{Account}
use Rattle.deck_lines.specs.{declared.deck_error.DeckError.{DeckError}, declared.deck_error.DeckError.TheVariants.{Truncated}, inner.Stops.{IfRefused}}
use Rattle.deck_syntax.specs.{Decks.{Deck}, Sections.{refused_early}}
use Rattle.access_report.specs.{declared.front.Refusal.{Refusal}, Fronts.{refusal_at}}
use Rattle.deck_syntax.specs.{declared.front_reader.FrontReader.{FrontReader}, Reading.{deck_ahead, accounts_read}}
use Rattle.deck_syntax.specs.declared.front_reader.FrontReader.TheVariants as reader

ends_here : (at : FrontReader) (n : ℕ) → deck_ahead at n [] ≡ refused_early n Truncated (accounts_read at)
ends_here reader.Opening n = refl
ends_here (reader.Accounts accounts) n = refl
ends_here (reader.Catalogue accounts progress) n = refl

module _ (at : FrontReader) (n : ℕ) (rest : List ℕ) (deck : Deck) (so_far : deck_ahead at n (lines rest) ≡ deck) where
  -- the first line was refused, or memory ran out
  pub is_refused : (line behind : List ℕ) → lines rest ≡ line ∷ lines behind
      → (error : Stop DeckError) → IfRefused (λ code. (m : ℕ) (ls : List (List ℕ)) → deck_ahead at m (line ∷ ls) ≡ refused_early m code (accounts_read at)) error
      → IfRefused (λ code. (accounts : List Account) × (deck ≡ refused_early n code accounts)) error
  is_refused line behind cut (stop.Refused code) refused = (accounts_read at, sym so_far ∙ ap (deck_ahead at n) cut ∙ refused n (lines behind))
  is_refused line behind cut stop.Memory refused = tt

  -- there is no line
  pub is_truncated : rest ≡ [] → (accounts : List Account) × (deck ≡ refused_early n Truncated accounts)
  is_truncated none = (accounts_read at, sym so_far ∙ ap (λ v. deck_ahead at n (lines v)) none ∙ ends_here at n)

-- the refusal that an answer is
abbrev refusal_of : {T : Type 0} → Result T (Stop Refusal) → Refusal
refusal_of (Err (stop.Refused refusal)) = refusal
refusal_of _ = record { line = 0; code = Truncated }

-- the same refusal, in other words
pub told_so : {T : Type 0} (deck : Deck) (r q : Refusal) → ◌≡◌ {A = Result T (Stop Refusal)} (Err (stop.Refused r)) (Err (stop.Refused q))
    → (accounts : List Account) × (deck ≡ refused_early r.line r.code accounts) → (accounts : List Account) × (deck ≡ refused_early q.line q.code accounts)
told_so deck r q same is = (is.0, is.1 ∙ ap (λ (v : Refusal). refused_early v.line v.code is.0) (ap refusal_of same))

-- a refusal of line n is the whole call's
pub told_at : {T : Type 0} (deck : Deck) (n : ℕ) (error : Stop DeckError) → IfRefused (λ code. (accounts : List Account) × (deck ≡ refused_early n code accounts)) error
    → (answer : Stop Refusal) → answer ≡ refusal_at n error → (k : ℕ) (code : DeckError)
    → ◌≡◌ {A = Result T (Stop Refusal)} (Err answer) (Err (stop.Refused (record { line = k; code = code })))
    → (accounts : List Account) × (deck ≡ refused_early k code accounts)
told_at {T} deck n (stop.Refused c) is answer answer_is k code same =
    told_so {T = T} deck (record { line = n; code = c }) (record { line = k; code = code }) (ap (λ (e : Stop Refusal). Err e) (sym answer_is) ∙ same) is
told_at {T} deck n stop.Memory is answer answer_is k code same =
    let both : ◌≡◌ {A = Result T (Stop Refusal)} (Err stop.Memory) (Err (stop.Refused (record { line = k; code = code }))) = ap (λ (e : Stop Refusal). Err e) (sym answer_is) ∙ same in
    cc
