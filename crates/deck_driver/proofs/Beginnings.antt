-- What was appended is a beginning of what is printed.
use Rattle.std.proofs.Common.{◌≡◌, ℕ, List, [], ◌++◌, refl, sym, ap, ◌∙◌, append_assoc, append-nil}
use Rattle.scheduler.specs.Marks.{Marks}
use Rattle.deck_lines.specs.declared.deck_error.DeckError.TheVariants.{Truncated}
use Rattle.deck_driver.specs.declared.{options.Counts.{Counts}, options.Options.{Options}, section.DeckState.{DeckState}}
use Rattle.deck_driver.{specs.Feeds.{outcome, outcome_of, behind, Outcome, Begins}, proofs.Following.{ends_here, outcome_refused}}
use Rattle.deck_driver.specs.declared.section.DeckState.TheVariants as state

pub same_begins : (t s : List ℕ) → s ≡ t → Begins t s
same_begins t s same = ([], same ∙ sym (append-nil t))

pub begins_further : (a b c : List ℕ) → Begins a b → Begins b c → Begins a c
begins_further a b c x y = (x.0 ++ y.0, y.1 ∙ ap (λ v. v ++ y.0) x.1 ∙ append_assoc a x.0 y.0)

-- no line is printed where none is left
pub nothing_printed : (options : Options) (jobs : ℕ) (m : Marks) (s : DeckState) (n : ℕ) → (outcome options jobs m s n []).written ≡ []
nothing_printed options jobs m (state.Reading section) n =
    ap (λ (o : Outcome). o.written) (ap (outcome_of options.check jobs m) (ends_here options.slots.number section n) ∙ outcome_refused options.check options.slots.number jobs m section n Truncated)
nothing_printed options jobs m (state.Stopped w) n = refl
nothing_printed options jobs m (state.Refused k code) n = refl
nothing_printed options jobs m state.NoMemory n = refl

module _ (out new : List ℕ) (j k : Counts) (before after : Outcome) (same : behind new k after ≡ behind out j before) where
  -- and where nothing is to come, it is that
  pub only_appends : after.written ≡ [] → Begins out new
  only_appends none = (before.written, sym (append-nil new) ∙ ap (λ t. new ++ t) (sym none) ∙ ap (λ (o : Outcome). o.written) same)
