-- The end of a deck that was refused before, or for which memory ran out.
use Rattle.std.proofs.Common.{◌≡◌, ℕ, List, [], ◌++◌, Option, Some, Result, Ok, Err, refl, ap, ◌∙◌, append-nil}
use Rattle.mon_device.{specs.Putting.{Standing, Puts}, proofs.Putting.{puts_nothing}}
use Rattle.scheduler.specs.Marks.{Marks}
use Rattle.deck_lines.specs.declared.deck_error.DeckError.{DeckError}
use Rattle.deck_driver.specs.declared.{fault.RunError.{RunError}, fault.RunError.TheVariants.{DeckRefused, Memory}, feed.DeckFeed.{DeckFeed}}
use Rattle.deck_driver.specs.{declared.section.DeckState.{DeckState}, Feeds.{Bad, Begins, error_at}, Abstraction.{told, audit_told}}
use Rattle.deck_driver.proofs.{Telling.{error_of}, Pieces.{refused_told, refused_silent}}
use Rattle.deck_driver.specs.declared.section.DeckState.TheVariants as state

abbrev pub Began : DeckFeed → List ℕ → Standing → Type 0
Began f out a =
    (marks : Marks) × ((rest : Marks) → Begins out (told (marks ++ rest) out f []).written)
    × (audited : List ℕ) × ((rest : Marks) → Begins audited (audit_told (marks ++ rest) f [])) × Puts a a audited

pub began : (f : DeckFeed) (out : List ℕ) (a : Standing) → Began f out a
began f out a = (
  [],
  λ rest. ((told rest [] f []).written, refl),
  [],
  λ rest. (audit_told rest f [], refl),
  puts_nothing a,
)

abbrev pub CameOut : DeckFeed → List ℕ → Standing → ℕ → DeckError → Type 0
CameOut f out a n code =
    (marks : Marks) × ((rest : Marks) → told (marks ++ rest) out f [] ≡ record { written = out; conclusion = Bad n code })
    × (audited : List ℕ) × ((rest : Marks) → audit_told (marks ++ rest) f [] ≡ audited) × Puts a a audited

came_out : (f : DeckFeed) (out : List ℕ) (a : Standing) (n : ℕ) (code : DeckError) → f.state ≡ state.Refused n code → CameOut f out a n code
came_out f out a n code is = (
  [],
  λ rest. refused_told rest out f n code [] is,
  [],
  λ rest. refused_silent rest f n code [] is,
  puts_nothing a,
)

pub was_refused : (f : DeckFeed) (out : List ℕ) (a : Standing) (error : RunError) → error_at f.state ≡ Some error → (n : ℕ) (code : DeckError) → error ≡ DeckRefused n code → CameOut f out a n code
was_refused f out a error e n code same = by f.state refl (e ∙ ap Some same)
  where
    by : (s : DeckState) → f.state ≡ s → error_at s ≡ Some (DeckRefused n code) → CameOut f out a n code
    by (state.Reading t) is e = absurd cc
    by (state.Stopped sets) is e = absurd cc
    by (state.Refused k c) is e =
        let here : f.state ≡ state.Refused n code = cc in
        came_out f out a n code here
    by state.NoMemory is e = absurd cc

pub error_so : {T : Type 0} (error : RunError) (n : ℕ) (code : DeckError) → ◌≡◌ {A = Result T RunError} (Err error) (Err (DeckRefused n code)) → error ≡ DeckRefused n code
error_so error n code same = ap (λ r. error_of r error) same
