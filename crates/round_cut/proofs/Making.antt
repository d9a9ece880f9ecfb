-- How many data sets a round's texts may make, as their tallies tell.
use Rattle.std.proofs.Common.{◌≡◌, ℕ, suc, ◌+◌, ◌≤◌, Bool, true, false, cond, List, [], ◌∷◌, ◌++◌, length, refl, sym, ap, ap₂, ◌∙◌, arith}
use Rattle.std.{specs.List.{count_by, sum_by}, proofs.lemmas.List.Sums.{sum_by-cons, sum_by-append}}
use Rattle.deck_lines.specs.declared.command.Command.{Command, TheVariants.{Create, Delete, SetAcl, ShowAcl, List as Listing, Catalog}}
use Rattle.deck_syntax.specs.Decks.{Asked, Commands, Enters, Gives, Drains}
use Rattle.deck_driver.specs.RunStates.{events_of}
use Rattle.deck_run.specs.Laws.{jobs_in}
use Rattle.preflight.specs.{declared.submission.Submission.{Submission}, declared.tally.Tally.{Tally}, Rounds.{Handed}, Submissions.{IsAdmitted}}
use Rattle.preflight.specs.Tallies.{creates, tally_of}
use Rattle.parts_laws.specs.Runs.{made_by}
use Rattle.parts.specs.{Told.{Told}, Splits.{goes}}
use Rattle.frame_laws.specs.Naming.{command_makes, makes}
use Rattle.frame_audit.specs.Laws.{TextsRunInParts}
use Rattle.rounds.specs.InParts.{numbered}
use Rattle.round_parts.proofs.Whole.{differ}
use Rattle.round_cut.specs.Cuts.{creations, AreKept, SpeaksOfItsOwn, IsLawful}

abbrev one_made : Asked → ℕ
one_made one = cond (creates one) 1 0

of_command : (command : Command) → command_makes command ≡ one_made (Commands command)
of_command (Create by name mode) = refl
of_command (Delete by name) = refl
of_command (SetAcl by name text) = refl
of_command (ShowAcl by name) = refl
of_command (Listing by name) = refl
of_command (Catalog by) = refl

pub made_in : (k : ℕ) (asked : List Asked) → makes (events_of k asked) ≡ count_by creates asked
made_in k [] = refl
made_in k (Commands command ∷ asked) = ap₂ (λ (a b : ℕ). a + b) (of_command command) (made_in k asked) ∙ sym (sum_by-cons one_made (Commands command) asked)
made_in k (Enters job ∷ asked) = ap (λ (n : ℕ). 0 + n) (made_in (suc k) asked) ∙ sym (sum_by-cons one_made (Enters job) asked)
made_in k (Gives turn ∷ asked) = ap (λ (n : ℕ). 0 + n) (made_in k asked) ∙ sym (sum_by-cons one_made (Gives turn) asked)
made_in k (Drains ∷ asked) = ap (λ (n : ℕ). 0 + n) (made_in k asked) ∙ sym (sum_by-cons one_made Drains asked)

pub fenced : (asked : List Asked) → count_by creates (asked ++ Drains ∷ []) ≡ count_by creates asked
fenced asked =
    let both = sum_by-append one_made asked (Drains ∷ []) in
    let none : count_by creates (Drains ∷ []) ≡ 0 = sum_by-cons one_made Drains [] in
    omega (arith, both, none)

all_made : (n jobs : ℕ) (submissions : List Submission) (handed : List Handed) → AreKept submissions handed → made_by makes (numbered n jobs handed) ≡ creations submissions
all_made n jobs [] [] kept = refl
all_made n jobs [] (text ∷ handed) kept = absurd kept
all_made n jobs (one ∷ submissions) [] kept = absurd kept
all_made n jobs (one ∷ submissions) (text ∷ handed) (admitted, kept) =
    ap₂ (λ (a b : ℕ). a + b) (made_in (suc jobs) (text.asked ++ Drains ∷ []) ∙ fenced text.asked ∙ sym (ap (λ (t : Tally). t.creates) admitted.tally_is))
    (all_made (suc n) (jobs + jobs_in text.asked) submissions handed kept)
    ∙ sym (sum_by-cons (λ (s : Submission). s.tally.creates) one submissions)

pub is_lawful : TextsRunInParts → (told : Told) (submissions : List Submission) (n : ℕ) → SpeaksOfItsOwn told submissions → n + creations submissions ≤ 1000 → IsLawful told submissions n
is_lawful texts_run_in_parts told submissions n own room slots accounts handed sets kept many apart marks =
    let made = all_made 0 0 submissions handed kept in
    texts_run_in_parts slots accounts (goes told) (numbered 0 0 handed) sets (own handed kept) (record { apart = apart; room = omega (arith, made, many, room) })
    (differ 0 0 handed) marks
