use Rattle.std.proofs.Common.{◌≡◌, ◌≢◌, ℕ, List, [], ◌++◌, refl, ap, sym}
use Rattle.std.specs.Prelude.{codes}
use Rattle.load_refusal.specs.declared.load_error.LoadError.{LoadError, TheVariants.{NoSlot, NoAccount, Cards, Syntax}}
use Rattle.audit.specs.Words.{job_line}
use Rattle.job_end.specs.Printouts.{refusal_words, refusal_text}
use Rattle.mon_device.proofs.Putting.{puts_nothing, puts_same, puts_then, puts_three}
use Rattle.job_end.proofs.refusal.print_refusal.Goals as goal

refused : (n : ℕ) (account : List ℕ) (error : LoadError) → error ≢ NoSlot → job_line n account [] ++ (codes "REFUSED " ++ refusal_words error ++ codes "\n") ≡ refusal_text n account error
refused n account NoSlot not = absurd (not refl)
refused n account NoAccount not = refl
refused n account (Cards error) not = refl
refused n account (Syntax error) not = refl

pub returns-in-NoSlot : goal.returns-in-NoSlot
returns-in-NoSlot g c = puts_same _ _ _ _ (ap (refusal_text c.args.number c.args.account.now) (sym c.in-NoSlot.is)) (puts_nothing _)

pub returns : goal.returns
returns g c =
    puts_same _ _ _ _ (refused c.args.number c.args.account.now c.args.error c.in_default.not-NoSlot)
    (puts_then _ _ _ _ _ c.print_job_line.ensures (puts_three _ _ _ _ _ _ _ c.put.ensures c.print_refusal_words.ensures c.put-2.ensures))
