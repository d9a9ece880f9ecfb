-- What a refusal or a want of memory is not.
use Rattle.std.proofs.Common.{◌≡◌}
use Rattle.mon_text.specs.declared.stop.Stop.{Stop}
use Rattle.mon_text.specs.declared.stop.Stop.TheVariants as stop
use Rattle.access_report.specs.{declared.front.Refusal.{Refusal}, declared.fault.Fault.TheVariants.{DeckRefused, NoAccount, NoSet, Memory}, Reports.{fault_of}}

pub no_account_of : (s : Stop Refusal) → fault_of s ≡ NoAccount → ⊥
no_account_of (stop.Refused refusal) h = let differ : DeckRefused refusal.line refusal.code ≡ NoAccount = h in cc
no_account_of stop.Memory h = let differ : Memory ≡ NoAccount = h in cc

pub no_set_of : (s : Stop Refusal) → fault_of s ≡ NoSet → ⊥
no_set_of (stop.Refused refusal) h = let differ : DeckRefused refusal.line refusal.code ≡ NoSet = h in cc
no_set_of stop.Memory h = let differ : Memory ≡ NoSet = h in cc
