-- With the commits that are left it comes to all.
use Rattle.std.proofs.Common.{◌≡◌, drop}
use Rattle.ledger_sets.specs.{Applying.{no_site}, Seeing.{site_of}}
use Rattle.ledger_site.specs.Past.{after_texts}
use Rattle.ledger_site.proofs.past.state_behind.Given as goal

abbrev pub invariant-loop-text : goal.invariant-loop-text
invariant-loop-text l = after_texts (λ text. text.items) (drop l.text-index l.commits) (site_of l.state) ≡ after_texts (λ text. text.items) l.commits no_site
