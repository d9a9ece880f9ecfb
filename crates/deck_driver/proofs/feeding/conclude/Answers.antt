use Rattle.std.proofs.Common.{refl, ap, subst, [], ◌∙◌}
use Rattle.deck_driver.{specs.declared.section.DeckState.{DeckState}, specs.Feeds.{outcome, IsReadBack}, proofs.Telling.{reading_ends}}
use Rattle.deck_driver.proofs.feeding.conclude.Goals as goal

pub returns-in-Reading-clause-refused : goal.returns-in-Reading-clause-refused
returns-in-Reading-clause-refused c = λ m code same options jobs marks.
    ap (λ (s : DeckState). outcome options jobs marks s c.args.n []) c.in-Reading.is ∙ reading_ends options jobs marks c.in-Reading.field-0 c.args.n m code _ refl same

pub returns-in-Stopped-clause-ended : goal.returns-in-Stopped-clause-ended
returns-in-Stopped-clause-ended c = (
  c.in-Stopped.field-0.value,
  λ options jobs marks. ap (λ (s : DeckState). outcome options jobs marks s c.args.n []) c.in-Stopped.is,
  λ check back no. subst (λ (s : DeckState). IsReadBack check s) c.in-Stopped.is back no,
  refl,
)
