-- A name that is not there goes last.
use Rattle.std.proofs.Common.{◌≡◌, nat_eq, [], ◌∷◌, ◌++◌, None, ap, sym, subst, ◌∙◌}
use Rattle.std.specs.Cmp.Lexicographic.{pointwise}
use Rattle.indexmap.proofs.CallerLemmas.{insert_entry-new}
use Rattle.mon_catalogue.specs.Sets.{Sets, find_set}
use Rattle.mon_catalogue.proofs.catalogue.Catalogue.add.Goals as goal

pub returns-clause-added : goal.returns-clause-added
returns-clause-added c =
    let absent = subst (λ (sets : Sets). find_set c.args.name sets ≡ None) (sym c.self.view_is) c.requires.absent in
    c.in_ok-insert.ensures.entries
    ∙ insert_entry-new (pointwise nat_eq) c.self.inside.sets c.args.name c.args.set absent
    ∙ ap (λ (sets : Sets). sets ++ (c.args.name, c.args.set) ∷ []) c.self.view_is
