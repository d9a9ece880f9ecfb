-- The text of one set more, until none is left.
use Rattle.std.proofs.Common.{◌≡◌, rules, ap, sym, [], ◌∷◌}
use Rattle.mon_device.proofs.Putting.{puts_nothing, puts_same}
use Rattle.mon_catalogue.{specs.Sets.{Sets}, specs.Text.{catalogue_text}, proofs.Putting.{sets_put}}
use Rattle.mon_catalogue.proofs.catalogue.Catalogue.print.Goals as goal

pub loop-name-init : goal.loop-name-init
loop-name-init g c =
    let all : ◌≡◌ {A = Sets} c.into_iter-name-iterator.result c.args.self.now = search rules in
    λ end puts. puts_same _ end _ _ (ap catalogue_text all) puts

pub loop-name-preserved : goal.loop-name-preserved
loop-name-preserved g c =
    let one : ◌≡◌ {A = Sets} c.loop-name.name-iterator ((c.in-Some.name.now, c.in-Some.set.now) ∷ c.next.new.self) = search rules in
    λ end others. c.loop-name.invariant end (puts_same _ end _ _ (ap catalogue_text (sym one)) (sets_put _ _ end _ _ c.print_set.ensures others))

pub returns : goal.returns
returns g c =
    let none : ◌≡◌ {A = Sets} c.loop-name.name-iterator [] = search rules in
    c.loop-name.invariant _ (puts_same _ _ _ _ (ap catalogue_text (sym none)) (puts_nothing _))
