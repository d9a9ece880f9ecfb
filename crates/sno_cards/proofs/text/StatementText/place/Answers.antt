use Rattle.std.proofs.Common.{◌<◌, ◌≡◌, ◌∙◌, sym, ap, length, slice_get, arith}
use Rattle.sno_cards.{specs.inner.Parts.{places_of}, specs.inner.Segments.{nowhere, place_by}, proofs.Placing.{read_place, length-placed_by}}
use Rattle.sno_cards.proofs.text.StatementText.place.Goals as goal

pub returns : goal.returns
returns c =
    let segments = c.self.inside.segments.items in
    let text = c.self.inside.text.items in
    let within : c.args.index < length text = omega (arith, c.requires, ap length c.self.view_is, length-placed_by segments 0 text) in
    let found : c.place_by.result ≡ place_by nowhere segments c.args.index = c.place_by.ensures ∙ ap (λ ss. place_by nowhere ss c.args.index) c.deref.ensures.value in
    ap (λ ps. slice_get (places_of ps) c.args.index) (sym c.self.view_is) ∙ read_place segments text c.args.index c.place_by.result within found
