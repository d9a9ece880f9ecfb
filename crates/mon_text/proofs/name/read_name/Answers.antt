use Rattle.std.proofs.Common.{rules, ◌≡◌, ◌∙◌, sym, subst, refl, length, take_at}
use Rattle.mon_text.{specs.Names.{IsName}, proofs.Padding.{short, zeros_behind}}
use Rattle.mon_text.proofs.name.read_name.Goals as goal

pub invariant_of-result : goal.invariant_of-result
invariant_of-result c =
    let name : IsName c.args.text.now = search rules in
    let long : length c.copy_from_slice.new.self ≡ length c.args.text.now = search rules in (
      short c.args.text.now name,
      subst IsName (sym (take_at c.copy_from_slice.new.self _ _ long ∙ c.copy_from_slice.ensures.after)) name,
      zeros_behind (length c.args.text.now) c.copy_from_slice.new.self _ long refl,
    )
