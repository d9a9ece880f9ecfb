use Rattle.std.proofs.Common.{◌≡◌, refl}
use Rattle.mon_acl.specs.{declared.entries.Tag.TheVariants.{Mask}, Entries.{has_tag}}
use Rattle.mon_access.specs.{declared.finding.Found.TheVariants.{Nobody, Lacking, Holding}, inner.Kinds.{found}}
use Rattle.mon_access.proofs.Outcomes.{from_Holding, from_Lacking, from_Nobody}
use Rattle.mon_access.proofs.access.is_granted_to_groups.Goals as goal

pub returns-in-Holding : goal.returns-in-Holding
returns-in-Holding c =
    let h : Holding ≡ found (has_tag Mask) c.args.acl.now c.args.request = cc in
    let (held, some) = from_Holding (has_tag Mask) c.args.acl.now c.args.request h in
    rw (some, held) refl

pub returns-in-Lacking : goal.returns-in-Lacking
returns-in-Lacking c =
    let h : Lacking c.in-Lacking.field-0 ≡ found (has_tag Mask) c.args.acl.now c.args.request = cc in
    let (lacks, some, at) = from_Lacking (has_tag Mask) c.args.acl.now c.args.request c.in-Lacking.field-0 h in
    rw (some, lacks) refl

pub returns-in-Nobody : goal.returns-in-Nobody
returns-in-Nobody c =
    let h : Nobody ≡ found (has_tag Mask) c.args.acl.now c.args.request = cc in
    let none = from_Nobody (has_tag Mask) c.args.acl.now c.args.request h in
    rw none c.type_holds.ensures
