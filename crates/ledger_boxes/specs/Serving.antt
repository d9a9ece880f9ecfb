-- Which boxes are served (own): a folder of the operator, where nobody but its user can write, and out of which names can be taken. It may
-- be its user's where the operator is root: anyone else can be kept out of a folder by its owner, and waited for in vain.
use Rattle.std.specs.Prelude.{◌≡◌, ℕ, Bool, not, ◌&&◌, ◌||◌, ◌==◌, Option, Some, None, if◌then◌else◌}
use Rattle.ledger_boxes.specs.declared.look.BoxLook.{BoxLook}
use Rattle.ledger_boxes.specs.declared.look.BoxFault.{BoxFault}
use Rattle.ledger_boxes.specs.declared.look.BoxFault.TheVariants.{Missing, NoFolder, NotOwn, Open, Sticky}
use Rattle.ledger_boxes.specs.Sights.{is_folder}

-- whose a box may be
abbrev pub may_own : ℕ → ℕ → ℕ → Bool
may_own operator uid owner = (owner == operator) || ((operator == 0) && (owner == uid))

-- why the box of this user is passed over, where this is the operator
abbrev pub fault_in : ℕ → ℕ → BoxLook → Option BoxFault
fault_in operator uid look =
    if not (is_folder look.kind) then Some NoFolder
    else if not (may_own operator uid look.owner) then Some NotOwn
    else if look.is_open then Some Open
    else if look.is_sticky then Some Sticky
    else None

abbrev pub box_fault : ℕ → ℕ → Option BoxLook → Option BoxFault
box_fault operator uid None = Some Missing
box_fault operator uid (Some look) = fault_in operator uid look
