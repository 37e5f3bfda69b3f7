use Rattle.std.proofs.Common.{◌≡◌, slice_get, Some}
use Rattle.k_evaluation.specs.JumpLaws.{spot_of}
use Rattle.k_lower_code.specs.Statements.{lowered}
use Rattle.k_lower_extents.specs.Extents.{extent_of}
use Rattle.k_lower_extents.proofs.NestedExtents.{own_entry}
use Rattle.k_lower_extents.proofs.table.extent_at.Goals as goal

pub returns-in-Some-Some : goal.returns-in-Some-Some
returns-in-Some-Some c = λ w has.
    (let own : slice_get c.args.table.now (spot_of c.args.stmt.now).number ≡ Some (Some (extent_of (lowered w c.args.stmt.now))) =
    own_entry w c.args.table.now c.args.stmt.now has in
    cc (own, c.spot_of.ensures, c.entry_at.ensures, c.in-Some-Some.is, c.in-Some-Some.field-0-is))
