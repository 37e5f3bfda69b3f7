use Rattle.std.proofs.Common.{map}
use Rattle.k_lower_code.specs.Switches.{statements_of}
use Rattle.k_lower_extents.specs.Extents.{lowered_part}
use Rattle.k_lower_bodies.proofs.Rows.{first_rest}
use Rattle.k_lower_bodies.proofs.parts.parts_extent.Goals as goal

pub returns : goal.returns
returns c = λ w place has.
    first_rest w.program place (statements_of (map (lowered_part w) c.args.parts.now)) c.in-Some.all c.in_ok-rests.rests _ c.in-Some.ensures (c.in_ok-rests.ensures w place has)
