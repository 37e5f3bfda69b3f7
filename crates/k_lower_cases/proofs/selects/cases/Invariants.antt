use Rattle.std.proofs.Common.{drop, map}
use Rattle.k_lower_code.specs.Stretches.{Inside}
use Rattle.k_lower_expressions.specs.Arounds.{program_of}
use Rattle.k_lower_extents.specs.Extents.{ArePartsExtents, lowered_part}
use Rattle.k_lower_cases.specs.Cases.{cases}
use Rattle.k_lower_statements.proofs.Left.{IsLeft}
use Rattle.k_lower_cases.proofs.selects.cases.Given as goal

abbrev pub invariant-loop-each : goal.invariant-loop-each
invariant-loop-each l =
    (w : Inside) → ArePartsExtents l.table w l.parts
    → IsLeft {A = Unit {0}} (cases (program_of l.around) l.kind l.r l.on (map (lowered_part w) (drop l.each-index l.each-items)) l.at)
    (cases (program_of l.around) l.kind l.r l.on (map (lowered_part w) l.parts) l.statements) l.fn.out.items l.out.items
