use Rattle.std.proofs.Common.{◌+◌, ◌*◌, drop, map, max}
use Rattle.k_types_meaning.specs.declared.tree.statement.TPart.{size-TPart}
use Rattle.k_types_meaning.specs.declared.tree.statement.TStmt.{size-TStmt}
use Rattle.k_lower_code.specs.Statements.{lowered}
use Rattle.k_lower_code.specs.Stretches.{in_order}
use Rattle.k_lower_code.specs.Switches.{statements_of}
use Rattle.k_lower_expressions.specs.Arounds.{inside_of, program_of}
use Rattle.k_lower_extents.specs.Extents.{AreAllExtents, ArePartsExtents, lowered_part}
use Rattle.k_lower_statements.specs.Sites.{at_site, site_of}
use Rattle.k_lower_blocks.proofs.Blocks.{BlockLeft}
use Rattle.k_lower_bodies.proofs.statement.+statements.Given as goal

abbrev pub invariant-statements-loop-stmt : goal.invariant-statements-loop-stmt
invariant-statements-loop-stmt l =
    AreAllExtents l.table (inside_of l.around) l.list
    → BlockLeft (program_of l.around) l.place (map (lowered (inside_of l.around)) (drop l.stmt-index l.stmt-items)) l.block
    (at_site (site_of l.fn.site) (in_order (program_of l.around) l.place (map (lowered (inside_of l.around)) l.list))) l.fn.out.items l.out.items

abbrev pub invariant-part_statements-loop-part : goal.invariant-part_statements-loop-part
invariant-part_statements-loop-part l =
    ArePartsExtents l.table (inside_of l.around) l.parts
    → BlockLeft (program_of l.around) l.place (statements_of (map (lowered_part (inside_of l.around)) (drop l.part-index l.part-items))) l.block
    (at_site (site_of l.fn.site) (in_order (program_of l.around) l.place (statements_of (map (lowered_part (inside_of l.around)) l.parts)))) l.fn.out.items l.out.items

abbrev pub decreases-statement : goal.decreases-statement
decreases-statement a = 16 * size-TStmt a.stmt.now + 1

abbrev pub decreases-loop_statement : goal.decreases-loop_statement
decreases-loop_statement a = 16 * size-TStmt a.stmt.now

abbrev pub decreases-boxed : goal.decreases-boxed
decreases-boxed a = 16 * size-TStmt a.stmt.now + 2

abbrev pub decreases-next_statement : goal.decreases-next_statement
decreases-next_statement a = 16 * size-TStmt a.stmt.now + 2

abbrev pub decreases-statements : goal.decreases-statements
decreases-statements a = 16 * goal.size-statements a + 3

abbrev pub decreases-one_arm : goal.decreases-one_arm
decreases-one_arm a = 16 * size-TStmt a.then.now + 3

abbrev pub decreases-if_one : goal.decreases-if_one
decreases-if_one a = 16 * size-TStmt a.then.now + 4

abbrev pub decreases-two_arms : goal.decreases-two_arms
decreases-two_arms a = 16 * max (size-TStmt a.then.now) (size-TStmt a.other.now) + 3

abbrev pub decreases-if_two : goal.decreases-if_two
decreases-if_two a = 16 * max (size-TStmt a.then.now) (size-TStmt a.other.now) + 4

abbrev pub decreases-turn : goal.decreases-turn
decreases-turn a = 16 * size-TStmt a.body.now + 3

abbrev pub decreases-repeat : goal.decreases-repeat
decreases-repeat a = 16 * size-TStmt a.body.now + 4

abbrev pub decreases-repeat_while : goal.decreases-repeat_while
decreases-repeat_while a = 16 * size-TStmt a.body.now + 5

abbrev pub decreases-repeat_from : goal.decreases-repeat_from
decreases-repeat_from a = 16 * size-TStmt a.body.now + 5

abbrev pub decreases-next_part : goal.decreases-next_part
decreases-next_part a = 16 * size-TPart a.part.now + 2

abbrev pub decreases-part_statements : goal.decreases-part_statements
decreases-part_statements a = 16 * goal.size-part_statements a + 3

abbrev pub decreases-select : goal.decreases-select
decreases-select a = 16 * goal.size-select a + 4

abbrev pub decreases-choose : goal.decreases-choose
decreases-choose a = 16 * goal.size-choose a + 5
