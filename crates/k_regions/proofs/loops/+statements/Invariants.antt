use Rattle.std.proofs.Common.{◌≡◌, ◌++◌, map, drop}
use Rattle.k_regions.specs.Regions.{find, find_part, loops_of_all}
use Rattle.k_regions.proofs.loops.+statements.Given as goal

abbrev pub invariant-find_stmts-loop-stmt : goal.invariant-find_stmts-loop-stmt
invariant-find_stmts-loop-stmt l =
    l.loops ++ loops_of_all (map find (drop l.stmt-index l.stmt-items)) ≡ l.fn.loops ++ loops_of_all (map find l.stmts)

abbrev pub invariant-find_parts-loop-part : goal.invariant-find_parts-loop-part
invariant-find_parts-loop-part l =
    l.loops ++ loops_of_all (map find_part (drop l.part-index l.part-items)) ≡ l.fn.loops ++ loops_of_all (map find_part l.parts)
