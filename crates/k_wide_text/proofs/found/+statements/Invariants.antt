use Rattle.std.proofs.Common.{◌≡◌, ◌++◌, map, drop}
use Rattle.k_wide_meaning.specs.Contents.{seen, part_seen, row}
use Rattle.k_wide_text.specs.Found.{loop_as}
use Rattle.k_wide_text.proofs.found.+statements.Given as goal

abbrev pub invariant-find_stmts-loop-stmt : goal.invariant-find_stmts-loop-stmt
invariant-find_stmts-loop-stmt l =
    map loop_as l.loops.items ++ (row (map seen (drop l.stmt-index l.stmt-items))).loops
    ≡ map loop_as l.fn.loops.items ++ (row (map seen l.stmts)).loops

abbrev pub invariant-find_parts-loop-part : goal.invariant-find_parts-loop-part
invariant-find_parts-loop-part l =
    map loop_as l.loops.items ++ (row (map part_seen (drop l.part-index l.part-items))).loops
    ≡ map loop_as l.fn.loops.items ++ (row (map part_seen l.parts)).loops
