use Rattle.std.proofs.Common.{◌≡◌, map, drop}
use Rattle.k_pragma_texts.specs.Texts.{held, last_in_parts, last_in_row, part_held}
use Rattle.k_pragma_texts.proofs.lasts.+statements.Given as goal

abbrev pub invariant-last_of_stmts-loop-stmt : goal.invariant-last_of_stmts-loop-stmt
invariant-last_of_stmts-loop-stmt l =
    last_in_row l.last (map held (drop l.stmt-index l.stmt-items)) ≡ last_in_row l.before (map held l.stmts)

abbrev pub invariant-last_of_parts-loop-part : goal.invariant-last_of_parts-loop-part
invariant-last_of_parts-loop-part l =
    last_in_parts l.last (map part_held (drop l.part-index l.part-items)) ≡ last_in_parts l.before (map part_held l.parts)
