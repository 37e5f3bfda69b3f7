use Rattle.std.proofs.Common.{◌≡◌, ◌++◌, map, drop}
use Rattle.k_pragma_texts.specs.Texts.{held, loops_in_parts, loops_in_row, occurs_in_parts, occurs_in_row, part_held, setters_in_block, setters_in_parts}
use Rattle.k_pragma_texts.proofs.statements.+statements.Given as goal

abbrev pub invariant-note_block-loop-part : goal.invariant-note_block-loop-part
invariant-note_block-loop-part l = record {
  occurs :
      l.text.occurs.items ++ occurs_in_row (map held (drop l.part-index l.part-items))
      ≡ l.fn.text.occurs.items ++ occurs_in_row (map held l.parts);
  setters :
      l.text.setters.items ++ setters_in_block l.last (map held (drop l.part-index l.part-items))
      ≡ l.fn.text.setters.items ++ setters_in_block l.last (map held l.parts);
  loops :
      l.text.loops.items ++ loops_in_row (map held (drop l.part-index l.part-items))
      ≡ l.fn.text.loops.items ++ loops_in_row (map held l.parts);
}

abbrev pub invariant-note_parts-loop-part : goal.invariant-note_parts-loop-part
invariant-note_parts-loop-part l = record {
  occurs :
      l.text.occurs.items ++ occurs_in_parts (map part_held (drop l.part-index l.part-items))
      ≡ l.fn.text.occurs.items ++ occurs_in_parts (map part_held l.parts);
  setters :
      l.text.setters.items ++ setters_in_parts (map part_held (drop l.part-index l.part-items))
      ≡ l.fn.text.setters.items ++ setters_in_parts (map part_held l.parts);
  loops :
      l.text.loops.items ++ loops_in_parts (map part_held (drop l.part-index l.part-items))
      ≡ l.fn.text.loops.items ++ loops_in_parts (map part_held l.parts);
}
