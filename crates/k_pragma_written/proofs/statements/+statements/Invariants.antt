use Rattle.std.proofs.Common.{◌≡◌, ◌++◌, map, drop}
use Rattle.k_pragma_written.specs.Names as names
use Rattle.k_pragma_written.specs.Loops as loops
use Rattle.k_pragma_written.proofs.statements.+statements.Given as goal

abbrev pub invariant-note_all-loop-part : goal.invariant-note_all-loop-part
invariant-note_all-loop-part l = record {
  names :
      l.noted.names ++ names.in_rows (map names.names_in (drop l.part-index l.part-items))
      ≡ l.fn.noted.names ++ names.in_rows (map names.names_in l.parts);
  bare :
      l.noted.bare ++ loops.in_rows (map loops.loops_in (drop l.part-index l.part-items))
      ≡ l.fn.noted.bare ++ loops.in_rows (map loops.loops_in l.parts);
}

abbrev pub invariant-note_parts-loop-part : goal.invariant-note_parts-loop-part
invariant-note_parts-loop-part l = record {
  names :
      l.noted.names ++ names.in_rows (map names.part_names_in (drop l.part-index l.part-items))
      ≡ l.fn.noted.names ++ names.in_rows (map names.part_names_in l.parts);
  bare :
      l.noted.bare ++ loops.in_rows (map loops.part_loops_in (drop l.part-index l.part-items))
      ≡ l.fn.noted.bare ++ loops.in_rows (map loops.part_loops_in l.parts);
}
