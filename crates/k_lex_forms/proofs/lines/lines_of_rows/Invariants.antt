use Rattle.std.proofs.Common.{◌≡◌, ◌++◌, drop}
use Rattle.k_lex_forms.specs.Sources.{lines_of}
use Rattle.k_lex_forms.proofs.lines.lines_of_rows.Given as goal

abbrev pub invariant-loop-row : goal.invariant-loop-row
invariant-loop-row l = l.lines ++ lines_of (drop l.row-index l.rows) ≡ lines_of l.rows
