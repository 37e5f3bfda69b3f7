use Rattle.k_types_meaning.specs.declared.tree.statement.TPart.{TPart}
use Rattle.k_types_meaning.specs.declared.tree.statement.TStmt.{TStmt}
use Rattle.k_types_meaning.specs.Bare.{bare_stmt}
use Rattle.k_types_meaning.specs.Numbered.{stmt_numbers}
use Rattle.k_types_numbers.specs.Renumbering.{bare_part, part_numbers}
use Rattle.k_types_numbers.proofs.CountingLaws.{SoFar}
use Rattle.k_types_numbers.proofs.statement.+statements.Given as goal

abbrev pub invariant-number_parts-loop-part : goal.invariant-number_parts-loop-part
invariant-number_parts-loop-part l =
    goal.unvisited-number_parts-loop-part l × SoFar TPart bare_part part_numbers l.initial.parts l.parts l.part-index l.initial.counts l.counts

abbrev pub invariant-number_stmts-loop-stmt : goal.invariant-number_stmts-loop-stmt
invariant-number_stmts-loop-stmt l =
    goal.unvisited-number_stmts-loop-stmt l × SoFar TStmt bare_stmt stmt_numbers l.initial.stmts l.stmts l.stmt-index l.initial.counts l.counts
