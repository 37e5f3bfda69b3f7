use Rattle.k_types_declarations.specs.Results.{seen}
use Rattle.k_types_statements.specs.Around.{around_of}
use Rattle.k_types_statements.proofs.Lists.{AreBefore, PartsBefore}
use Rattle.k_types_statements.proofs.statement.+statements.Given as goal

abbrev pub invariant-judge_all-loop-stmt : goal.invariant-judge_all-loop-stmt
invariant-judge_all-loop-stmt l =
    AreBefore (around_of l.around) l.stmt-items l.stmt-index l.all (seen l.fn.known) (seen l.known)

abbrev pub invariant-judge_parts-loop-part : goal.invariant-judge_parts-loop-part
invariant-judge_parts-loop-part l =
    PartsBefore (around_of l.around) l.kind l.part-items l.part-index l.all l.labels (seen l.fn.known) (seen l.known)
