use Rattle.std.proofs.Common.{drop}
use Rattle.k_lower_code.specs.Functions.{serves}
use Rattle.k_lower_expressions.specs.Arounds.{program_of}
use Rattle.k_lower_parts.specs.Parts.{with_objects}
use Rattle.k_lower_statements.proofs.Left.{IsLeft}
use Rattle.k_lower.proofs.function.serve_all.Given as goal

abbrev pub invariant-loop-variable : goal.invariant-loop-variable
invariant-loop-variable l =
    IsLeft (with_objects l.objects (serves (program_of l.around) l.r l.f.close l.number l.left (drop l.variable-index l.around.variables.now)))
    (with_objects 0 (serves (program_of l.around) l.r l.f.close 0 l.f.params l.around.variables.now)) l.fn.out.items l.out.items
