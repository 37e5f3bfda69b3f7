use Rattle.k_types_declarations.specs.Results.{seen}
use Rattle.k_types.proofs.Parameters.{ParamsSoFar}
use Rattle.k_types.proofs.parameter.judge_params.Given as goal

abbrev pub invariant-loop-param : goal.invariant-loop-param
invariant-loop-param l = ParamsSoFar l.defines (seen l.fn.known) (seen l.known) l.param-index l.params
