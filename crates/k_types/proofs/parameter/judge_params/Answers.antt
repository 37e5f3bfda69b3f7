use Rattle.k_types_declarations.specs.Results.{seen}
use Rattle.k_types.proofs.Parameters.{params_more}
use Rattle.k_types.proofs.parameter.judge_params.Goals as goal

pub loop-param-preserved : goal.loop-param-preserved
loop-param-preserved c =
    params_more c.args.defines (seen c.args.known.now) (seen c.loop-param.known) (seen c.judge_param.new.known) c.loop-param.param-index c.args.params.now c.param-item.result
    c.loop-param.invariant c.loop-param-test.true c.param-item.is c.in_ok-judge_param.ensures
