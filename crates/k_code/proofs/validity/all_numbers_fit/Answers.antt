use Rattle.k_code.specs.Decides.{HasNumbers}
use Rattle.k_code.proofs.Decided.{all_have, none_before, one_has_not, one_more}
use Rattle.k_code.proofs.validity.all_numbers_fit.Goals as goal

pub loop-func-init : goal.loop-func-init
loop-func-init c = none_before (λ n f. HasNumbers c.args.code.now f) c.args.funcs.now

pub returns-then-not-numbers_fit : goal.returns-then-not-numbers_fit
returns-then-not-numbers_fit c =
    one_has_not (λ n f. HasNumbers c.args.code.now f) c.args.funcs.now c.loop-func.func-index _ c.numbers_fit.result c.numbers_fit.ensures c.loop-func-test.true c.if-not-numbers_fit.true

pub loop-func-preserved : goal.loop-func-preserved
loop-func-preserved c =
    one_more (λ n f. HasNumbers c.args.code.now f) c.args.funcs.now c.loop-func.func-index _ (c.numbers_fit.ensures.0 c.if-not-numbers_fit.false) c.loop-func-test.true c.loop-func.invariant

pub returns : goal.returns
returns c = all_have (λ n f. HasNumbers c.args.code.now f) c.args.funcs.now c.loop-func.func-index c.loop-func-test.false c.loop-func.invariant
