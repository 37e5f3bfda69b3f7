use Rattle.k_code.specs.Decides.{HasRoom}
use Rattle.k_code.proofs.Decided.{all_have, entry_of, none_before, one_has_not, one_more}
use Rattle.k_code.proofs.validity.all_extents_fit.Goals as goal

pub loop-func-init : goal.loop-func-init
loop-func-init c = none_before (λ n f. HasRoom c.args.code.now f) c.args.funcs.now

pub returns-then-not-extent_fits : goal.returns-then-not-extent_fits
returns-then-not-extent_fits c =
    one_has_not (λ n f. HasRoom c.args.code.now f) c.args.funcs.now c.loop-func.func-index _ c.extent_fits.result c.extent_fits.ensures c.loop-func-test.true c.if-not-extent_fits.true

pub loop-func-preserved : goal.loop-func-preserved
loop-func-preserved c =
    one_more (λ n f. HasRoom c.args.code.now f) c.args.funcs.now c.loop-func.func-index _ (c.extent_fits.ensures.0 c.if-not-extent_fits.false) c.loop-func-test.true c.loop-func.invariant

pub returns : goal.returns
returns c = all_have (λ n f. HasRoom c.args.code.now f) c.args.funcs.now c.loop-func.func-index c.loop-func-test.false c.loop-func.invariant

pub extent_fits-requires-clause-begins : goal.extent_fits-requires-clause-begins
extent_fits-requires-clause-begins c = entry_of c.args.code.now c.args.funcs.now c.loop-func.func-index _ c.requires.funcs c.loop-func-test.true
