use Rattle.k_code.specs.Decides.{HasRoom}
use Rattle.k_code.proofs.Decided.{EachBefore}
use Rattle.k_code.proofs.validity.all_extents_fit.Given as goal

abbrev pub invariant-loop-func : goal.invariant-loop-func
invariant-loop-func l = EachBefore (λ n f. HasRoom l.code f) l.funcs l.func-index
