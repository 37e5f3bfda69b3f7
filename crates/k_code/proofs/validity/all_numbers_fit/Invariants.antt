use Rattle.k_code.specs.Decides.{HasNumbers}
use Rattle.k_code.proofs.Decided.{EachBefore}
use Rattle.k_code.proofs.validity.all_numbers_fit.Given as goal

abbrev pub invariant-loop-func : goal.invariant-loop-func
invariant-loop-func l = EachBefore (λ n f. HasNumbers l.code f) l.funcs l.func-index
