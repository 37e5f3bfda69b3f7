use Rattle.std.proofs.Common.{◌≡◌, map, drop}
use Rattle.k_pragma_texts.specs.Occurrences.{last_of_all, told}
use Rattle.k_pragma_texts.proofs.lasts.+expressions.Given as goal

abbrev pub invariant-last_of_args-loop-arg : goal.invariant-last_of_args-loop-arg
invariant-last_of_args-loop-arg l = last_of_all l.last (map told (drop l.arg-index l.arg-items)) ≡ last_of_all l.before (map told l.args)
