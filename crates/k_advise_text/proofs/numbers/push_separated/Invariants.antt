use Rattle.std.proofs.Common.{◌≡◌, ◌++◌, length}
use Rattle.k_advise_text.specs.Numbers.{separated}
use Rattle.k_advise_text.proofs.numbers.push_separated.Given as goal

abbrev pub invariant-loop-digit : goal.invariant-loop-digit
invariant-loop-digit l = l.text.items ++ separated l.rest ≡ l.fn.text.items ++ separated l.digits

abbrev pub decreases-loop-digit : goal.decreases-loop-digit
decreases-loop-digit l = length l.rest
