use Rattle.std.proofs.Common.{◌≡◌, ℕ, Bool, drop, nat_eq}
use Rattle.std.specs.Prelude.{◌||◌}
use Rattle.std.specs.HashSet.{contains}
use Rattle.k_types_meaning.specs.Functions.{has_number}
use Rattle.k_types.proofs.variables.set_of.Given as goal

abbrev pub invariant-loop-number : goal.invariant-loop-number
invariant-loop-number l =
    (n : ℕ) → (contains nat_eq l.set n || has_number (drop l.number-index l.numbers) n) ≡ has_number l.numbers n
