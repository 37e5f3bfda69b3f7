-- How an operator binds, by its rank where it is binary.
use Rattle.std.proofs.Common.{ℕ, ◌≡◌, ◌+◌, Some, None, sym, ap}
use Rattle.k_tree.specs.Ranked.{binary_rank, is_assignment}
use Rattle.k_parse_steps.specs.Types.{Mark}
use Rattle.k_parse_steps.specs.Operators.{binding, binding_by, other_binding}

-- how a binary operator binds
pub binary_binds : (m : Mark) (rank : ℕ) → binary_rank m ≡ Some rank → Some (record { left = rank; own = rank; right = rank + 1 }) ≡ binding m
unfolding binding
binary_binds m rank is = ap (λ r. binding_by r (is_assignment m) (other_binding m)) (sym is)

-- how an operator binds that is not binary
pub others_bind : (m : Mark) → binary_rank m ≡ None → binding_by None (is_assignment m) (other_binding m) ≡ binding m
unfolding binding
others_bind m is = ap (λ r. binding_by r (is_assignment m) (other_binding m)) (sym is)
