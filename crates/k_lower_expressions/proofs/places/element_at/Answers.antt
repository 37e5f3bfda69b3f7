use Rattle.k_lower_code.specs.Lowered.{InMemory}
use Rattle.k_lower_expressions.proofs.Emitted.{ends}
use Rattle.k_lower_expressions.proofs.places.element_at.Goals as goal

pub returns : goal.returns
returns c =
    ends (λ address. InMemory address) _ _ _ _ c.in_ok-address.ensures
