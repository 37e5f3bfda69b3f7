use Rattle.std.proofs.Common.{ℕ, List, None, refl, ap}
use Rattle.std.specs.List.{concat}
use Rattle.k_types_meaning.specs.Initialisers.{beginning}
use Rattle.k_types_meaning.specs.Made.{Fine, then_made}
use Rattle.k_types_declarations.proofs.initialiser.no_list.Goals as goal

pub returns : goal.returns
returns c =
    let given = c.in_ok-judge_all_alone.ensures in (
      beginning None (concat given.0),
      ap (λ m. then_made m (λ (all : List (List ℕ)). Fine (beginning None (concat all)))) given.1,
      refl,
      given.2,
    )
