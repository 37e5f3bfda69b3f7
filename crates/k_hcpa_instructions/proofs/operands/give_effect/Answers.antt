use Rattle.std.proofs.Common.{subst}
use Rattle.k_code.specs.declared.instruction.Do.{Do}
use Rattle.k_code.specs.Steps.{operation_of}
use Rattle.k_hcpa_meaning.specs.Locations.{effect_locations}
use Rattle.k_hcpa_instructions.specs.Kinds.{HaveRoom, effects_of}
use Rattle.k_hcpa_instructions.proofs.operands.give_effect.Goals as goal

pub give_element-requires-clause-room : goal.give_element-requires-clause-room
unfolding operation_of effect_locations
give_element-requires-clause-room g c =
    let P : Do → Type 0 = λ what. HaveRoom (g.T.Timed.room c.args.times.now) (effects_of (operation_of what) c.args.element) in
    subst P c.in-Store.is c.requires.room
