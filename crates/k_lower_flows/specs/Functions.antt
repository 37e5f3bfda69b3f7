-- Believed with a public law.
-- What lowering asks of functions.
use Rattle.std.specs.Prelude.{ℕ, ◌≡◌, Bool, true, false, map, length}
use Rattle.k_types_meaning.specs.declared.tree.expression.Node.{Node}
use Rattle.k_types_meaning.specs.declared.tree.unit.TFunc.{TFunc}
use Rattle.k_evaluation.specs.States.{Program}
use Rattle.k_lower_fits.specs.Fits.{has_values}
use Rattle.k_lower_flows.specs.Sound.{all_sound, jumps_in, soundness}

-- A FUNCTION IS SOUND where these calls fit: so are its statements, and no `break` and no `continue` leads out of them.
pub record IsSound (program : Program) (fits : Node → ℕ → Bool) (f : TFunc) : Type 0 where
  pub statements : all_sound (map (soundness program.marks (has_values f.result) (length f.variables) fits) f.body) ≡ true
  pub breaks : (jumps_in (map (soundness program.marks (has_values f.result) (length f.variables) fits) f.body)).breaks ≡ false
  pub continues : (jumps_in (map (soundness program.marks (has_values f.result) (length f.variables) fits) f.body)).continues ≡ false
