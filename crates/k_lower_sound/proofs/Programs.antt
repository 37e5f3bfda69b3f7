-- The functions of a program as its source is accepted are sound, and main is one of them.
use Rattle.std.proofs.Common.{ℕ, ◌≡◌, Bool, List, map, length, slice_get, Some, refl, ap, sym, subst}
use Rattle.k_tree.specs.declared.tree.unit.Unit as source
use Rattle.k_types_meaning.specs.declared.tree.unit.TFunc.{TFunc}
use Rattle.k_types_meaning.specs.Bare.{IsTyped}
use Rattle.k_types_meaning.specs.Numbered.{IsNumbered}
use Rattle.k_marks_meaning.specs.declared.Marks.{Marks}
use Rattle.k_marks_meaning.specs.Marking.{counted_in, function_inside, marks_of}
use Rattle.k_evaluation.specs.States.{Program}
use Rattle.k_regions.specs.Regions.{loops_of}
use Rattle.k_regions.proofs.Names.{main_found}
use Rattle.k_lower_fits.specs.Fits.{has_values, limits_of, outermost}
use Rattle.k_lower_fits.specs.Laws.{FunctionFits}
use Rattle.k_lower_fits.proofs.Placing.{declarations_are_placed}
use Rattle.k_lower_fits.proofs.Sources.{functions_fit}
use Rattle.k_lower_runs.specs.Sound.{calls_fit}
use Rattle.k_lower_flows.specs.Functions.{IsSound}
use Rattle.k_lower_flows.specs.Sound.{jumps_in, soundness}
use Rattle.k_lower_accepted.specs.Accepted.{IsAccepted}
use Rattle.k_lower_valid.proofs.Programs.{flattened_is_valid}
use Rattle.k_lower_flows.proofs.Programs.{code_does_as_its_program, code_runs_as_its_program}
use Rattle.k_lower_accepted.proofs.Programs.{programs_are_sound, programs_fit}
use Rattle.k_lower_sound.specs.Laws.{AcceptedProgramsAreLowered, AcceptedProgramsAreReady}
use Rattle.k_lower_sound.proofs.Jumps.{Land, body_lands}
use Rattle.k_lower_sound.proofs.Numbers.{Agree, loops_agree}
use Rattle.k_lower_sound.proofs.Statements.{body_sound}

numbered_so : (unit : source.Unit) (program : Program) → IsAccepted unit program → IsNumbered program.unit
unfolding IsTyped
numbered_so unit program h = h.typed.3

marks_agree : (program : Program) (f : TFunc) → program.marks ≡ marks_of program.unit → Agree (counted_in program.unit.functions) f.variables (loops_of f) (function_inside f).loops
    → Agree program.marks.counted f.variables (loops_of f) (function_inside f).loops
unfolding marks_of
marks_agree program f is h = subst (λ (table : List Bool). Agree table f.variables (loops_of f) (function_inside f).loops) (sym (ap (λ (m : Marks). m.counted) is)) h

function_is_sound : (unit : source.Unit) (program : Program) (number : ℕ) (f : TFunc) → IsAccepted unit program → program.marks ≡ marks_of program.unit
    → slice_get program.unit.functions number ≡ Some f → IsSound program (calls_fit program.unit) f
function_is_sound unit program number f h marked is =
    let fits : FunctionFits program.unit f = functions_fit unit program.unit number f h.typed h.faultless is in
    let lands : Land outermost (jumps_in (map (soundness program.marks (has_values f.result) (length f.variables) (calls_fit program.unit)) f.body)) =
    body_lands program.marks (limits_of program.unit f) (calls_fit program.unit) outermost f.body fits.body in
    record {
      statements = body_sound program.marks f.variables (limits_of program.unit f) (calls_fit program.unit) f.body fits.body (declarations_are_placed unit program.unit number f h.ranked h.typed is)
          (programs_are_sound unit program number f h is) (marks_agree program f marked (loops_agree program.unit number f (numbered_so unit program h) is));
      breaks = lands.breaks refl;
      continues = lands.continues refl;
    }

-- THE LAW
pub programs_are_ready : AcceptedProgramsAreReady
programs_are_ready unit program h marked =
    let found = main_found unit program.unit h.typed h.faultless in
    record { main = (found.0, found.1); functions = λ number f is. function_is_sound unit program number f h marked is }

pub programs_are_lowered : AcceptedProgramsAreLowered
programs_are_lowered unit program h marked = record {
  valid = flattened_is_valid program (programs_fit unit program h);
  runs = λ input budget. code_runs_as_its_program program input budget (programs_are_ready unit program h marked);
  tells = λ input budget. code_does_as_its_program program input budget (programs_are_ready unit program h marked);
}
