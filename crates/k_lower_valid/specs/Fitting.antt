-- Believed with a public law.
-- What lowering takes for granted of a typed program: a law over typing gives it.
use Rattle.std.specs.Prelude.{ℕ, ◌≡◌, ◌*◌, ◌<◌, ◌≤◌, max, true, map, length, slice_get, Some}
use Rattle.k_optab.specs.declared.class.Class.{Class}
use Rattle.k_optab.specs.Latencies.{latency}
use Rattle.k_types_meaning.specs.declared.tree.unit.TFunc.{TFunc}
use Rattle.k_evaluation.specs.Calls.{function_region}
use Rattle.k_evaluation.specs.States.{Program}
use Rattle.k_lower_code.specs.Functions.{function, function_code, registers_of}
use Rattle.k_lower_code.specs.Programs.{flattened}
use Rattle.k_lower_valid.specs.Names.{outermost, all_right, stmt_right}

-- A FUNCTION FITS, that of this number of a program:
pub record FitsFunction (program : Program) (number : ℕ) (f : TFunc) : Type 0 where
  -- what its block names is there, its texts are short, and its jumps and declarations stand where they may
  pub right : all_right outermost (map (stmt_right program (flattened program) number) f.body) ≡ true
  -- its region is there
  pub region : function_region number f < length (flattened program).regions
  -- its definition has nodes, and not too many
  pub least_size : 1 ≤ f.nodes
  pub greatest_size : f.nodes ≤ 1048576
  -- it has few parameters, and its instructions need few registers, for its nodes, wherever they stand
  pub registers : (first : ℕ) → max f.params (registers_of (function_code program number f first)) ≤ 2 * f.nodes
  -- it has few instructions for its nodes
  pub instructions : (function program number f).size ≤ 512 * f.nodes

-- A PROGRAM FITS: the latencies of all classes are in their range, its main is there, and each function fits
pub record FitsProgram (program : Program) : Type 0 where
  pub table : (class : Class) → latency program.latencies class ≤ 10000
  pub main : program.unit.main < length program.unit.functions
  pub functions : (number : ℕ) (f : TFunc) → slice_get program.unit.functions number ≡ Some f → FitsFunction program number f
