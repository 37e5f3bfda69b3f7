-- For contracts between crates: nobody has to believe it.
-- The parts of flat code that stand around the statements.
use Rattle.std.specs.Prelude.{ℕ, ◌+◌, max, List, ◌++◌, map}
use Rattle.k_types_meaning.specs.declared.tree.unit.TFunc.{TFunc}
use Rattle.k_types_meaning.specs.declared.tree.unit.TUnit.{TUnit}
use Rattle.k_code.specs.declared.code.Code.{Code}
use Rattle.k_code.specs.declared.code.CodeFunc.{CodeFunc}
use Rattle.k_code.specs.declared.instruction.Instr.{Instr}
use Rattle.k_evaluation.specs.Calls.{function_region}
use Rattle.k_regions.specs.Regions.{regions_of}
use Rattle.k_lower_code.specs.Functions.{registers_of}
use Rattle.k_lower_code.specs.Pieces.{Piece}
use Rattle.k_lower_code.specs.Programs.{literal, plain}
use Rattle.k_lower_code.specs.Stretches.{Site, Stretch}

-- the site outside of all loops where so many objects of the call are live
abbrev pub outside_loops : ℕ → Site
outside_loops objects = record { objects = objects; breaks = 0; continues = 0 }

-- a stretch there, which gives the number of objects that are live behind it
abbrev pub with_objects : ℕ → Stretch → Piece ℕ
with_objects objects s = record { size = s.size; code = λ first. s.code (outside_loops objects) first; gives = objects + s.opens }

-- a function of the code, with this number, whose first instruction has that number and that has these instructions
abbrev pub func_with : ℕ → TFunc → ℕ → List Instr → CodeFunc
func_with number f first instrs = record {
  entry = first;
  params = f.params;
  registers = max f.params (registers_of instrs);
  size = f.nodes;
  region = function_region number f;
}

-- the code of a source with these functions and these instructions
abbrev pub code_with : TUnit → List CodeFunc → List Instr → Code
code_with unit funcs instrs = record {
  funcs = funcs;
  instrs = instrs;
  regions = regions_of unit;
  objects = map plain unit.objects ++ map literal unit.strings;
  main = unit.main;
}
