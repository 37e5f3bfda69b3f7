-- Believed with a public law.
-- The flat code of a program.
use Rattle.std.specs.Prelude.{ℕ, ◌+◌, max, List, [], ◌∷◌, ◌++◌, map}
use Rattle.k_types_meaning.specs.declared.tree.unit.TFunc.{TFunc}
use Rattle.k_types_meaning.specs.declared.tree.unit.TObject.{TObject}
use Rattle.k_types_meaning.specs.declared.tree.unit.TString.{TString}
use Rattle.k_code.specs.declared.code.Code.{Code}
use Rattle.k_code.specs.declared.code.CodeFunc.{CodeFunc}
use Rattle.k_code.specs.declared.code.CodeObject.{CodeObject}
use Rattle.k_code.specs.declared.code.CodeObject.TheVariants.{Plain, Literal}
use Rattle.k_code.specs.declared.instruction.Instr.{Instr}
use Rattle.k_evaluation.specs.Calls.{function_region}
use Rattle.k_evaluation.specs.States.{Program}
use Rattle.k_regions.specs.Regions.{regions_of}
use Rattle.k_lower_code.specs.Functions.{function, function_code, registers_of}

-- a function of the code, of which the first instruction has this number
abbrev pub code_func : Program → ℕ → TFunc → ℕ → CodeFunc
code_func program number f first = record {
  entry = first;
  params = f.params;
  registers = max f.params (registers_of (function_code program number f first));
  size = f.nodes;
  region = function_region number f;
}

-- the functions from this number on, of which the first instruction has that number
abbrev pub code_funcs : Program → ℕ → ℕ → List TFunc → List CodeFunc
code_funcs program number first [] = []
code_funcs program number first (f ∷ fs) =
    code_func program number f first ∷ code_funcs program (number + 1) (first + (function program number f).size) fs

-- their instructions
abbrev pub functions_code : Program → ℕ → ℕ → List TFunc → List Instr
functions_code program number first [] = []
functions_code program number first (f ∷ fs) =
    function_code program number f first ++ functions_code program (number + 1) (first + (function program number f).size) fs

-- a file object
abbrev pub plain : TObject → CodeObject
plain o = Plain o.elements o.first o.place

-- a string, with the 0 behind its bytes
abbrev pub literal : TString → CodeObject
literal t = Literal (t.bytes ++ 0 ∷ []) t.place

-- THE FLAT CODE of a program
unfoldable pub flattened : Program → Code
flattened program = record {
  funcs = code_funcs program 0 0 program.unit.functions;
  instrs = functions_code program 0 0 program.unit.functions;
  regions = regions_of program.unit;
  objects = map plain program.unit.objects ++ map literal program.unit.strings;
  main = program.unit.main;
}
