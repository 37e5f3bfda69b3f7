-- Believed with a public law.
-- How functions are lowered.
use Rattle.std.specs.Prelude.{ℕ, zero, suc, ◌+◌, nat_eq, max, Bool, true, false, List, [], ◌∷◌, map, length, None}
use Rattle.k_num.specs.declared.place.Place.{Place}
use Rattle.k_types_meaning.specs.declared.types.TType.{TType}
use Rattle.k_types_meaning.specs.declared.types.TType.TheVariants as ttype
use Rattle.k_types_meaning.specs.declared.tree.unit.TFunc.{TFunc}
use Rattle.k_types_meaning.specs.declared.tree.unit.TVariable.{TVariable}
use Rattle.k_code.specs.declared.instruction.Arg.TheVariants.{Reg}
use Rattle.k_code.specs.declared.instruction.Do.{Do}
use Rattle.k_code.specs.declared.instruction.Do.TheVariants.{Address, ObjectOpen, Store, Return, FallOff}
use Rattle.k_code.specs.declared.instruction.Home.TheVariants.{Local}
use Rattle.k_code.specs.declared.instruction.Instr.{Instr}
use Rattle.k_code.specs.Named.{registers_needed}
use Rattle.k_evaluation.specs.States.{Program}
use Rattle.k_lower_code.specs.Pieces.{Piece, ◌>>>◌, does, sets}
use Rattle.k_lower_code.specs.Statements.{lowered}
use Rattle.k_lower_code.specs.Stretches.{Inside, Stretch, nothing_done, of_piece, behind, in_order}

-- a parameter that is memory has the call's next object, of which this is the number: the argument is stored in it, at the parameter, and the
-- parameter holds its address from then on
abbrev pub makes_parameter : Program → ℕ → Place → ℕ → ℕ → ℕ → Piece (Unit {0})
makes_parameter program r place n elements object =
    does program place (ObjectOpen elements) >>> λ made. sets program place (Address (Local object) 0) r >>> λ address.
    does program place (Store address (Reg n false) None) >>> λ stored. does program place (Address (Local object) 0 n)

-- a parameter, by how many elements its object has: it stays in its register where it has none
abbrev pub serves_by : Program → ℕ → Place → ℕ → ℕ → Stretch
serves_by program r place n zero = nothing_done place
serves_by program r place n (suc count) = record (nothing_done place) {
  size = (makes_parameter program r place n (suc count) 0).size;
  code = λ site first. (makes_parameter program r place n (suc count) site.objects).code first;
  opens = 1;
}

-- the parameters from this number on, of which there are so many, in their order
abbrev pub serves : Program → ℕ → Place → ℕ → ℕ → List TVariable → Stretch
serves program r close n zero vs = nothing_done close
serves program r close n (suc count) [] = nothing_done close
serves program r close n (suc count) (v ∷ vs) = behind (serves_by program r v.place n v.elements) (serves program r close (n + 1) count vs)

-- what stands at the end of a function with a result: main gives 0, another one traps
abbrev pub falls_off : Bool → Do
falls_off true = Return None
falls_off false = FallOff

-- what stands at the end of a function
abbrev pub at_end : Program → ℕ → TType → Do
at_end program number ttype.Void = Return None
at_end program number (ttype.Number kind) = falls_off (nat_eq number program.unit.main)
at_end program number (ttype.Pointer target) = falls_off (nat_eq number program.unit.main)

-- what stays the same in the function of this number
abbrev pub inside : Program → ℕ → TFunc → Inside
inside program number f = record { program = program; function = number; vars = f.variables }

-- the parameters that are memory, the statements, and the end
unfoldable pub function : Program → ℕ → TFunc → Stretch
function program number f =
    behind (serves program (length f.variables) f.close 0 f.params f.variables)
    (behind (in_order program f.close (map (lowered (inside program number f)) f.body))
    (of_piece f.close (does program f.close (at_end program number f.result))))

-- the instructions of a function, of which the first has this number
abbrev pub function_code : Program → ℕ → TFunc → ℕ → List Instr
function_code program number f first = (function program number f).code (record { objects = 0; breaks = 0; continues = 0 }) first

-- how many registers instructions need
abbrev pub registers_of : List Instr → ℕ
registers_of [] = 0
registers_of (i ∷ instrs) = max (registers_needed i.act) (registers_of instrs)
