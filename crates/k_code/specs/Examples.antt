-- Believed with a public law.
-- Runs of small codes, with the events, the output and the end that the rules of the instructions give them, worked out by hand.
use Rattle.std.specs.Prelude.{ℕ, ◌≡◌, ◌+◌, ℤ, pos, neg_ℤ, true, false, List, [], ◌∷◌, Some, None, codes}
use Rattle.k_num.specs.declared.initial.Initial.{Initial}
use Rattle.k_num.specs.declared.place.Place.{Place}
use Rattle.k_num.specs.declared.numbers.Bin.TheVariants.{Sub, Mul, Div, Lt}
use Rattle.k_num.specs.declared.numbers.Kind.TheVariants.{U8, I32}
use Rattle.k_num.specs.declared.numbers.Un.TheVariants.{Neg}
use Rattle.k_optab.specs.declared.class.Class.{Class}
use Rattle.k_optab.specs.declared.class.Class.TheVariants as class
use Rattle.k_optab.specs.declared.event.Event.{Event}
use Rattle.k_optab.specs.declared.event.Event.TheVariants.{Op, Enter, Exit}
use Rattle.k_optab.specs.declared.event.Src.{Src}
use Rattle.k_optab.specs.declared.region.Region.{Region}
use Rattle.k_optab.specs.declared.region.RegionKind.TheVariants.{Func}
use Rattle.k_ending.specs.declared.ending.End.{End}
use Rattle.k_ending.specs.declared.ending.End.TheVariants.{Returned, Trapped, OutOfSteps}
use Rattle.k_ending.specs.declared.ending.Trap.TheVariants.{DivideByZero, Uninit, Dangling, StackOverflow, FallOff}
use Rattle.k_world.specs.declared.act.Chunk.TheVariants as chunk
use Rattle.k_world.specs.declared.act.Out.TheVariants as out
use Rattle.k_code.specs.declared.code.Code.{Code}
use Rattle.k_code.specs.declared.code.CodeFunc.{CodeFunc}
use Rattle.k_code.specs.declared.code.CodeObject.TheVariants as object
use Rattle.k_code.specs.declared.instruction.Arg.{Arg}
use Rattle.k_code.specs.declared.instruction.Arg.TheVariants.{Number, Reg}
use Rattle.k_code.specs.declared.instruction.Do.{Do}
use Rattle.k_code.specs.declared.instruction.Do.TheVariants as act
use Rattle.k_code.specs.declared.instruction.Home.TheVariants.{File, Local}
use Rattle.k_code.specs.declared.instruction.Instr.{Instr}
use Rattle.k_code.specs.Runs.{run_of, HasOutcome}
use Rattle.k_code.specs.Steps.{Configuration, Going}

-- a code, an input and the greatest number of operations; and the events, the output and the end of that run
pub record Example : Type 0 where
  pub code : Code
  pub input : List ℕ
  pub budget : ℕ
  pub events : List Event
  pub output : List ℕ
  pub end : End

-- the run is that
abbrev pub Runs : Example → Type 0
Runs x = HasOutcome x.code x.input x.budget x.events x.output x.end

-- a run of at most 20 operations without input, which has no output
abbrev pub silent : Code → List Event → End → Example
silent code events end = record { code = code; input = []; budget = 20; events = events; output = []; end = end }

-- a place in the first line
abbrev pub col : ℕ → Place
col n = record { line = 1; column = n }

-- instructions from this number on, each at the column and with the latency of its number
abbrev pub numbered : ℕ → List Do → List Instr
numbered k [] = []
numbered k (what ∷ acts) = record { place = col k; latency = k; act = what } ∷ numbered (k + 1) acts

-- a function with this entry and so many parameters, which enters this region
abbrev pub function : ℕ → ℕ → ℕ → CodeFunc
function entry params region = record { entry = entry; params = params; registers = 6; size = 3; region = region }

-- a region
abbrev pub a_region : Region
a_region = record { kind = Func; func = codes "f"; place = col 0 }

-- a code of main, which enters region 0, and these functions
abbrev pub with_functions : List CodeFunc → List Do → Code
with_functions functions acts = record {
  funcs = function 0 0 0 ∷ functions;
  instrs = numbered 0 acts;
  regions = a_region ∷ a_region ∷ [];
  objects = [];
  main = 0;
}

-- a code of main alone
abbrev pub main_of : List Do → Code
main_of acts = with_functions [] acts

-- the number of an element
abbrev pub item : ℕ → ℤ → Initial
item element number = record { element = element; number = number }

-- a code of main alone with two objects: three elements, of which the second is 4, and a string of the bytes 104 and 255
abbrev pub with_objects_of : List Do → Code
with_objects_of acts = record (main_of acts) { objects = object.Plain 3 (item 1 (pos 4) ∷ []) (col 0) ∷ object.Literal (104 ∷ 255 ∷ []) (col 0) ∷ [] }

-- a register
abbrev pub reg : ℕ → Arg
reg r = Reg r false

-- the operation of the instruction of that number
abbrev pub op : Class → ℕ → List Src → Event
op class k sources = Op class k sources (col k)

-- a dependence, and one that is broken
abbrev pub on : ℕ → Src
on n = record { number = n; broken = false }

-- the same by a broken edge
abbrev pub broken : ℕ → Src
broken n = record { number = n; broken = true }

-- (3 - 10) * 2 is -14: registers and constants, with the operands' sources in their order, of which one is broken
abbrev pub operations : Example
operations = silent (main_of (
    act.Move (Number (pos 3)) 0
    ∷ act.Move (Number (pos 10)) 1
    ∷ act.Binary Sub I32 (reg 0) (Reg 1 true) 2
    ∷ act.Binary Mul I32 (reg 2) (Number (pos 2)) 2
    ∷ act.Return (Some (reg 2)) ∷ []))
    (Enter 0 ∷ op class.Move 0 [] ∷ op class.Move 1 [] ∷ op class.Simple 2 (on 0 ∷ broken 1 ∷ []) ∷ op class.Mul 3 (on 2 ∷ [])
    ∷ op class.Move 4 (on 3 ∷ []) ∷ Exit ∷ [])
    (Returned (neg_ℤ (pos 14)))

-- -5 is 251 as an unsigned char
abbrev pub conversion : Example
conversion = silent (main_of (act.Unary Neg I32 (Number (pos 5)) 0 ∷ act.Convert U8 (reg 0) 0 ∷ act.Return (Some (reg 0)) ∷ []))
    (Enter 0 ∷ op class.Simple 0 [] ∷ op class.Conv 1 (on 0 ∷ []) ∷ op class.Move 2 (on 1 ∷ []) ∷ Exit ∷ [])
    (Returned (pos 251))

-- a test with both arms
abbrev pub tested : Class → ℤ → Code
tested class n = main_of (act.Test (Number n) 1 2 (Some 0) class ∷ act.Return (Some (reg 0)) ∷ act.Return (Some (reg 0)) ∷ [])

-- behind a number other than 0 comes the first arm, and the register holds 1
abbrev pub test_true : Example
test_true = silent (tested class.Test (pos 5)) (Enter 0 ∷ op class.Test 0 [] ∷ op class.Move 1 (on 0 ∷ on 0 ∷ []) ∷ Exit ∷ []) (Returned (pos 1))

-- behind 0 comes the other, and the register holds 0
abbrev pub test_false : Example
test_false = silent (tested class.Select (pos 0)) (Enter 0 ∷ op class.Select 0 [] ∷ op class.Move 2 (on 0 ∷ on 0 ∷ []) ∷ Exit ∷ []) (Returned (pos 0))

-- a loop of two turns, which begins with a jump over the end, and whose test goes back where a byte of the input is other than 0
abbrev pub two_turns : Example
two_turns = record {
  code = main_of (act.Jump 2 ∷ act.Return (Some (Number (pos 9))) ∷ act.Input 0 ∷ act.Test (reg 0) 2 1 None class.Test ∷ []);
  input = 6 ∷ 0 ∷ 7 ∷ [];
  budget = 20;
  events = Enter 0 ∷ op class.Input 2 [] ∷ op class.Test 3 (on 0 ∷ [])
      ∷ op class.Input 2 (on 0 ∷ on 1 ∷ []) ∷ op class.Test 3 (on 2 ∷ on 1 ∷ []) ∷ op class.Move 1 (on 3 ∷ []) ∷ Exit ∷ [];
  output = [];
  end = Returned (pos 9);
}

-- the control source is the third test, and the first and the second are saved: an instruction, an operation, a `Back`, and an operation
abbrev pub saved_before : Do → Code
saved_before what = main_of (
    act.Test (Number (pos 1)) 1 1 None class.Test
    ∷ act.Save
    ∷ act.Test (Number (pos 1)) 3 3 None class.Test
    ∷ act.Save
    ∷ act.Test (Number (pos 1)) 5 5 None class.Test
    ∷ what
    ∷ act.Move (Number (pos 1)) 0
    ∷ act.Back
    ∷ act.Return (Some (Number (pos 2))) ∷ [])

-- the control sources of the two operations are these
abbrev pub control_of : Do → ℕ → ℕ → Example
control_of what first second = silent (saved_before what)
    (Enter 0 ∷ op class.Test 0 [] ∷ op class.Test 2 (on 0 ∷ []) ∷ op class.Test 4 (on 1 ∷ []) ∷ op class.Move 6 (on first ∷ [])
    ∷ op class.Move 8 (on second ∷ []) ∷ Exit ∷ [])
    (Returned (pos 2))

-- one more is saved, and taken back
abbrev pub save : Example
save = control_of act.Save 2 2

-- the newest is dropped, and the control source stays
abbrev pub keep : Example
keep = control_of act.Keep 2 0

-- the newest is taken back
abbrev pub back : Example
back = control_of act.Back 1 0

-- the newest is taken back and stays saved
abbrev pub restore : Example
restore = control_of act.Restore 1 1

-- a region is entered and left, and entered again and left by the return
abbrev pub regions : Example
regions = silent (main_of (act.Enter 1 ∷ act.Move (Number (pos 1)) 0 ∷ act.Exit ∷ act.Enter 1 ∷ act.Return (Some (Number (pos 0))) ∷ []))
    (Enter 0 ∷ Enter 1 ∷ op class.Move 1 [] ∷ Exit ∷ Enter 1 ∷ op class.Move 4 [] ∷ Exit ∷ Exit ∷ [])
    (Returned (pos 0))

-- A function with two parameters, which keep the sources of their operands. The registers of caller and callee are their own. Behind the call
-- the control source is the callee's last.
abbrev pub call : Example
call = silent (with_functions (function 4 2 1 ∷ []) (
    act.Move (Number (pos 5)) 0
    ∷ act.Call 1 (reg 0 ∷ Number (pos 8) ∷ []) (Some 1)
    ∷ act.Move (reg 0) 2
    ∷ act.Return (Some (reg 1))
    ∷ act.Move (reg 0) 2
    ∷ act.Move (Number (pos 1)) 0
    ∷ act.Test (reg 0) 7 7 None class.Test
    ∷ act.Return (Some (reg 1)) ∷ []))
    (Enter 0 ∷ op class.Move 0 [] ∷ op class.Call 1 (on 0 ∷ []) ∷ Enter 1 ∷ op class.Move 4 (on 0 ∷ []) ∷ op class.Move 5 []
    ∷ op class.Test 6 (on 3 ∷ []) ∷ op class.Move 7 (on 4 ∷ []) ∷ Exit ∷ op class.Move 2 (on 0 ∷ on 4 ∷ [])
    ∷ op class.Move 3 (on 5 ∷ on 4 ∷ []) ∷ Exit ∷ [])
    (Returned (pos 8))

-- where nothing is returned, the register holds nothing
abbrev pub call_for_nothing : Example
call_for_nothing = silent (with_functions (function 3 0 1 ∷ [])
    (act.Move (Number (pos 5)) 0 ∷ act.Call 1 [] (Some 0) ∷ act.Return (Some (reg 0)) ∷ act.Return None ∷ []))
    (Enter 0 ∷ op class.Move 0 [] ∷ op class.Call 1 [] ∷ Enter 1 ∷ Exit ∷ [])
    (Trapped Uninit (col 2))

-- a function with one parameter, called with these operands, returns what this register holds
abbrev pub called_with : List Arg → ℕ → Code
called_with args r = with_functions (function 2 1 1 ∷ []) (act.Call 1 args None ∷ act.Return None ∷ act.Return (Some (reg r)) ∷ [])

-- a parameter without an operand holds nothing
abbrev pub operand_lacking : Example
operand_lacking = silent (called_with [] 0) (Enter 0 ∷ op class.Call 0 [] ∷ Enter 1 ∷ []) (Trapped Uninit (col 2))

-- an operand without a parameter is dropped
abbrev pub operand_dropped : Example
operand_dropped = silent (called_with (Number (pos 8) ∷ Number (pos 9) ∷ []) 1) (Enter 0 ∷ op class.Call 0 [] ∷ Enter 1 ∷ []) (Trapped Uninit (col 2))

-- the sizes of live calls have a limit, which is met behind the operation
abbrev pub call_too_large : Example
call_too_large = silent (with_functions (record (function 2 0 1) { size = 1048576 } ∷ []) (act.Call 1 [] None ∷ act.Return None ∷ act.Return None ∷ []))
    (Enter 0 ∷ op class.Call 0 [] ∷ [])
    (Trapped StackOverflow (col 0))

-- main calls itself where a byte of the input is other than 0, and gets 0, which no operation gave
abbrev pub call_of_main : Example
call_of_main = record {
  code = main_of (act.Input 0 ∷ act.Test (reg 0) 2 4 None class.Test ∷ act.Call 0 [] (Some 1) ∷ act.Return (Some (reg 1)) ∷ act.Return None ∷ []);
  input = 65 ∷ 0 ∷ [];
  budget = 20;
  events = Enter 0 ∷ op class.Input 0 [] ∷ op class.Test 1 (on 0 ∷ []) ∷ op class.Call 2 (on 1 ∷ [])
      ∷ Enter 0 ∷ op class.Input 0 (on 0 ∷ on 1 ∷ []) ∷ op class.Test 1 (on 3 ∷ on 1 ∷ []) ∷ Exit
      ∷ op class.Move 3 (on 4 ∷ []) ∷ Exit ∷ [];
  output = [];
  end = Returned (pos 0);
}

-- an object is made and set, with an item past its end, and its element at the offset is loaded
abbrev pub object_filled : Example
object_filled = silent (main_of (
    act.ObjectOpen 3
    ∷ act.Fill 0 (item 1 (pos 8) ∷ item 3 (pos 5) ∷ [])
    ∷ act.Address (Local 0) 1 0
    ∷ act.Load (reg 0) 1
    ∷ act.Return (Some (reg 1)) ∷ []))
    (Enter 0 ∷ op class.Load 3 [] ∷ op class.Move 4 (on 0 ∷ []) ∷ Exit ∷ [])
    (Returned (pos 8))

-- an element is stored, of which the value goes on, and loaded; then it is set to 0, as one that no item names, without a source: 5 - 0 is 5
abbrev pub element_stored : Example
element_stored = silent (main_of (
    act.ObjectOpen 2
    ∷ act.Address (Local 0) 1 0
    ∷ act.Store (reg 0) (Number (pos 5)) (Some 1)
    ∷ act.Load (reg 0) 2
    ∷ act.Fill 0 (item 0 (pos 9) ∷ [])
    ∷ act.Load (reg 0) 2
    ∷ act.Binary Sub I32 (reg 1) (reg 2) 1
    ∷ act.Return (Some (reg 1)) ∷ []))
    (Enter 0 ∷ op class.Store 2 [] ∷ op class.Load 3 (on 0 ∷ []) ∷ op class.Load 5 [] ∷ op class.Simple 6 (on 0 ∷ on 2 ∷ [])
    ∷ op class.Move 7 (on 3 ∷ []) ∷ Exit ∷ [])
    (Returned (pos 5))

-- the second object of two
abbrev pub second_object : Example
second_object = silent (main_of (
    act.ObjectOpen 1
    ∷ act.ObjectOpen 1
    ∷ act.Fill 1 (item 0 (pos 2) ∷ [])
    ∷ act.Address (Local 1) 0 0
    ∷ act.Load (reg 0) 1
    ∷ act.Return (Some (reg 1)) ∷ []))
    (Enter 0 ∷ op class.Load 4 [] ∷ op class.Move 5 (on 0 ∷ []) ∷ Exit ∷ [])
    (Returned (pos 2))

-- an object of the program
abbrev pub program_object : Example
program_object = silent (with_objects_of (act.Address (File 0) 1 0 ∷ act.Load (reg 0) 1 ∷ act.Return (Some (reg 1)) ∷ []))
    (Enter 0 ∷ op class.Load 1 [] ∷ op class.Move 2 (on 0 ∷ []) ∷ Exit ∷ [])
    (Returned (pos 4))

-- a string, whose bytes are signed
abbrev pub program_string : Example
program_string = silent (with_objects_of (act.Address (File 1) 1 0 ∷ act.Load (reg 0) 1 ∷ act.Return (Some (reg 1)) ∷ []))
    (Enter 0 ∷ op class.Load 1 [] ∷ op class.Move 2 (on 0 ∷ []) ∷ Exit ∷ [])
    (Returned (neg_ℤ (pos 1)))

-- a pointer goes one element of two numbers back, which is then their distance in numbers
abbrev pub pointer_moved : Example
pointer_moved = silent (with_objects_of (
    act.Address (File 0) 2 0
    ∷ act.Offset true 2 (reg 0) (Number (pos 1)) 1
    ∷ act.PtrDistance 1 (reg 0) (reg 1) 2
    ∷ act.Return (Some (reg 2)) ∷ []))
    (Enter 0 ∷ op class.Simple 1 [] ∷ op class.Div 2 (on 0 ∷ []) ∷ op class.Move 3 (on 1 ∷ []) ∷ Exit ∷ [])
    (Returned (pos 2))

-- one pointer is below another
abbrev pub pointers_compared : Example
pointers_compared = silent (with_objects_of (
    act.Address (File 0) 1 0 ∷ act.Address (File 0) 2 1 ∷ act.PtrCompare Lt (reg 0) (reg 1) 2 ∷ act.Return (Some (reg 2)) ∷ []))
    (Enter 0 ∷ op class.Simple 2 [] ∷ op class.Move 3 (on 0 ∷ []) ∷ Exit ∷ [])
    (Returned (pos 1))

-- a new object is unset
abbrev pub object_unset : Example
object_unset = silent (main_of (act.ObjectOpen 1 ∷ act.Address (Local 0) 0 0 ∷ act.Load (reg 0) 0 ∷ act.Return None ∷ [])) (Enter 0 ∷ []) (Trapped Uninit (col 2))

-- an object that was closed has died
abbrev pub object_closed : Example
object_closed = silent (main_of (act.ObjectOpen 1 ∷ act.Address (Local 0) 0 0 ∷ act.ObjectsClose 1 ∷ act.Load (reg 0) 0 ∷ act.Return None ∷ []))
    (Enter 0 ∷ [])
    (Trapped Dangling (col 3))

-- an older one lives on
abbrev pub newer_closed : Example
newer_closed = silent (main_of (
    act.ObjectOpen 1
    ∷ act.Fill 0 (item 0 (pos 3) ∷ [])
    ∷ act.ObjectOpen 1
    ∷ act.ObjectsClose 1
    ∷ act.Address (Local 0) 0 0
    ∷ act.Load (reg 0) 1
    ∷ act.Return (Some (reg 1)) ∷ []))
    (Enter 0 ∷ op class.Load 5 [] ∷ op class.Move 6 (on 0 ∷ []) ∷ Exit ∷ [])
    (Returned (pos 3))

-- a call's first object is its own, and dies with it
abbrev pub object_of_call : Example
object_of_call = silent (with_functions (function 4 0 1 ∷ []) (
    act.ObjectOpen 1
    ∷ act.Call 1 [] (Some 0)
    ∷ act.Load (reg 0) 1
    ∷ act.Return None
    ∷ act.ObjectOpen 1
    ∷ act.Address (Local 0) 0 1
    ∷ act.Return (Some (reg 1)) ∷ []))
    (Enter 0 ∷ op class.Call 1 [] ∷ Enter 1 ∷ op class.Move 6 [] ∷ Exit ∷ [])
    (Trapped Dangling (col 2))

-- a register that was cleared holds nothing
abbrev pub forgotten : Example
forgotten = silent (main_of (act.Move (Number (pos 1)) 0 ∷ act.Forget 0 ∷ act.Return (Some (reg 0)) ∷ []))
    (Enter 0 ∷ op class.Move 0 [] ∷ [])
    (Trapped Uninit (col 2))

-- the end of a function that should give a value
abbrev pub fall_off : Example
fall_off = silent (main_of (act.FallOff ∷ [])) (Enter 0 ∷ []) (Trapped FallOff (col 0))

-- input of one byte, 65, and then of its end; output of the byte and of the line `a`
abbrev pub bytes : Example
bytes = record {
  code = main_of (
      act.Input 0 ∷ act.Output out.Byte (reg 0 ∷ []) 1 ∷ act.Input 2 ∷ act.Output (out.Line (97 ∷ [])) [] 3 ∷ act.Return (Some (reg 2)) ∷ []);
  input = 65 ∷ [];
  budget = 20;
  events = Enter 0 ∷ op class.Input 0 [] ∷ op class.Output 1 (on 0 ∷ []) ∷ op class.Input 2 (on 0 ∷ []) ∷ op class.Output 3 (on 1 ∷ [])
      ∷ op class.Move 4 (on 2 ∷ []) ∷ Exit ∷ [];
  output = 65 ∷ 97 ∷ 10 ∷ [];
  end = Returned (neg_ℤ (pos 1));
}

-- output of two bytes by a format, `x` and 321 as a byte
abbrev pub format : Example
format = record {
  code = main_of (act.Output (out.Format (chunk.Bytes (120 ∷ []) ∷ chunk.Byte ∷ [])) (Number (pos 321) ∷ []) 0 ∷ act.Return (Some (reg 0)) ∷ []);
  input = [];
  budget = 20;
  events = Enter 0 ∷ op class.Output 0 [] ∷ op class.Move 1 (on 0 ∷ []) ∷ Exit ∷ [];
  output = 120 ∷ 65 ∷ [];
  end = Returned (pos 2);
}

-- a division by 0 behind another operation, where so many operations may be made
abbrev pub divided : ℕ → End → Example
divided budget end = record {
  code = main_of (act.Move (Number (pos 1)) 0 ∷ act.Binary Div I32 (reg 0) (Number (pos 0)) 0 ∷ act.Return None ∷ []);
  input = [];
  budget = budget;
  events = Enter 0 ∷ op class.Move 0 [] ∷ [];
  output = [];
  end = end;
}

-- it traps, and an operation that traps is not made
abbrev pub trapped : Example
trapped = divided 2 (Trapped DivideByZero (col 1))

-- no operation is left for it
abbrev pub out_of_steps : Example
out_of_steps = divided 1 OutOfSteps

-- the number that main returns is an int at the end: 2^32 + 3 is 3
abbrev pub end_as_int : Example
end_as_int = silent (main_of (act.Return (Some (Number (pos 4294967299))) ∷ [])) (Enter 0 ∷ op class.Move 0 [] ∷ Exit ∷ []) (Returned (pos 3))

-- a pointer is 0
abbrev pub end_with_pointer : Example
end_with_pointer = silent (with_objects_of (act.Address (File 0) 1 0 ∷ act.Return (Some (reg 0)) ∷ [])) (Enter 0 ∷ op class.Move 1 [] ∷ Exit ∷ []) (Returned (pos 0))

-- so is nothing
abbrev pub end_with_nothing : Example
end_with_nothing = silent (main_of (act.Return None ∷ [])) (Enter 0 ∷ Exit ∷ []) (Returned (pos 0))

-- a run without a main never ends
abbrev pub StaysWithoutMain : Type 0
StaysWithoutMain = (n : ℕ) → (c : Configuration) × (run_of (record (main_of (act.Return None ∷ [])) { main = 1 }) [] 20 n ≡ Going c)
