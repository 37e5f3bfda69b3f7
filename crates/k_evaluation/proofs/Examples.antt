-- Examples: small constructs, with each event and the whole state that they leave worked out by hand from the table of constructs.
use Rattle.std.proofs.Common.{◌≡◌, ℕ, ◌+◌, ◌-◌, ℤ, pos, true, false, List, [], ◌∷◌, Option, Some, None, refl, sym, ap, ◌∙◌}
use Rattle.std.specs.Prelude.{codes}
use Rattle.k_num.specs.declared.place.Place.{Place}
use Rattle.k_num.specs.declared.numbers.Bin.TheVariants.{Add, Mul, Div, Lt}
use Rattle.k_num.specs.declared.numbers.Kind.TheVariants.{I8, I32}
use Rattle.k_optab.specs.declared.class.Class.TheVariants as class
use Rattle.k_optab.specs.declared.event.Event.{Event}
use Rattle.k_optab.specs.declared.event.Event.TheVariants.{Op, Enter, Exit}
use Rattle.k_optab.specs.declared.event.Src.{Src}
use Rattle.k_optab.specs.Latencies.{standard_latencies}
use Rattle.k_ending.specs.declared.ending.End.TheVariants.{Returned, Trapped, OutOfSteps}
use Rattle.k_ending.specs.declared.ending.Trap.TheVariants.{DivideByZero, Uninit, StackOverflow, OutOfBounds}
use Rattle.k_types_meaning.specs.declared.types.TType.TheVariants as ttype
use Rattle.k_types_meaning.specs.declared.tree.expression.Change.TheVariants as change
use Rattle.k_types_meaning.specs.declared.tree.expression.Node.{Node}
use Rattle.k_types_meaning.specs.declared.tree.expression.TExpr.{TExpr, fold-roll-TExpr}
use Rattle.k_types_meaning.specs.declared.tree.expression.TExpr.TheOpen.{TExpr-F}
use Rattle.k_types_meaning.specs.declared.tree.expression.TExpr.TheVariants as typed
use Rattle.k_types_meaning.specs.declared.tree.statement.TPart.TheOpen.{TStmt-F}
use Rattle.k_types_meaning.specs.declared.tree.statement.TStmt.{TStmt, fold-roll-TStmt}
use Rattle.k_types_meaning.specs.declared.tree.statement.TStmt.TheVariants as stmt
use Rattle.k_types_meaning.specs.declared.tree.unit.TFunc.{TFunc}
use Rattle.k_types_meaning.specs.declared.tree.unit.TVariable.{TVariable}
use Rattle.k_marks_meaning.specs.Jumps.{no_jumps, a_break, a_return}
use Rattle.k_mem.specs.Memory.{Memory}
use Rattle.k_world.specs.declared.value.Held.{Held}
use Rattle.k_world.specs.declared.value.Value.{Value}
use Rattle.k_world.specs.declared.value.Value.TheVariants as value
use Rattle.k_world.specs.Acts.{work, effect, hidden}
use Rattle.k_world.specs.Limits.{call_limit}
use Rattle.k_world.specs.Operations.{operation}
use Rattle.k_world.specs.Worlds.{World, fresh}
use Rattle.k_evaluation.specs.declared.operand.Operand.TheVariants.{Constant, Holding, Register}
use Rattle.k_evaluation.specs.declared.flow.Flow.TheVariants.{Normal, Broke}
use Rattle.k_evaluation.specs.States.{Program, State, Goes, Stops, ◌>>=◌, gives, settled, region}
use Rattle.k_evaluation.specs.Objects.{fills, block}
use Rattle.k_evaluation.specs.Meanings.{Meaning, nothing, tests}
use Rattle.k_evaluation.specs.Places.{number, variable, index}
use Rattle.k_evaluation.specs.Operators.{convert, binary, both, either, cond, comma}
use Rattle.k_evaluation.specs.Assignments.{assign, assign_by, post}
use Rattle.k_evaluation.specs.Expressions.{eval_step}
use Rattle.k_evaluation.specs.Flows.{Doing, Within, means, in_order}
use Rattle.k_evaluation.specs.Statements.{break, return, chosen_arm, returns_moved, does_step, part_step, does}
use Rattle.k_evaluation.specs.Loops.{LoopParts, turns, loop}
use Rattle.k_evaluation.specs.Switches.{PartDoing, ACase, ADefault, AStatement, switches}
use Rattle.k_evaluation.specs.Calls.{runs, calls, result_of, within, entered}
use Rattle.k_evaluation.specs.Runs.{Run, ended, initial, whole, run}

-- a place in the first line
abbrev col : ℕ → Place
col n = record { line = 1; column = n }

-- a node at that place, of an int, and of a char
abbrev int : ℕ → Node
int n = record { number = n; place = col n; of = ttype.Number I32 }

abbrev char : ℕ → Node
char n = record { number = n; place = col n; of = ttype.Number I8 }

-- a node at that place, of an array of ints
abbrev array : ℕ → Node
array n = record { number = n; place = col n; of = ttype.Pointer (record { kind = I32; elements = 1 }) }

-- variables 0 and 1 are ints and 2 is a char, all in registers; 3 is an array of two ints
abbrev variables : List TVariable
variables =
    record { place = col 1; of = ttype.Number I32; elements = 0 }
    ∷ record { place = col 1; of = ttype.Number I32; elements = 0 }
    ∷ record { place = col 1; of = ttype.Number I8; elements = 0 }
    ∷ record { place = col 1; of = ttype.Pointer (record { kind = I32; elements = 1 }); elements = 2 }
    ∷ []

-- `void f(int n) {}`, where n is memory
abbrev function : TFunc
function = record {
  name = codes "f";
  place = col 60;
  close = col 69;
  nodes = 2;
  loops = 0;
  result = ttype.Void;
  params = 1;
  variables = record { place = col 62; of = ttype.Number I32; elements = 1 } ∷ [];
  body = [];
}

-- the read at the node of number 3 is broken
abbrev program : Program
program = record {
  unit = record { objects = []; strings = []; functions = function ∷ []; main = 1; nodes = 0; loops = 0 };
  marks = record { counted = []; broken = false ∷ false ∷ false ∷ true ∷ []; leaves = [] };
  latencies = standard_latencies;
}

-- a number that no operation gave, and one that did
abbrev plain : ℤ → Held
plain z = record { value = value.Number z; source = None }

abbrev given : ℤ → ℕ → Held
given z n = record { value = value.Number z; source = Some n }

-- a dependence
abbrev on : ℕ → Src
on n = record { number = n; broken = false }

-- a pointer to an element of the array
abbrev at_element : ℕ → Value
at_element n = value.Pointer (record { object = 0; offset = n })

-- the array's object, with these elements
abbrev array_of : List (Option ℤ) → Memory
array_of elements = record { live = record { number = 0; first = 0; writable = true; elements = elements } ∷ []; made = 1 }

-- a world in which these events have come, so many operations among them, and so many are left
abbrev world_of : List Event → ℕ → ℕ → World
world_of events made left = record (fresh left []) { events = events; made = made; memory = array_of (None ∷ None ∷ []); origins = None ∷ None ∷ [] }

-- the variables hold these ints and this char
abbrev state : Held → Held → Held → World → State
state i j c w = record { vars = Some i ∷ Some j ∷ Some c ∷ Some (record { value = at_element 0; source = None }) ∷ []; world = w }

-- i is 300, j is 0, c is 7, and ten operations may be made
abbrev start : State
start = state (plain (pos 300)) (plain (pos 0)) (plain (pos 7)) (world_of [] 0 10)

abbrev i_at : ℕ → Meaning
i_at n = variable program variables (int n) 0

abbrev j_at : ℕ → Meaning
j_at n = variable program variables (int n) 1

-- `c = i`, at columns 11, 12, 13: the conversion at i, and the move of it at `=`; the assignment is read when it is used
assigned : (assign program (char 12) (variable program variables (char 11) 2) (convert program (char 13) (i_at 13))).value true start
    ≡ Goes (Register 2 false) (state (plain (pos 300)) (plain (pos 0)) (given (pos 44) 1)
    (world_of (Op class.Conv 0 [] (col 13) ∷ Op class.Move 0 (on 0 ∷ []) (col 12) ∷ []) 2 8))
unfolding assign variable convert operation work effect hidden
assigned = refl

-- `i++` at column 12 whose value is used: the old value is moved first
post_used : (post program (int 12) (change.Number Add I32) (i_at 11)).value true start
    ≡ Goes (Holding (given (pos 300) 0)) (state (given (pos 301) 2) (plain (pos 0)) (plain (pos 7))
    (world_of (Op class.Move 0 [] (col 12) ∷ Op class.Simple 1 [] (col 12) ∷ Op class.Move 0 (on 1 ∷ []) (col 12) ∷ []) 3 7))
unfolding post variable operation work effect hidden
post_used = refl

-- and where it is not
post_unused : (post program (int 12) (change.Number Add I32) (i_at 11)).value false start
    ≡ Goes (Register 0 false) (state (given (pos 301) 1) (plain (pos 0)) (plain (pos 7))
    (world_of (Op class.Simple 1 [] (col 12) ∷ Op class.Move 0 (on 0 ∷ []) (col 12) ∷ []) 2 8))
unfolding post variable operation work effect hidden
post_unused = refl

-- `c++` of a char: the conversion, the operation, the conversion back and the move, all at the operator
post_char : (post program (char 12) (change.Number Add I32) (variable program variables (char 11) 2)).value false start
    ≡ Goes (Register 2 false) (state (plain (pos 300)) (plain (pos 0)) (given (pos 8) 3)
    (world_of (Op class.Conv 0 [] (col 12) ∷ Op class.Simple 1 (on 0 ∷ []) (col 12) ∷ Op class.Conv 0 (on 1 ∷ []) (col 12) ∷ Op class.Move 0 (on 2 ∷ []) (col 12) ∷ []) 4 6))
unfolding post variable operation work effect hidden
post_char = refl

-- i from operation 0, at the node of number 3, whose read is broken: `i += 1`
broken : (assign_by program (int 12) (change.Number Add I32) (i_at 3) (number (int 13) (pos 1))).value false (state (given (pos 5) 0) (plain (pos 0)) (plain (pos 7)) (world_of [] 1 10))
    ≡ Goes (Register 0 false) (state (given (pos 6) 2) (plain (pos 0)) (plain (pos 7))
    (world_of (Op class.Simple 1 (record { number = 0; broken = true } ∷ []) (col 12) ∷ Op class.Move 0 (on 1 ∷ []) (col 12) ∷ []) 3 8))
unfolding assign_by variable number operation work effect hidden
broken = refl

-- `i && j`: both run, the second under the test of the first; behind it the control source is as before
both_run : (both program (int 12) (i_at 11) (j_at 13)).value true start
    ≡ Goes (Holding (given (pos 0) 1)) (state (plain (pos 300)) (plain (pos 0)) (plain (pos 7))
    (world_of (Op class.Test 1 [] (col 12) ∷ Op class.Simple 1 (on 0 ∷ []) (col 12) ∷ []) 2 8))
unfolding both variable operation work effect hidden
both_run = refl

-- `j && i`: the test decides, and gives its own 0
first_decides : (both program (int 12) (j_at 11) (i_at 13)).value true start
    ≡ Goes (Holding (given (pos 0) 0)) (state (plain (pos 300)) (plain (pos 0)) (plain (pos 7)) (world_of (Op class.Test 1 [] (col 12) ∷ []) 1 9))
unfolding both variable operation work effect hidden
first_decides = refl

-- `i || j`: the test decides, and gives its own 1
either_decides : (either program (int 12) (i_at 11) (j_at 13)).value true start
    ≡ Goes (Holding (given (pos 1) 0)) (state (plain (pos 300)) (plain (pos 0)) (plain (pos 7)) (world_of (Op class.Test 1 [] (col 12) ∷ []) 1 9))
unfolding either variable operation work effect hidden
either_decides = refl

-- `j ? i : 9` at column 12: the move of the second arm runs under the test
second_arm : (cond program (int 12) (j_at 11) (i_at 13) (number (int 15) (pos 9))).value true start
    ≡ Goes (Holding (given (pos 9) 1)) (state (plain (pos 300)) (plain (pos 0)) (plain (pos 7))
    (world_of (Op class.Test 1 [] (col 12) ∷ Op class.Move 0 (on 0 ∷ []) (col 12) ∷ []) 2 8))
unfolding cond variable number operation work effect hidden
second_arm = refl

-- `a[1]`, at columns 20, 21, 22
abbrev element : Meaning
element = index program (int 21) (variable program variables (array 20) 3) (number (int 22) (pos 1))

-- `a[1] = i, a[1]` with `=` at column 24 and `,` at 26: the address and the store; and then the address and the load, whose operands are the
-- address and the element
stored_and_loaded : (comma (int 26) (assign program (int 24) element (i_at 25)) element).value true start
    ≡ Goes (Holding (given (pos 300) 3)) (record {
      vars = start.vars;
      world = record (world_of (Op class.Simple 1 [] (col 21) ∷ Op class.Store 1 (on 0 ∷ []) (col 24) ∷ Op class.Simple 1 [] (col 21) ∷ Op class.Load 4 (on 2 ∷ on 1 ∷ []) (col 21) ∷ []) 4 6) {
        memory = array_of (None ∷ Some (pos 300) ∷ []);
        origins = None ∷ Some 1 ∷ [];
      };
    })
unfolding comma assign index variable number operation work effect hidden
stored_and_loaded = refl

-- `a[1];`: what is not used is not read
not_read : element.value false start
    ≡ Goes nothing (state (plain (pos 300)) (plain (pos 0)) (plain (pos 7)) (world_of (Op class.Simple 1 [] (col 21) ∷ []) 1 9))
unfolding index variable number operation work effect hidden
not_read = refl

-- before its declaration the array is not set: the operation on its address traps
undeclared : element.value true (record { vars = Some (plain (pos 300)) ∷ Some (plain (pos 0)) ∷ Some (plain (pos 7)) ∷ None ∷ []; world = world_of [] 0 10 })
    ≡ Stops (Trapped Uninit (col 21)) (world_of [] 0 10)
unfolding index variable number operation work effect hidden
undeclared = refl

-- the array is set: the element that no item names is 0, and the item past the end is left out
filled : fills (record { value = at_element 0; source = None }) (record { element = 1; number = pos 8 } ∷ record { element = 2; number = pos 9 } ∷ []) start
    ≡ Goes tt (record start { world = record (world_of [] 0 10) { memory = array_of (Some (pos 0) ∷ Some (pos 8) ∷ []) } })
filled = refl

-- a call of `void f(int n)` with a second variable: an argument beyond the parameter is passed to none
passed : (entered (record function { variables = variables }) (Some (plain (pos 5)) ∷ Some (plain (pos 6)) ∷ []) start).vars
    ≡ Some (plain (pos 5)) ∷ None ∷ None ∷ None ∷ []
passed = refl

-- `f(i + 1)`, at columns 30, 32, 33, 34: the argument, the call, and in the function's region the store of the argument at the parameter
called : (binary program (int 33) Add I32 (i_at 32) (number (int 34) (pos 1))).value true start ≡ Goes (Holding (given (pos 301) 0)) (state (plain (pos 300)) (plain (pos 0)) (plain (pos 7)) (world_of (Op class.Simple 1 [] (col 33) ∷ []) 1 9))
unfolding binary variable number operation work effect hidden
called = refl

call_of : calls 1 program 0 (col 30) (Holding (given (pos 301) 0) ∷ []) (state (plain (pos 300)) (plain (pos 0)) (plain (pos 7)) (world_of [] 1 9))
    ≡ Goes nothing (record {
      vars = start.vars;
      world = record (world_of (Op class.Call 1 (on 0 ∷ []) (col 30) ∷ Enter 0 ∷ Op class.Store 1 (on 0 ∷ []) (col 62) ∷ Exit ∷ []) 3 7) { memory = record (array_of (None ∷ None ∷ [])) { made = 2 } };
    })
unfolding calls runs operation work effect hidden
call_of = refl

-- where no more calls may be live, the call operation is made, and then the trap is at its place
too_deep : calls 0 program 0 (col 30) (Constant (value.Number (pos 1)) ∷ []) start
    ≡ Stops (Trapped StackOverflow (col 30)) (world_of (Op class.Call 1 [] (col 30) ∷ []) 1 9)
unfolding calls operation work effect hidden
too_deep = refl

-- `while (1) { i = i / 20; if (i < 1) break; }` with `while` at column 40, `=` at 43, `/` at 45, `if` at 48 and `<` at 50: in the second turn
-- i is 0. The body holds a `break` of the loop, so behind it the control source stays.
abbrev divides : Doing
divides = record {
  does = (assign program (int 43) (i_at 42) (binary program (int 45) Div I32 (i_at 44) (number (int 46) (pos 20)))).value false >>= λ a. gives Normal;
  jumps = no_jumps;
}

abbrev breaks : Doing
breaks = record {
  does = settled true ((binary program (int 50) Lt I32 (i_at 49) (number (int 51) (pos 1))).value true >>= λ a. tests program (col 48) a >>= chosen_arm (gives Broke) (gives Normal));
  jumps = a_break;
}

abbrev two_turns : LoopParts
two_turns = record {
  test = tests program (col 40) (Constant (value.Number (pos 1)));
  step = gives tt;
  body = in_order (divides ∷ breaks ∷ []);
  counted = false;
  jumps = a_break;
}

-- each test runs under the test of the `if` before it, and the body under its own test
looped : loop two_turns 5 true start
    ≡ Goes Normal (state (given (pos 0) 7) (plain (pos 0)) (plain (pos 7)) (world_of (
    Enter 5
    ∷ Op class.Test 1 [] (col 40) ∷ Op class.Div 20 (on 0 ∷ []) (col 45) ∷ Op class.Move 0 (on 1 ∷ on 0 ∷ []) (col 43) ∷ Op class.Simple 1 (on 2 ∷ on 0 ∷ []) (col 50) ∷ Op class.Test 1 (on 3 ∷ on 0 ∷ []) (col 48)
    ∷ Op class.Test 1 (on 4 ∷ []) (col 40) ∷ Op class.Div 20 (on 2 ∷ on 5 ∷ []) (col 45) ∷ Op class.Move 0 (on 6 ∷ on 5 ∷ []) (col 43) ∷ Op class.Simple 1 (on 7 ∷ on 5 ∷ []) (col 50) ∷ Op class.Test 1 (on 8 ∷ on 5 ∷ []) (col 48)
    ∷ Exit ∷ []) 10 0))
unfolding assign binary variable number turns operation work effect hidden
looped = refl

-- `switch (c) { case 1: j = 5; break; case 7: j = 6; case 8: j = j + 1; break; default: ; }`: two comparisons, each with its select, of which
-- the second runs under the first; the statements from the equal case on run under the last select
abbrev sets_j : ℕ → ℤ → Doing
sets_j n z = record { does = (assign program (int n) (j_at n) (number (int (n + 1)) z)).value false >>= λ a. gives Normal; jumps = no_jumps }

abbrev adds_one : Doing
adds_one = record {
  does = (assign program (int 75) (j_at 74) (binary program (int 77) Add I32 (j_at 76) (number (int 78) (pos 1)))).value false >>= λ a. gives Normal;
  jumps = no_jumps;
}

switched : switches program I32
    (ACase (col 70) (pos 1) ∷ AStatement (sets_j 71 (pos 5)) ∷ AStatement break ∷ ACase (col 72) (pos 7) ∷ AStatement (sets_j 73 (pos 6)) ∷ ACase (col 79) (pos 8) ∷ AStatement adds_one ∷ AStatement break ∷ ADefault ∷ [])
    (Register 2 false) start
    ≡ Goes Normal (state (plain (pos 300)) (given (pos 7) 6) (plain (pos 7)) (record (world_of (
    Op class.Simple 1 [] (col 70) ∷ Op class.Select 1 (on 0 ∷ []) (col 70) ∷ Op class.Simple 1 (on 1 ∷ []) (col 72) ∷ Op class.Select 1 (on 2 ∷ on 1 ∷ []) (col 72)
    ∷ Op class.Move 0 (on 3 ∷ []) (col 73) ∷ Op class.Simple 1 (on 4 ∷ on 3 ∷ []) (col 77) ∷ Op class.Move 0 (on 5 ∷ on 3 ∷ []) (col 75) ∷ []) 7 3) { control = Some 3 }))
unfolding break assign binary variable number operation work effect hidden
switched = refl

-- THE ORDER OF TRAPS: no operation is left; else an operand is not set; else the work has no value
abbrev unset : ℕ → State
unset left = record { vars = None ∷ Some (plain (pos 0)) ∷ []; world = world_of [] 0 left }

out_of_steps : (binary program (int 12) Div I32 (i_at 11) (j_at 13)).value true (unset 0) ≡ Stops OutOfSteps (world_of [] 0 0)
unfolding binary variable operation work effect hidden
out_of_steps = refl

uninit : (binary program (int 12) Div I32 (i_at 11) (j_at 13)).value true (unset 1) ≡ Stops (Trapped Uninit (col 12)) (world_of [] 0 1)
unfolding binary variable operation work effect hidden
uninit = refl

by_zero : (binary program (int 12) Div I32 (i_at 11) (j_at 13)).value true start ≡ Stops (Trapped DivideByZero (col 12)) (world_of [] 0 10)
unfolding binary variable operation work effect hidden
by_zero = refl

-- `a[0]` of an element that is not set traps at its load, behind the address
element_unset : (index program (int 21) (variable program variables (array 20) 3) (number (int 22) (pos 0))).value true start
    ≡ Stops (Trapped Uninit (col 21)) (world_of (Op class.Simple 1 [] (col 21) ∷ []) 1 9)
unfolding index variable number operation work effect hidden
element_unset = refl

-- `a[2]`: the place behind the last element is an address, and its load is out of bounds
behind_the_last : (index program (int 21) (variable program variables (array 20) 3) (number (int 22) (pos 2))).value true start
    ≡ Stops (Trapped OutOfBounds (col 21)) (world_of (Op class.Simple 1 [] (col 21) ∷ []) 1 9)
unfolding index variable number operation work effect hidden
behind_the_last = refl

-- A WHOLE RUN of `int main(void){return 3*4;}`: the tree, its meaning, and each event
abbrev product : TExpr
product = typed.Binary (int 24) Mul I32 (typed.Number (int 23) (pos 3)) (typed.Number (int 25) (pos 4))

abbrev returns_product : TStmt
returns_product = stmt.Return (record { number = 0; place = col 16 }) (Some product)

abbrev main : TFunc
main = record {
  name = codes "main";
  place = col 5;
  close = col 27;
  nodes = 5;
  loops = 0;
  result = ttype.Number I32;
  params = 0;
  variables = [];
  body = returns_product ∷ [];
}

abbrev twelve : Program
twelve = record {
  unit = record { objects = []; strings = []; functions = main ∷ []; main = 0; nodes = 4; loops = 0 };
  marks = record { counted = []; broken = []; leaves = [] };
  latencies = standard_latencies;
}

-- what lies around main's statement
abbrev in_main : Within
in_main = within twelve (calls (call_limit - 1) twelve) 0 main

number_means : (n : ℕ) (z : ℤ) → means in_main (typed.Number (int n) z) ≡ number (int n) z
number_means n z =
    ap (means in_main) (sym (typed.rolls-Number (int n) z)) ∙ fold-roll-TExpr Meaning (eval_step twelve [] (calls (call_limit - 1) twelve)) (TExpr-F.Number (int n) z)

product_means : means in_main product ≡ binary twelve (int 24) Mul I32 (number (int 23) (pos 3)) (number (int 25) (pos 4))
product_means =
    ap (means in_main) (sym (typed.rolls-Binary (int 24) Mul I32 (typed.Number (int 23) (pos 3)) (typed.Number (int 25) (pos 4))))
    ∙ fold-roll-TExpr Meaning (eval_step twelve [] (calls (call_limit - 1) twelve)) (TExpr-F.Binary (int 24) Mul I32 (typed.Number (int 23) (pos 3)) (typed.Number (int 25) (pos 4)))
    ∙ (λ i. binary twelve (int 24) Mul I32 (number_means 23 (pos 3) i) (number_means 25 (pos 4) i))

return_does : does in_main returns_product ≡ return in_main (record { number = 0; place = col 16 }) (Some product)
return_does =
    ap (does in_main) (sym (stmt.rolls-Return (record { number = 0; place = col 16 }) (Some product)))
    ∙ fold-roll-TStmt PartDoing Doing part_step (does_step in_main) (TStmt-F.Return (record { number = 0; place = col 16 }) (Some product))

-- the run where main's statement does this
abbrev run_of : Doing → Run
run_of d = ended (region 0 (block ((gives {A = Unit {0}} tt >>= λ served. in_order (d ∷ [])) >>= result_of twelve 0 main)) (entered main [] (initial [] 10)))

-- the same where the returned value means this
abbrev run_returning : Meaning → Run
run_returning m = run_of (record { does = m.value true >>= returns_moved twelve (col 16); jumps = a_return })

whole_run : run twelve [] 10
    ≡ record { events = Enter 0 ∷ Op class.Mul 3 [] (col 24) ∷ Op class.Move 0 (on 0 ∷ []) (col 16) ∷ Exit ∷ []; output = []; end = Returned (pos 12) }
unfolding run whole runs return binary number operation work effect hidden
whole_run = ap run_of return_does ∙ ap run_returning product_means
