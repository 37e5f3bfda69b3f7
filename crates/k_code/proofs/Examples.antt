-- Runs of small codes, computed: each has ended after so many instructions.
use Rattle.std.proofs.Common.{◌≡◌, ℕ, zero, suc, List, [], ◌∷◌, Option, Some, None, refl, ap, ◌∙◌}
use Rattle.std.proofs.lemmas.Option.{none-some, same_Some}
use Rattle.k_optab.specs.declared.event.Event.{Event}
use Rattle.k_ending.specs.declared.ending.End.{End}
use Rattle.k_world.specs.Acts.{work, effect, hidden}
use Rattle.k_world.specs.Operations.{operation}
use Rattle.k_world.specs.Worlds.{World, fresh}
use Rattle.k_code.specs.declared.code.Code.{Code}
use Rattle.k_code.specs.declared.instruction.Do.TheVariants as act
use Rattle.k_code.specs.Examples.{Example, Runs, StaysWithoutMain, main_of}
use Rattle.k_code.specs.Examples as run
use Rattle.k_code.specs.Named.{operands, register_set}
use Rattle.k_code.specs.Runs.{with_object, start, run_of}
use Rattle.k_code.specs.Steps.{Configuration, Run, Going, Over, operation_of, behind, alone, step}

-- the end of a run with its events and its output
record Outcome : Type 0 where
  end : End
  events : List Event
  output : List ℕ

abbrev outcome_with : End → World → Outcome
outcome_with end w = record { end = end; events = w.events; output = w.output }

-- what a run has come to, if it has ended
abbrev outcome_of : Run → Option Outcome
outcome_of (Going c) = None
outcome_of (Over end w) = Some (outcome_with end w)

-- what an example's is to be
abbrev wanted : Example → Outcome
wanted x = record { end = x.end; events = x.events; output = x.output }

by_outcome : (x : Example) (n : ℕ) (r : Run) → run_of x.code x.input x.budget n ≡ r → outcome_of r ≡ Some (wanted x) → Runs x
by_outcome x n (Going c) is came = absurd (none-some (wanted x) came)
by_outcome x n (Over end w) is came =
    let same : outcome_with end w ≡ wanted x = same_Some (outcome_with end w) (wanted x) came in
    record {
      count = n;
      world = w;
      is = is ∙ ap (λ (o : Outcome). Over o.end w) same;
      events_are = ap (λ (o : Outcome). o.events) same;
      output_is = ap (λ (o : Outcome). o.output) same;
    }

-- an example's run has ended after so many steps
ended : (x : Example) (n : ℕ) → outcome_of (run_of x.code x.input x.budget n) ≡ Some (wanted x) → Runs x
ended x n came = by_outcome x n (run_of x.code x.input x.budget n) refl came

pub operations : Runs run.operations
unfolding step start with_object operation_of operands register_set behind alone operation work effect hidden
operations = ended run.operations 5 refl

pub conversion : Runs run.conversion
unfolding step start with_object operation_of operands register_set behind alone operation work effect hidden
conversion = ended run.conversion 3 refl

pub test_true : Runs run.test_true
unfolding step start with_object operation_of operands register_set behind alone operation work effect hidden
test_true = ended run.test_true 2 refl

pub test_false : Runs run.test_false
unfolding step start with_object operation_of operands register_set behind alone operation work effect hidden
test_false = ended run.test_false 2 refl

pub two_turns : Runs run.two_turns
unfolding step start with_object operation_of operands register_set behind alone operation work effect hidden
two_turns = ended run.two_turns 6 refl

pub save : Runs run.save
unfolding step start with_object operation_of operands register_set behind alone operation work effect hidden
save = ended run.save 9 refl

pub keep : Runs run.keep
unfolding step start with_object operation_of operands register_set behind alone operation work effect hidden
keep = ended run.keep 9 refl

pub back : Runs run.back
unfolding step start with_object operation_of operands register_set behind alone operation work effect hidden
back = ended run.back 9 refl

pub restore : Runs run.restore
unfolding step start with_object operation_of operands register_set behind alone operation work effect hidden
restore = ended run.restore 9 refl

pub regions : Runs run.regions
unfolding step start with_object operation_of operands register_set behind alone operation work effect hidden
regions = ended run.regions 5 refl

pub call : Runs run.call
unfolding step start with_object operation_of operands register_set behind alone operation work effect hidden
call = ended run.call 8 refl

pub call_for_nothing : Runs run.call_for_nothing
unfolding step start with_object operation_of operands register_set behind alone operation work effect hidden
call_for_nothing = ended run.call_for_nothing 4 refl

pub operand_lacking : Runs run.operand_lacking
unfolding step start with_object operation_of operands register_set behind alone operation work effect hidden
operand_lacking = ended run.operand_lacking 2 refl

pub operand_dropped : Runs run.operand_dropped
unfolding step start with_object operation_of operands register_set behind alone operation work effect hidden
operand_dropped = ended run.operand_dropped 2 refl

pub call_too_large : Runs run.call_too_large
unfolding step start with_object operation_of operands register_set behind alone operation work effect hidden
call_too_large = ended run.call_too_large 1 refl

pub call_of_main : Runs run.call_of_main
unfolding step start with_object operation_of operands register_set behind alone operation work effect hidden
call_of_main = ended run.call_of_main 7 refl

pub object_filled : Runs run.object_filled
unfolding step start with_object operation_of operands register_set behind alone operation work effect hidden
object_filled = ended run.object_filled 5 refl

pub element_stored : Runs run.element_stored
unfolding step start with_object operation_of operands register_set behind alone operation work effect hidden
element_stored = ended run.element_stored 8 refl

pub second_object : Runs run.second_object
unfolding step start with_object operation_of operands register_set behind alone operation work effect hidden
second_object = ended run.second_object 6 refl

pub program_object : Runs run.program_object
unfolding step start with_object operation_of operands register_set behind alone operation work effect hidden
program_object = ended run.program_object 3 refl

pub program_string : Runs run.program_string
unfolding step start with_object operation_of operands register_set behind alone operation work effect hidden
program_string = ended run.program_string 3 refl

pub pointer_moved : Runs run.pointer_moved
unfolding step start with_object operation_of operands register_set behind alone operation work effect hidden
pointer_moved = ended run.pointer_moved 4 refl

pub pointers_compared : Runs run.pointers_compared
unfolding step start with_object operation_of operands register_set behind alone operation work effect hidden
pointers_compared = ended run.pointers_compared 4 refl

pub object_unset : Runs run.object_unset
unfolding step start with_object operation_of operands register_set behind alone operation work effect hidden
object_unset = ended run.object_unset 3 refl

pub object_closed : Runs run.object_closed
unfolding step start with_object operation_of operands register_set behind alone operation work effect hidden
object_closed = ended run.object_closed 4 refl

pub newer_closed : Runs run.newer_closed
unfolding step start with_object operation_of operands register_set behind alone operation work effect hidden
newer_closed = ended run.newer_closed 7 refl

pub object_of_call : Runs run.object_of_call
unfolding step start with_object operation_of operands register_set behind alone operation work effect hidden
object_of_call = ended run.object_of_call 6 refl

pub forgotten : Runs run.forgotten
unfolding step start with_object operation_of operands register_set behind alone operation work effect hidden
forgotten = ended run.forgotten 3 refl

pub fall_off : Runs run.fall_off
unfolding step start with_object operation_of operands register_set behind alone operation work effect hidden
fall_off = ended run.fall_off 1 refl

pub bytes : Runs run.bytes
unfolding step start with_object operation_of operands register_set behind alone operation work effect hidden
bytes = ended run.bytes 5 refl

pub format : Runs run.format
unfolding step start with_object operation_of operands register_set behind alone operation work effect hidden
format = ended run.format 2 refl

pub trapped : Runs run.trapped
unfolding step start with_object operation_of operands register_set behind alone operation work effect hidden
trapped = ended run.trapped 2 refl

pub out_of_steps : Runs run.out_of_steps
unfolding step start with_object operation_of operands register_set behind alone operation work effect hidden
out_of_steps = ended run.out_of_steps 2 refl

pub end_as_int : Runs run.end_as_int
unfolding step start with_object operation_of operands register_set behind alone operation work effect hidden
end_as_int = ended run.end_as_int 1 refl

pub end_with_pointer : Runs run.end_with_pointer
unfolding step start with_object operation_of operands register_set behind alone operation work effect hidden
end_with_pointer = ended run.end_with_pointer 2 refl

pub end_with_nothing : Runs run.end_with_nothing
unfolding step start with_object operation_of operands register_set behind alone operation work effect hidden
end_with_nothing = ended run.end_with_nothing 1 refl

-- the configuration of a run without a main
abbrev without_main : Code
without_main = record (main_of (act.Return None ∷ [])) { main = 1 }

abbrev waits : Configuration
waits = record {
  pc = 1;
  frame = record { func = 1; registers = λ k. None; saved = []; regions = 0; base = 0 };
  waiting = [];
  world = fresh 20 [];
}

waits_on : (n : ℕ) → run_of without_main [] 20 n ≡ Going waits
unfolding step start
waits_on zero = refl
waits_on (suc n) = ap (step without_main) (waits_on n)

pub stays_without_main : StaysWithoutMain
stays_without_main n = (waits, waits_on n)
