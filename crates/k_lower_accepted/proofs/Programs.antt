-- A program as its source is accepted fits, and each expression in it is sound.
use Rattle.std.proofs.Common.{ℕ, zero, suc, ◌≡◌, ◌+◌, ◌*◌, ◌<◌, ◌≤◌, Bool, true, false, List, [], ◌∷◌, ◌++◌, map, length, slice_get, Option, Some, sym, ◌∙◌, ap, subst, arith, length-append}
use Rattle.std.specs.Prelude.{not}
use Rattle.std.proofs.lemmas.List.{length-map}
use Rattle.std.proofs.lemmas.Option.{none-some, same_Some}
use Rattle.k_tree.specs.declared.tree.unit.Unit as source
use Rattle.k_tree.specs.Count.{unit_count}
use Rattle.k_tree.specs.Literals.{StringsFit}
use Rattle.k_tree.specs.Places.{lay_unit}
use Rattle.k_tree.specs.Spelling.{spelling}
use Rattle.k_tree.proofs.Laid.{unit_spelled}
use Rattle.k_tree.proofs.Standing.{stand-kinds}
use Rattle.k_types_meaning.specs.declared.tree.unit.TFunc.{TFunc}
use Rattle.k_types_meaning.specs.declared.tree.unit.TUnit.{TUnit}
use Rattle.k_types_meaning.specs.Bare.{IsTyped}
use Rattle.k_types_meaning.specs.Numbered.{IsNumbered, function_numbers}
use Rattle.k_evaluation.specs.Calls.{function_region}
use Rattle.k_evaluation.specs.States.{Program}
use Rattle.k_regions.specs.Laws.{AreItsRegions}
use Rattle.k_regions.specs.Regions.{function_itself, regions_of}
use Rattle.k_regions.proofs.Names.{main_found}
use Rattle.k_regions.proofs.Numbers.{below_length, have_numbers, no_others}
use Rattle.k_lower_code.specs.Functions.{function}
use Rattle.k_lower_code.specs.Programs.{flattened, literal, plain}
use Rattle.k_lower_fits.specs.Fits.{callee, has_values, limits_of}
use Rattle.k_lower_fits.specs.Laws.{FunctionFits}
use Rattle.k_lower_fits.proofs.Placing.{declarations_are_placed}
use Rattle.k_lower_fits.proofs.Sources.{functions_fit}
use Rattle.k_lower_fits.proofs.Split.{all_of}
use Rattle.k_lower_sizes.specs.Laws.{StaysSmall, nodes_of}
use Rattle.k_lower_sizes.proofs.Counts.{nodes_add_up, nodes_cons}
use Rattle.k_lower_sizes.proofs.Sources.{stay_small}
use Rattle.k_lower_texts.specs.Laws.{CallsPass}
use Rattle.k_lower_texts.specs.Passing.{body_passes}
use Rattle.k_lower_texts.proofs.Sources.{functions_pass}
use Rattle.k_lower_valid.specs.Fitting.{FitsFunction}
use Rattle.k_lower_valid.specs.Names.{all_right, outermost, stmt_right}
use Rattle.k_lower_valid.proofs.Functions.{function_not_empty}
use Rattle.k_lower_valid.proofs.Programs.{funcs_long}
use Rattle.k_lower_accepted.specs.Accepted.{IsAccepted}
use Rattle.k_lower_accepted.specs.Laws.{AcceptedProgramsAreSound, AcceptedProgramsFit}
use Rattle.k_lower_accepted.specs.Sound.{body_sound}
use Rattle.k_lower_runs.specs.Sound.{alike, call_fits, calls_fit}
use Rattle.k_lower_accepted.proofs.Formats.{asks_of, formats_follow, numbers_follow, strings_pass}
use Rattle.k_lower_accepted.proofs.Statements.{body_shown}

-- THE STRINGS of the tree are those of the tokens
spelled_so : (unit : source.Unit) (program : Program) (h : IsAccepted unit program) → StringsFit (spelling unit)
spelled_so unit program h = subst StringsFit (stand-kinds (lay_unit unit) h.tokens h.placed ∙ unit_spelled unit h.ranked) h.strings

-- CALLS that have values alike fit
alike_same : (a b : Bool) → a ≡ b → alike a b ≡ true
alike_same true b is = sym is
alike_same false b is = ap not (sym is)

calls_pass : (unit : TUnit) → CallsPass (asks_of unit) unit
calls_pass unit of n f is same = ap (λ (o : Option TFunc). call_fits o of) is ∙ alike_same (has_values of) (has_values f.result) same

-- THE FLAT CODE has as many of each
funcs_many : (program : Program) → length (flattened program).funcs ≡ length program.unit.functions
unfolding flattened
funcs_many program = funcs_long program 0 0 program.unit.functions

regions_many : (program : Program) → IsNumbered program.unit → length (flattened program).regions ≡ length program.unit.functions + 2 * program.unit.loops
unfolding flattened
regions_many program numbered = no_others program.unit numbered

pub objects_many : (program : Program) → length (flattened program).objects ≡ length program.unit.objects + length program.unit.strings
unfolding flattened
objects_many program =
    let both : length (map plain program.unit.objects ++ map literal program.unit.strings) ≡ length (map plain program.unit.objects) + length (map literal program.unit.strings) =
    length-append (map plain program.unit.objects) (map literal program.unit.strings) in
    let os : length (map plain program.unit.objects) ≡ length program.unit.objects = length-map program.unit.objects plain in
    let ts : length (map literal program.unit.strings) ≡ length program.unit.strings = length-map program.unit.strings literal in
    omega (arith, both, os, ts)

region_there : (program : Program) (number : ℕ) (f : TFunc) → IsNumbered program.unit → slice_get program.unit.functions number ≡ Some f → function_region number f < length (flattened program).regions
unfolding flattened
region_there program number f numbered is =
    let its : AreItsRegions (regions_of program.unit) number f = have_numbers program.unit numbered number f is in
    below_length (regions_of program.unit) (function_region number f) (function_itself f) its.itself

-- of a function of a list, the nodes are among those of all
nodes_in : (fs : List TFunc) (n : ℕ) (f : TFunc) → slice_get fs n ≡ Some f → f.nodes ≤ nodes_of fs
nodes_in [] n f is = absurd (none-some f is)
nodes_in (g ∷ fs) zero f is =
    let total : nodes_of (g ∷ fs) ≡ g.nodes + nodes_of fs = nodes_cons g fs in
    subst (λ (x : TFunc). x.nodes ≤ nodes_of (g ∷ fs)) (same_Some g f is) (omega (arith, total))
nodes_in (g ∷ fs) (suc n) f is =
    let total : nodes_of (g ∷ fs) ≡ g.nodes + nodes_of fs = nodes_cons g fs in
    let rest : f.nodes ≤ nodes_of fs = nodes_in fs n f is in
    omega (arith, total, rest)

-- what a function's statements are
record IsRight (program : Program) (number : ℕ) (f : TFunc) : Type 0 where
  right : all_right outermost (map (stmt_right program (flattened program) number) f.body) ≡ true
  sound : body_sound (length f.variables) (calls_fit program.unit) f.body ≡ true

module _ (unit : source.Unit) (program : Program) (h : IsAccepted unit program) where
  numbered : IsNumbered program.unit
  unfolding IsTyped
  numbered = h.typed.3

  function_right : (number : ℕ) (f : TFunc) → slice_get program.unit.functions number ≡ Some f → IsRight program number f
  function_right number f is =
      let fits : FunctionFits program.unit f = functions_fit unit program.unit number f h.typed h.faultless is in
      let passes : body_passes (asks_of program.unit) f.body ≡ true =
      functions_pass (asks_of program.unit) unit program.unit number f (formats_follow program.unit) (numbers_follow program.unit) (strings_pass program.unit (spelling unit) (spelled_so unit program h)) (calls_pass program.unit) h.ranked
      h.typed h.faultless is in
      let funcs : length (flattened program).funcs ≡ length program.unit.functions = funcs_many program in
      let callees : length (map callee program.unit.functions) ≡ length program.unit.functions = length-map program.unit.functions callee in
      let objects : length (flattened program).objects ≡ length program.unit.objects + length program.unit.strings = objects_many program in
      let regions : length (flattened program).regions ≡ length program.unit.functions + 2 * program.unit.loops = regions_many program numbered in
      let low : number < length program.unit.functions = below_length program.unit.functions number f is in
      let all = body_shown program (flattened program) (limits_of program.unit f) (length program.unit.strings) program.unit.loops number (omega (arith, funcs, callees)) (omega (arith, objects))
      (λ n there. omega (arith, there, objects)) (λ n there. omega (arith, there, regions, low)) f.body fits.body (declarations_are_placed unit program.unit number f h.ranked h.typed is) passes
      (all_of (λ n. n < length program.unit.strings) (function_numbers f).strings fits.strings) (all_of (λ n. n < program.unit.loops) (function_numbers f).loops fits.loops) in
      record { right = all.0; sound = all.1 }

  pub nodes_few : (number : ℕ) (f : TFunc) → slice_get program.unit.functions number ≡ Some f → f.nodes ≤ 262144
  nodes_few number f is =
      let one : f.nodes ≤ nodes_of program.unit.functions = nodes_in program.unit.functions number f is in
      let total : length program.unit.objects + nodes_of program.unit.functions ≤ unit_count unit = nodes_add_up unit program.unit h.typed in
      let few : unit_count unit ≤ 262144 = h.few in
      omega (arith, one, total, few)

  function_fits : (number : ℕ) (f : TFunc) → slice_get program.unit.functions number ≡ Some f → FitsFunction program number f
  function_fits number f is =
      let small : StaysSmall program number f = stay_small unit program number f h.typed h.faultless is in
      let right = (function_right number f is).right in
      let some : 1 ≤ (function program number f).size = function_not_empty (flattened program) program h.latencies number f right in
      let few : (function program number f).size ≤ 512 * f.nodes = small.instructions in
      let low : f.nodes ≤ 262144 = nodes_few number f is in
      record {
        right = right;
        region = region_there program number f numbered is;
        least_size = omega (arith, some, few);
        greatest_size = omega (arith, low);
        registers = small.registers;
        instructions = small.instructions;
      }

-- THE LAWS
pub programs_fit : AcceptedProgramsFit
programs_fit unit program h =
    let found = main_found unit program.unit h.typed h.faultless in
    record {
      table = h.latencies;
      main = below_length program.unit.functions program.unit.main found.0 found.1;
      functions = function_fits unit program h;
    }

pub programs_are_sound : AcceptedProgramsAreSound
programs_are_sound unit program number f h is = (function_right unit program h number f is).sound
