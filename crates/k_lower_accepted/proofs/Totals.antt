-- The flat code of an accepted program is small as a whole.
use Rattle.std.proofs.Common.{ℕ, zero, suc, ◌≡◌, ◌+◌, ◌*◌, ◌≤◌, max, List, [], ◌∷◌, ◌++◌, length, slice_get, Some, refl, ap, subst, arith, length-append}
use Rattle.std.proofs.lemmas.Option.{none-some, same_Some}
use Rattle.k_tree.specs.Count.{unit_count}
use Rattle.k_types_meaning.specs.declared.tree.unit.TFunc.{TFunc}
use Rattle.k_code.specs.declared.code.CodeFunc.{CodeFunc}
use Rattle.k_evaluation.specs.States.{Program}
use Rattle.k_regions.specs.Regions.{regions_of}
use Rattle.k_regions.proofs.Few.{are_few}
use Rattle.k_lower_code.specs.Functions.{function, function_code, registers_of}
use Rattle.k_lower_code.specs.Programs.{code_func, code_funcs, flattened, functions_code}
use Rattle.k_lower_sizes.specs.Laws.{StaysSmall, nodes_of}
use Rattle.k_lower_sizes.proofs.Counts.{nodes_add_up, nodes_cons}
use Rattle.k_lower_sizes.proofs.Sources.{stay_small}
use Rattle.k_lower_sizes.proofs.Strings.{strings_are_few}
use Rattle.k_lower_valid.specs.Fitting.{FitsProgram}
use Rattle.k_lower_valid.proofs.Programs.{AllSized, funcs_are, funcs_long, instrs_are, sizes}
use Rattle.k_lower_accepted.specs.Laws.{AcceptedProgramsAreSmall}
use Rattle.k_lower_accepted.proofs.Programs.{nodes_few, objects_many, programs_fit}

-- INSTRUCTIONS, 512 for each node
code_few : (program : Program) (number first : ℕ) (fs : List TFunc) → AllSized program number fs → ((k : ℕ) (f : TFunc) → slice_get fs k ≡ Some f → (function program (number + k) f).size ≤ 512 * f.nodes)
    → length (functions_code program number first fs) ≤ 512 * nodes_of fs
code_few program number first [] sized each = omega arith
code_few program number first (f ∷ fs) sized each =
    let rest_code = functions_code program (number + 1) (first + (function program number f).size) fs in
    let both : length (function_code program number f first ++ rest_code) ≡ length (function_code program number f first) + length rest_code = length-append (function_code program number f first) rest_code in
    let long : length (function_code program number f first) ≡ (function program number f).size = sized.0.sized first in
    let few : (function program number f).size ≤ 512 * f.nodes =
    subst (λ (n : ℕ). (function program n f).size ≤ 512 * f.nodes) (let e : number + 0 ≡ number = omega arith in e) (each 0 f refl) in
    let rest : length rest_code ≤ 512 * nodes_of fs =
    code_few program (number + 1) (first + (function program number f).size) fs sized.1
    (λ k g is. subst (λ (n : ℕ). (function program n g).size ≤ 512 * g.nodes) (let e : number + suc k ≡ (number + 1) + k = omega arith in e) (each (suc k) g is)) in
    let nodes : nodes_of (f ∷ fs) ≡ f.nodes + nodes_of fs = nodes_cons f fs in
    omega (arith, both, long, few, rest, nodes)

-- functions are no more than their nodes, where each has some
functions_few : (fs : List TFunc) → ((k : ℕ) (f : TFunc) → slice_get fs k ≡ Some f → 1 ≤ f.nodes) → length fs ≤ nodes_of fs
functions_few [] each = omega arith
functions_few (f ∷ fs) each =
    let one : 1 ≤ f.nodes = each 0 f refl in
    let rest : length fs ≤ nodes_of fs = functions_few fs (λ k g is. each (suc k) g is) in
    let nodes : nodes_of (f ∷ fs) ≡ f.nodes + nodes_of fs = nodes_cons f fs in
    omega (arith, one, rest, nodes)

-- REGISTERS of a function of the code
registers_few : (program : Program) (number first : ℕ) (fs : List TFunc)
    → ((k : ℕ) (f : TFunc) → slice_get fs k ≡ Some f → (at : ℕ) → max f.params (registers_of (function_code program (number + k) f at)) ≤ 524288)
    → (n : ℕ) (c : CodeFunc) → slice_get (code_funcs program number first fs) n ≡ Some c → c.registers ≤ 524288
registers_few program number first [] each n c is = absurd (none-some c is)
registers_few program number first (f ∷ fs) each zero c is =
    subst (λ (x : CodeFunc). x.registers ≤ 524288) (same_Some (code_func program number f first) c is)
    (subst (λ (n : ℕ). max f.params (registers_of (function_code program n f first)) ≤ 524288) (let e : number + 0 ≡ number = omega arith in e) (each 0 f refl first))
registers_few program number first (f ∷ fs) each (suc n) c is =
    registers_few program (number + 1) (first + (function program number f).size) fs
    (λ k g there at. subst (λ (m : ℕ). max g.params (registers_of (function_code program m g at)) ≤ 524288) (let e : number + suc k ≡ (number + 1) + k = omega arith in e) (each (suc k) g there at)) n c is

from_zero : (P : ℕ → Type 0) (k : ℕ) → P k → P (0 + k)
from_zero P k p = subst P (let e : k ≡ 0 + k = omega arith in e) p

regions_few : (program : Program) (n : ℕ) → length (regions_of program.unit) ≤ n → length (flattened program).regions ≤ n
unfolding flattened
regions_few program n few = few

pub programs_are_small : AcceptedProgramsAreSmall
programs_are_small unit program h =
    let fits : FitsProgram program = programs_fit unit program h in
    let small : (n : ℕ) (f : TFunc) → slice_get program.unit.functions n ≡ Some f → StaysSmall program n f = λ n f is. stay_small unit program n f h.typed h.faultless is in
    let total : length program.unit.objects + nodes_of program.unit.functions ≤ unit_count unit = nodes_add_up unit program.unit h.typed in
    let few : unit_count unit ≤ 262144 = h.few in
    let functions : length program.unit.functions ≤ nodes_of program.unit.functions = functions_few program.unit.functions (λ k f is. (fits.functions k f is).least_size) in
    let long : length (code_funcs program 0 0 program.unit.functions) ≡ length program.unit.functions = funcs_long program 0 0 program.unit.functions in
    let funcs : length (flattened program).funcs ≡ length (code_funcs program 0 0 program.unit.functions) = ap (λ (cs : List CodeFunc). length cs) (funcs_are program fits) in
    let code : length (functions_code program 0 0 program.unit.functions) ≤ 512 * nodes_of program.unit.functions =
    code_few program 0 0 program.unit.functions (sizes program fits) (λ k f is. from_zero (λ (n : ℕ). (function program n f).size ≤ 512 * f.nodes) k (small k f is).instructions) in
    let instrs : length (flattened program).instrs ≡ length (functions_code program 0 0 program.unit.functions) = ap (λ xs. length xs) (instrs_are program fits) in
    let objects : length (flattened program).objects ≡ length program.unit.objects + length program.unit.strings = objects_many program in
    let strings : length program.unit.strings ≤ 32 * nodes_of program.unit.functions = strings_are_few unit program.unit h.typed h.faultless in
    let regions : length (regions_of program.unit) ≤ 2 * unit_count unit = are_few unit program.unit h.typed in
    record {
      funcs = omega (arith, funcs, long, functions, total, few);
      instrs = omega (arith, instrs, code, total, few);
      regions = regions_few program 524288 (omega (arith, regions, few));
      objects = omega (arith, objects, strings, total, few);
      each = λ n c is.
          registers_few program 0 0 program.unit.functions
          (λ k f there at.
          from_zero (λ (m : ℕ). max f.params (registers_of (function_code program m f at)) ≤ 524288) k
          (let most : max f.params (registers_of (function_code program k f at)) ≤ 2 * f.nodes = (small k f there).registers at in
          let low : f.nodes ≤ 262144 = nodes_few unit program h k f there in
          omega (arith, most, low))) n c (subst (λ (cs : List CodeFunc). slice_get cs n ≡ Some c) (funcs_are program fits) is);
      sizes = λ n f is.
          let most : (function program n f).size ≤ 512 * f.nodes = (small n f is).instructions in
          let low : f.nodes ≤ 262144 = nodes_few unit program h n f is in
          omega (arith, most, low);
    }
