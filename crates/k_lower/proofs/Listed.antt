-- Functions and their code, one behind the other.
use Rattle.std.proofs.Common.{ℕ, ◌≡◌, ◌+◌, ◌-◌, ◌<◌, ◌≤◌, List, [], ◌∷◌, ◌++◌, take, drop, get_or, length, slice_get, Some, Result, Ok, Err, refl, sym, ap, subst, ◌∙◌, append_assoc, arith}
use Rattle.std.specs.Prelude.{IfOk}
use Rattle.std.proofs.lemmas.List.{drop_at, drop_more, length-drop, take_all}
use Rattle.std.proofs.lemmas.Option.{slice_get_read}
use Rattle.k_num.specs.declared.memory.NoMemory.{NoMemory}
use Rattle.k_types_meaning.specs.declared.tree.unit.TFunc.{TFunc}
use Rattle.k_code.specs.declared.code.Code.{Code}
use Rattle.k_code.specs.declared.code.CodeFunc.{CodeFunc}
use Rattle.k_code.specs.declared.instruction.Instr.{Instr}
use Rattle.k_evaluation.specs.States.{Program}
use Rattle.k_lower_code.specs.Functions.{function, function_code}
use Rattle.k_lower_code.specs.Programs.{code_func, code_funcs, flattened, functions_code}
use Rattle.k_lower_expressions.proofs.Emitted.{Emitted}
use Rattle.k_lower_parts.specs.Parts.{code_with, func_with, outside_loops}
use Rattle.k_lower_statements.specs.Sites.{at_site}

-- all that stand from a number on
pub all_from : (n : ℕ) (instrs : List Instr) → n ≤ length instrs → take (length instrs - n) (drop n instrs) ≡ drop n instrs
all_from n instrs below =
    (let long : length (drop n instrs) ≡ length instrs - n = length-drop n instrs in
    take_all (length instrs - n) (drop n instrs) (omega (arith, long)))

-- a function begins where its code was emitted
pub func_is : (program : Program) (number : ℕ) (f : TFunc) (entry : ℕ) (old new : List Instr) (func : CodeFunc) → entry ≡ length old
    → Emitted {A = Unit {0}} tt (at_site (outside_loops 0) (function program number f)) old new
    → func ≡ func_with number f entry (drop entry new) → func ≡ code_func program number f (length old)
func_is program number f entry old new func entry_is one is =
    is ∙ (ap (λ (n : ℕ). func_with number f n (drop n new)) entry_is
    ∙ ap (func_with number f (length old)) (ap (drop (length old)) one.code ∙ drop_at old (function_code program number f (length old)) (length old) refl))

-- the instructions from where it begins on are there
pub entry_below : (program : Program) (number : ℕ) (f : TFunc) (entry : ℕ) (old new : List Instr) → entry ≡ length old
    → Emitted {A = Unit {0}} tt (at_site (outside_loops 0) (function program number f)) old new → entry ≤ length new
entry_below program number f entry old new entry_is one =
    (let long : length new ≡ length old + (function program number f).size = one.size in omega (arith, long, entry_is))

-- the function of a number, as a loop meets it
pub is_there : (fs items : List TFunc) (n i : ℕ) (f : TFunc) → items ≡ fs → n ≡ i → i < length items → f ≡ get_or items i f → slice_get fs n ≡ Some f
is_there fs items n i f items_are n_is below is =
    subst (λ (xs : List TFunc). slice_get xs n ≡ Some f) items_are
    (subst (λ (m : ℕ). slice_get items m ≡ Some f) (sym n_is) (slice_get_read items (length items) i f refl below is))

module _ (program : Program) (fs : List TFunc) (n i : ℕ) (f : TFunc) where
  from_here : i < length fs → f ≡ get_or fs i f → drop i fs ≡ f ∷ drop (i + 1) fs
  from_here below is = drop_more fs i f below ∙ ap (λ (g : TFunc). g ∷ drop (i + 1) fs) (sym is)

  -- one function more
  pub more_funcs : (next : ℕ) (old now : List Instr) (before more all : List CodeFunc) → next ≡ n + 1 → i < length fs → f ≡ get_or fs i f
      → Emitted {A = Unit {0}} tt (at_site (outside_loops 0) (function program n f)) old now
      → more ≡ before ++ code_func program n f (length old) ∷ [] → before ++ code_funcs program n (length old) (drop i fs) ≡ all
      → more ++ code_funcs program next (length now) (drop (i + 1) fs) ≡ all
  more_funcs next old now before more all next_is below is one more_is so_far =
      (let func : CodeFunc = code_func program n f (length old) in
      ap (λ (k : ℕ). more ++ code_funcs program k (length now) (drop (i + 1) fs)) next_is
      ∙ (ap (λ (xs : List CodeFunc). xs ++ code_funcs program (n + 1) (length now) (drop (i + 1) fs)) more_is
      ∙ (append_assoc before (func ∷ []) (code_funcs program (n + 1) (length now) (drop (i + 1) fs))
      ∙ (ap (λ (m : ℕ). before ++ func ∷ code_funcs program (n + 1) m (drop (i + 1) fs)) one.size
      ∙ (ap (λ (gs : List TFunc). before ++ code_funcs program n (length old) gs) (sym (from_here below is)) ∙ so_far)))))

  pub more_code : (next : ℕ) (old now all : List Instr) → next ≡ n + 1 → i < length fs → f ≡ get_or fs i f
      → Emitted {A = Unit {0}} tt (at_site (outside_loops 0) (function program n f)) old now → old ++ functions_code program n (length old) (drop i fs) ≡ all
      → now ++ functions_code program next (length now) (drop (i + 1) fs) ≡ all
  more_code next old now all next_is below is one so_far =
      (let code : List Instr = function_code program n f (length old) in
      ap (λ (k : ℕ). now ++ functions_code program k (length now) (drop (i + 1) fs)) next_is
      ∙ (ap (λ (xs : List Instr). xs ++ functions_code program (n + 1) (length now) (drop (i + 1) fs)) one.code
      ∙ (append_assoc old code (functions_code program (n + 1) (length now) (drop (i + 1) fs))
      ∙ (ap (λ (m : ℕ). old ++ (code ++ functions_code program (n + 1) m (drop (i + 1) fs))) one.size
      ∙ (ap (λ (gs : List TFunc). old ++ functions_code program n (length old) gs) (sym (from_here below is)) ∙ so_far)))))

-- THE CODE OF A PROGRAM, of its functions and their instructions
flattened_is : (program : Program) (funcs : List CodeFunc) (instrs : List Instr) (code : Code) → code ≡ code_with program.unit funcs instrs
    → funcs ≡ code_funcs program 0 0 program.unit.functions → instrs ≡ functions_code program 0 0 program.unit.functions → code ≡ flattened program
unfolding flattened
flattened_is program funcs instrs code is funcs_are instrs_are = is ∙ (λ i. code_with program.unit (funcs_are i) (instrs_are i))

pub lowered_is : (program : Program) (funcs : List CodeFunc) (instrs : List Instr) (result : Result Code NoMemory)
    → IfOk result (λ code. code ≡ code_with program.unit funcs instrs) → funcs ≡ code_funcs program 0 0 program.unit.functions
    → instrs ≡ functions_code program 0 0 program.unit.functions → IfOk result (λ code. code ≡ flattened program)
lowered_is program funcs instrs (Ok code) is funcs_are instrs_are = flattened_is program funcs instrs code is funcs_are instrs_are
lowered_is program funcs instrs (Err e) is funcs_are instrs_are = tt
