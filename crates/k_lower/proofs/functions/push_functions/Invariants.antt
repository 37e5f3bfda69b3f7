use Rattle.std.proofs.Common.{◌≡◌, ◌++◌, drop, length}
use Rattle.k_lower_code.specs.Programs.{code_funcs, functions_code}
use Rattle.k_lower.specs.Sources.{program_of}
use Rattle.k_lower.proofs.functions.push_functions.Given as goal

abbrev pub invariant-loop-f : goal.invariant-loop-f
invariant-loop-f l = record {
  number : l.number ≡ l.f-index;
  funcs :
      l.funcs.items ++ code_funcs (program_of l.source) l.number (length l.out.items) (drop l.f-index l.f-items)
      ≡ l.fn.funcs.items ++ code_funcs (program_of l.source) 0 (length l.fn.out.items) l.f-items;
  code :
      l.out.items ++ functions_code (program_of l.source) l.number (length l.out.items) (drop l.f-index l.f-items)
      ≡ l.fn.out.items ++ functions_code (program_of l.source) 0 (length l.fn.out.items) l.f-items;
}
