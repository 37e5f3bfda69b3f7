use Rattle.std.proofs.Common.{◌≡◌, ◌++◌, drop}
use Rattle.k_pragma.specs.Marked.{pragmas_in}
use Rattle.k_pragma.proofs.pragmas.pragmas_in.Given as goal

abbrev pub invariant-loop-function : goal.invariant-loop-function
invariant-loop-function l = record {
  counted : l.number ≡ l.function-index;
  left :
      l.pragmas.items ++ pragmas_in l.among l.counted l.written l.number (drop l.function-index l.functions)
      ≡ pragmas_in l.among l.counted l.written 0 l.functions;
}
