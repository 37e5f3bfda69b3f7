use Rattle.std.proofs.Common.{◌≡◌, ◌++◌, drop, List}
use Rattle.k_optab.specs.declared.event.Src.{Src}
use Rattle.k_world.specs.Operands.{sources_before}
use Rattle.k_world.proofs.source_list.sources.Given as goal

abbrev pub invariant-loop-read : goal.invariant-loop-read
invariant-loop-read l = (rest : List Src) → l.list ++ sources_before (drop l.read-index l.reads) rest ≡ sources_before l.fn.reads rest
